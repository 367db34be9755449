use Rattle.std.proofs.Common.{◌≡◌, ◌∙◌, sym, ap, ◌+◌, ◌-◌, ◌++◌, length, get_or, arith}
use Rattle.std.proofs.lemmas.List.{get_or_append_left, get_or-append-add, get_or_past}
use Rattle.path_queries.proofs.Meetings.{variable_is}
use Rattle.path_queries.proofs.answering.meeting.element_of.Goals as goal

pub returns-then-place-bound : goal.returns-then-place-bound
returns-then-place-bound c =
    let bound = c.args.bound.now in
    let given = c.args.given.now in
    let place = c.from-place.result in
    let same : c.args.variable ≡ place = omega arith in
    sym (variable_is (bound ++ given) c.args.variable ∙ ap (λ i. get_or (bound ++ given) i 0) same ∙ get_or_append_left bound given 0 place c.if-place-bound.true)

pub returns-then-later-given : goal.returns-then-later-given
returns-then-later-given c =
    let bound = c.args.bound.now in
    let given = c.args.given.now in
    let later = c.from-place.result - length bound in
    let same : c.args.variable ≡ length bound + later = omega arith in
    sym (variable_is (bound ++ given) c.args.variable ∙ ap (λ i. get_or (bound ++ given) i 0) same ∙ get_or-append-add bound given later 0)

pub returns-else-later-given : goal.returns-else-later-given
returns-else-later-given c =
    let bound = c.args.bound.now in
    let given = c.args.given.now in
    let later = c.from-place.result - length bound in
    let same : c.args.variable ≡ length bound + later = omega arith in
    sym (variable_is (bound ++ given) c.args.variable ∙ ap (λ i. get_or (bound ++ given) i 0) same ∙ get_or-append-add bound given later 0 ∙ get_or_past given later 0 c.if-later-given.false)
