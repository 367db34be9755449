use Rattle.std.proofs.Common.{◌∙◌, ◌<◌, List, Bool, get_or, length, sym, ap, subst, true, false, ◌||◌, arith}
use Rattle.std.specs.Prelude.{find}
use Rattle.std.specs.List.{All}
use Rattle.std.proofs.lemmas.List.{length-map}
use Rattle.std.proofs.lemmas.List.Elements.{All-weaker}
use Rattle.meaning.specs.Systems.{is_some_number}
use Rattle.worlds.specs.Rows.{row_at}
use Rattle.worlds.proofs.Kept.{kept_itself, holds_as}
use Rattle.worlds.proofs.Rows.{row_set, row_as_before, at_row}
use Rattle.featured_systems.specs.Rounds.{places, states_at, state_at, comes, first_into, front_at}
use Rattle.featured_systems.proofs.Places.{IsPlace, all_places}
use Rattle.featured_systems.proofs.entering.enter_state.Goals as goal

pub enter-requires-clause-numbers : goal.enter-requires-clause-numbers
enter-requires-clause-numbers g c =
    let ts = c.args.transitions.now in
    let targets = states_at true ts in
    let long = length-map ts (state_at true) in
    subst (All (λ t. t < length ts)) (sym c.requires.numbers)
    (All-weaker (IsPlace 0 c.args.y targets) (λ t. t < length ts) (λ t p. omega (arith, p.below, long)) (places 0 c.args.y targets) (all_places c.args.y targets))

pub returns-clause-reached : goal.returns-clause-reached
returns-clause-reached g c =
    let a0 = g.W.Worlds.algebra c.args.w.now in
    let ts = c.args.transitions.now in
    let reached = c.args.found.now.reached.items in
    let y = c.args.y in
    let front = λ (x : List Bool). front_at a0 ts c.args.steps.now c.args.last.now x in
    let made = holds_as _ (λ x. get_or (row_at a0 reached x) y false || is_some_number (first_into (front x) y))
    (λ x w. ap (λ p. p || is_some_number (find (comes (front x)) c.args.numbers.now)) (at_row a0 reached x y c.index-before.result.now c.requires.state c.index-before.ensures)
    ∙ ap (λ ns. get_or (row_at a0 reached x) y false || is_some_number (find (comes (front x)) ns)) c.requires.numbers)
    c.in_ok-seen.ensures.seen in
    row_set y c.in_ok-seen.seen c.enter.ensures.worked.kept (row_as_before reached (kept_itself a0) c.requires.reached) made
