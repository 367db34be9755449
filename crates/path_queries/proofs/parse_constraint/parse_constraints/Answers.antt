use Rattle.std.proofs.Common.{◌≡◌, ◌∙◌, sym, subst, ap, ◌<◌, ◌≤◌, length, [], ◌∷◌, ◌++◌, map, vec_len, arith}
use Rattle.std.proofs.lemmas.List.{length-map, map-append}
use Rattle.path_queries.specs.View.{constraint}
use Rattle.path_queries.specs.ConstraintReading.{ConstraintsStop}
use Rattle.path_queries.proofs.Exits.{stops_with}
use Rattle.path_queries.proofs.ConstraintLists.{SoFar, first_of_list, list_goes_on, list_ends, list_end_stops, first_stops, next_stops, seventeenth_stops}
use Rattle.path_queries.proofs.parse_constraint.parse_constraints.Goals as goal

pub commas-init : goal.commas-init
commas-init c =
    rw (c.in_ok-push.ensures.items, c.new-list.ensures.items)
    (first_of_list c.args.model.now (c.args.scope.now ++ c.args.new.now) c.args.tokens.now c.args.at c.in_ok-first.next (constraint c.in_ok-first.first) c.in_ok-first.ensures.reads)

pub commas-preserved : goal.commas-preserved
commas-preserved c =
    let scope = c.args.scope.now ++ c.args.new.now in
    let found = map constraint c.commas.list.items in
    let count : length found ≡ length c.commas.list.items = length-map c.commas.list.items constraint in
    let few : length found < 16 = omega (arith, c.len.ensures) in
    subst (SoFar c.args.model.now scope c.args.tokens.now c.args.at c.in_ok-read.after)
    (sym (ap (map constraint) c.in_ok-push-2.ensures.items ∙ map-append constraint c.commas.list.items (c.in_ok-read.read ∷ [])))
    (list_goes_on c.args.model.now scope c.args.tokens.now c.args.at c.commas.next c.in_ok-read.after found (constraint c.in_ok-read.read) c.commas.invariant
    (sym c.sign_at.ensures ∙ c.in-Comma.is) few c.in_ok-read.ensures.reads)

pub returns-in-End-clause-reads : goal.returns-in-End-clause-reads
returns-in-End-clause-reads c =
    list_ends c.args.model.now (c.args.scope.now ++ c.args.new.now) c.args.tokens.now c.args.at c.commas.next (map constraint c.commas.list.items) c.commas.invariant
    (sym c.sign_at-2.ensures ∙ c.in-End.is)

pub returns-in_default-sign_at-clause-stop : goal.returns-in_default-sign_at-clause-stop
returns-in_default-sign_at-clause-stop c =
    list_end_stops c.args.model.now (c.args.scope.now ++ c.args.new.now) c.args.tokens.now c.args.at c.commas.next (map constraint c.commas.list.items) c.stop_at.result
    c.commas.invariant (λ e. c.in_default.not-Comma (c.sign_at.ensures ∙ e)) (λ e. c.in_default-sign_at.not-End (c.sign_at-2.ensures ∙ e)) c.stop_at.ensures

pub returns-in_err-first-clause-stop : goal.returns-in_err-first-clause-stop
returns-in_err-first-clause-stop c =
    let scope = c.args.scope.now ++ c.args.new.now in
    stops_with c.from_residual.result (ConstraintsStop c.args.model.now scope c.args.tokens.now c.args.at) c.in_err-first.field-0.0 c.from_residual.ensures.1
    (first_stops c.args.model.now scope c.args.tokens.now c.args.at c.in_err-first.field-0.0 c.in_err-first.ensures.stop)

pub returns-in_err-read-clause-stop : goal.returns-in_err-read-clause-stop
returns-in_err-read-clause-stop c =
    let scope = c.args.scope.now ++ c.args.new.now in
    let found = map constraint c.commas.list.items in
    let count : length found ≡ length c.commas.list.items = length-map c.commas.list.items constraint in
    let few : length found < 16 = omega (arith, c.len.ensures) in
    stops_with c.from_residual-in_err-read.result (ConstraintsStop c.args.model.now scope c.args.tokens.now c.args.at) c.in_err-read.field-0.0 c.from_residual-in_err-read.ensures.1
    (next_stops c.args.model.now scope c.args.tokens.now c.args.at c.commas.next found c.in_err-read.field-0.0 c.commas.invariant
    (sym c.sign_at.ensures ∙ c.in-Comma.is) few c.in_err-read.ensures.stop)

pub returns-then-len-ge-MOST_CONSTRAINTS-clause-stop : goal.returns-then-len-ge-MOST_CONSTRAINTS-clause-stop
returns-then-len-ge-MOST_CONSTRAINTS-clause-stop c =
    let scope = c.args.scope.now ++ c.args.new.now in
    let found = map constraint c.commas.list.items in
    let count : length found ≡ length c.commas.list.items = length-map c.commas.list.items constraint in
    let many : 16 ≤ length found = omega (arith, c.len.ensures) in
    seventeenth_stops c.args.model.now scope c.args.tokens.now c.args.at c.commas.next found c.seventeenth_at.result c.commas.invariant
    (sym c.sign_at.ensures ∙ c.in-Comma.is) many c.seventeenth_at.ensures
