use Rattle.std.proofs.Common.{◌≡◌, ◌∙◌, sym, ap, ◌++◌}
use Rattle.std.specs.Prelude.{option_map}
use Rattle.meaning.specs.QueryFaults.{an_attribute}
use Rattle.path_queries.specs.ConstraintReading.{StopsAt}
use Rattle.path_queries.proofs.Exits.{stops_with}
use Rattle.path_queries.proofs.ConstraintLaws.{test_reads, attribute_stops, comparison_stops, text_stops}
use Rattle.path_queries.proofs.parse_constraint.parse_test.Goals as goal

pub returns-in_err-attr-clause-stop : goal.returns-in_err-attr-clause-stop
returns-in_err-attr-clause-stop c =
    let scope = c.args.scope.now ++ c.args.new.now in
    stops_with c.from_residual.result (StopsAt c.args.model.now scope c.args.tokens.now c.args.at (an_attribute c.args.var)) c.in_err-attr.field-0.0 c.from_residual.ensures.1
    (attribute_stops c.args.model.now scope c.args.tokens.now c.args.at c.args.var c.in_err-attr.field-0.0 c.in_err-attr.ensures.none c.in_err-attr.ensures.stop)

pub returns-in_err-equal-clause-stop : goal.returns-in_err-equal-clause-stop
returns-in_err-equal-clause-stop c =
    let scope = c.args.scope.now ++ c.args.new.now in
    stops_with c.from_residual-in_err-equal.result (StopsAt c.args.model.now scope c.args.tokens.now c.args.at (an_attribute c.args.var)) c.in_err-equal.field-0.0
    c.from_residual-in_err-equal.ensures.1
    (comparison_stops c.args.model.now scope c.args.tokens.now c.args.at c.args.var c.in_ok-attr.attr c.in_err-equal.field-0.0 c.in_ok-attr.ensures.number
    c.in_err-equal.ensures.none c.in_err-equal.ensures.stop)

pub returns-in_ok-text-in-Some-clause-reads : goal.returns-in_ok-text-in-Some-clause-reads
returns-in_ok-text-in-Some-clause-reads c =
    rw (c.in_ok-text-in-Some.ensures)
    (test_reads c.args.model.now (c.args.scope.now ++ c.args.new.now) c.args.tokens.now c.args.at c.args.var c.in_ok-attr.attr c.in_ok-equal.equal c.in-Some.text.now
    c.in_ok-attr.ensures.number c.in_ok-equal.ensures.equal (sym c.quoted_at.ensures ∙ ap (option_map (λ s. s.now)) c.in-Some.is))

pub returns-in-None-clause-stop : goal.returns-in-None-clause-stop
returns-in-None-clause-stop c =
    text_stops c.args.model.now (c.args.scope.now ++ c.args.new.now) c.args.tokens.now c.args.at c.args.var c.in_ok-attr.attr c.in_ok-equal.equal c.stop_at.result
    c.in_ok-attr.ensures.number c.in_ok-equal.ensures.equal (sym c.quoted_at.ensures ∙ ap (option_map (λ s. s.now)) c.in-None.is) c.stop_at.ensures
