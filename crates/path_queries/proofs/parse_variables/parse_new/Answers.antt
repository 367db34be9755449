use Rattle.std.proofs.Common.{◌≡◌, ◌∙◌, sym}
use Rattle.path_queries.specs.VariableReading.{ReadsNew, NewStops}
use Rattle.path_queries.proofs.Exits.{stops_with}
use Rattle.path_queries.proofs.QueryLaws.{without_variables, behind_variables, variables_stop, behind_stops}
use Rattle.path_queries.proofs.parse_variables.parse_new.Goals as goal

pub returns-then-begins_conditions_at-clause-reads : goal.returns-then-begins_conditions_at-clause-reads
returns-then-begins_conditions_at-clause-reads c =
    rw (c.new.ensures.items)
    (without_variables c.args.model.now c.args.scope.now c.args.tokens.now (sym c.begins_conditions_at.ensures ∙ c.if-begins_conditions_at.true))

pub returns-in_err-new-clause-stop : goal.returns-in_err-new-clause-stop
returns-in_err-new-clause-stop c =
    let stop = c.in_err-new.field-0.0 in
    stops_with c.from_residual.result (NewStops c.args.model.now c.args.scope.now c.args.tokens.now) stop c.from_residual.ensures.1
    (variables_stop c.args.model.now c.args.scope.now c.args.tokens.now stop (sym c.begins_conditions_at.ensures ∙ c.if-begins_conditions_at.false) c.in_err-new.ensures.stop)

pub returns-then-not-begins_conditions_at-clause-stop : goal.returns-then-not-begins_conditions_at-clause-stop
returns-then-not-begins_conditions_at-clause-stop c =
    behind_stops c.args.model.now c.args.scope.now c.args.tokens.now c.in_ok-new.next c.in_ok-new.new.items c.stop_at.result c.in_ok-new.ensures.reads
    (sym c.begins_conditions_at.ensures ∙ c.if-begins_conditions_at.false) (sym c.begins_conditions_at-2.ensures ∙ c.if-not-begins_conditions_at.true) c.stop_at.ensures

pub returns-clause-reads : goal.returns-clause-reads
returns-clause-reads c =
    behind_variables c.args.model.now c.args.scope.now c.args.tokens.now c.in_ok-new.next c.in_ok-new.new.items c.in_ok-new.ensures.reads
    (sym c.begins_conditions_at.ensures ∙ c.if-begins_conditions_at.false) (sym c.begins_conditions_at-2.ensures ∙ c.if-not-begins_conditions_at.false)
