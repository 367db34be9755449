use Rattle.std.proofs.Common.{◌≡◌, ◌∙◌, sym, ◌++◌}
use Rattle.meaning.specs.QueryFaults.{a_negated_walk}
use Rattle.path_queries.specs.View.{path}
use Rattle.path_queries.specs.ConstraintReading.{StopsAt}
use Rattle.path_queries.proofs.Exits.{stops_with}
use Rattle.path_queries.proofs.ConstraintLaws.{negated_reads, negated_variable_stops, negated_bracket_stops, negated_walk_stops}
use Rattle.path_queries.proofs.parse_constraint.parse_negated.Goals as goal

pub returns-in_err-from-clause-stop : goal.returns-in_err-from-clause-stop
returns-in_err-from-clause-stop c =
    let scope = c.args.scope.now ++ c.args.new.now in
    stops_with c.from_residual.result (StopsAt c.args.model.now scope c.args.tokens.now c.args.at a_negated_walk) c.in_err-from.field-0.0 c.from_residual.ensures.1
    (negated_variable_stops c.args.model.now scope c.args.tokens.now c.args.at c.in_err-from.field-0.0 c.in_err-from.ensures.none c.in_err-from.ensures.stop)

pub returns-in_err-path-in-OpenBracket-clause-stop : goal.returns-in_err-path-in-OpenBracket-clause-stop
returns-in_err-path-in-OpenBracket-clause-stop c =
    let scope = c.args.scope.now ++ c.args.new.now in
    let stop = c.in_err-path-in-OpenBracket.field-0.0 in
    stops_with c.from_residual-in_err-path-in-OpenBracket.result (StopsAt c.args.model.now scope c.args.tokens.now c.args.at a_negated_walk) stop
    c.from_residual-in_err-path-in-OpenBracket.ensures.1
    (negated_walk_stops c.args.model.now scope c.args.tokens.now c.args.at c.in_ok-from.from stop c.in_ok-from.ensures.number
    (sym c.sign_at.ensures ∙ c.in-OpenBracket.is) c.in_err-path-in-OpenBracket.ensures.stop)

pub returns-in_ok-path-in-OpenBracket-clause-reads : goal.returns-in_ok-path-in-OpenBracket-clause-reads
returns-in_ok-path-in-OpenBracket-clause-reads c =
    let walk = c.in_ok-path-in-OpenBracket in
    negated_reads c.args.model.now (c.args.scope.now ++ c.args.new.now) c.args.tokens.now c.args.at walk.next c.in_ok-from.from (path walk.path) walk.to c.in_ok-from.ensures.number
    (sym c.sign_at.ensures ∙ c.in-OpenBracket.is) walk.ensures.reads

pub returns-in_default-clause-stop : goal.returns-in_default-clause-stop
returns-in_default-clause-stop c =
    negated_bracket_stops c.args.model.now (c.args.scope.now ++ c.args.new.now) c.args.tokens.now c.args.at c.in_ok-from.from c.stop_at.result c.in_ok-from.ensures.number
    (λ e. c.in_default.not-OpenBracket (c.sign_at.ensures ∙ e)) c.stop_at.ensures
