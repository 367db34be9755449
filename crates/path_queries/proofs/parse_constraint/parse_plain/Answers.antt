use Rattle.std.proofs.Common.{◌≡◌, ◌∙◌, sym, ◌+◌, ◌++◌}
use Rattle.path_queries.specs.View.{path, constraint}
use Rattle.meaning.specs.QueryFaults.{an_attribute}
use Rattle.path_queries.specs.ConstraintReading.{ReadsTest, ReadsConstraint, StopsAt, ConstraintStops}
use Rattle.path_queries.proofs.Exits.{stops_with, ok_along, err_along}
use Rattle.path_queries.proofs.FirstConstraints.{plain_walk_reads, plain_test_reads, variable_stops, behind_variable_stops, plain_walk_stops, plain_test_stops}
use Rattle.path_queries.proofs.parse_constraint.parse_plain.Goals as goal

pub returns-in_err-from-clause-stop : goal.returns-in_err-from-clause-stop
returns-in_err-from-clause-stop c =
    let scope = c.args.scope.now ++ c.args.new.now in
    stops_with c.from_residual.result (ConstraintStops c.args.model.now scope c.args.tokens.now c.args.at) c.in_err-from.field-0.0 c.from_residual.ensures.1
    (variable_stops c.args.model.now scope c.args.tokens.now c.args.at c.in_err-from.field-0.0 c.requires.plain c.in_err-from.ensures.none c.in_err-from.ensures.stop)

pub returns-in_err-path-in-OpenBracket-clause-stop : goal.returns-in_err-path-in-OpenBracket-clause-stop
returns-in_err-path-in-OpenBracket-clause-stop c =
    let scope = c.args.scope.now ++ c.args.new.now in
    let stop = c.in_err-path-in-OpenBracket.field-0.0 in
    stops_with c.from_residual-in_err-path-in-OpenBracket.result (ConstraintStops c.args.model.now scope c.args.tokens.now c.args.at) stop
    c.from_residual-in_err-path-in-OpenBracket.ensures.1
    (plain_walk_stops c.args.model.now scope c.args.tokens.now c.args.at c.in_ok-from.from stop c.requires.plain c.in_ok-from.ensures.number
    (sym c.sign_at.ensures ∙ c.in-OpenBracket.is) c.in_err-path-in-OpenBracket.ensures.stop)

pub returns-in_ok-path-in-OpenBracket-clause-reads : goal.returns-in_ok-path-in-OpenBracket-clause-reads
returns-in_ok-path-in-OpenBracket-clause-reads c =
    let walk = c.in_ok-path-in-OpenBracket in
    plain_walk_reads c.args.model.now (c.args.scope.now ++ c.args.new.now) c.args.tokens.now c.args.at walk.next c.in_ok-from.from (path walk.path) walk.to c.requires.plain
    c.in_ok-from.ensures.number (sym c.sign_at.ensures ∙ c.in-OpenBracket.is) walk.ensures.reads

pub returns-in-Dot : goal.returns-in-Dot
returns-in-Dot c =
    let m = c.args.model.now in
    let scope = c.args.scope.now ++ c.args.new.now in
    let tokens = c.args.tokens.now in
    let dots = sym c.sign_at.ensures ∙ c.in-Dot.is in
    record {
      reads = ok_along c.parse_test.result (λ read. ReadsTest m scope tokens (c.args.at + 2) read.1 c.in_ok-from.from (constraint read.0))
          (λ read. ReadsConstraint m scope tokens c.args.at read.1 (constraint read.0))
          (λ read h. plain_test_reads m scope tokens c.args.at read.1 c.in_ok-from.from (constraint read.0) c.requires.plain c.in_ok-from.ensures.number dots h) c.parse_test.ensures.reads;
      stop = err_along c.parse_test.result (StopsAt m scope tokens (c.args.at + 2) (an_attribute c.in_ok-from.from)) (ConstraintStops m scope tokens c.args.at)
          (λ stop h. plain_test_stops m scope tokens c.args.at c.in_ok-from.from stop c.requires.plain c.in_ok-from.ensures.number dots h) c.parse_test.ensures.stop;
    }

pub returns-in_default-clause-stop : goal.returns-in_default-clause-stop
returns-in_default-clause-stop c =
    behind_variable_stops c.args.model.now (c.args.scope.now ++ c.args.new.now) c.args.tokens.now c.args.at c.in_ok-from.from c.stop_at.result c.requires.plain
    c.in_ok-from.ensures.number (λ e. c.in_default.not-OpenBracket (c.sign_at.ensures ∙ e)) (λ e. c.in_default.not-Dot (c.sign_at.ensures ∙ e)) c.stop_at.ensures
