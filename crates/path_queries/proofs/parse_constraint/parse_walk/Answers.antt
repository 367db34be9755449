use Rattle.std.proofs.Common.{◌≡◌, ◌∙◌, sym, ◌++◌}
use Rattle.meaning.specs.QueryFaults.{a_step}
use Rattle.path_queries.specs.View.{path}
use Rattle.path_queries.specs.ConstraintReading.{StopsAt}
use Rattle.path_queries.proofs.Exits.{stops_with}
use Rattle.path_queries.proofs.ConstraintLaws.{walk_reads, unclosed_walk_stops, walk_end_stops, path_stops_walk}
use Rattle.path_queries.proofs.parse_constraint.parse_walk.Goals as goal

pub returns-in_err-walked-clause-stop : goal.returns-in_err-walked-clause-stop
returns-in_err-walked-clause-stop c =
    let scope = c.args.scope.now ++ c.args.new.now in
    stops_with c.from_residual.result (StopsAt c.args.model.now scope c.args.tokens.now c.args.at (a_step 0)) c.in_err-walked.field-0.0 c.from_residual.ensures.1
    (path_stops_walk c.args.model.now scope c.args.tokens.now c.args.at c.in_err-walked.field-0.0 c.in_err-walked.ensures.stop)

pub returns-in_err-target-in-CloseBracket-clause-stop : goal.returns-in_err-target-in-CloseBracket-clause-stop
returns-in_err-target-in-CloseBracket-clause-stop c =
    let scope = c.args.scope.now ++ c.args.new.now in
    let stop = c.in_err-target-in-CloseBracket.field-0.0 in
    stops_with c.from_residual-in_err-target-in-CloseBracket.result (StopsAt c.args.model.now scope c.args.tokens.now c.args.at (a_step 0)) stop
    c.from_residual-in_err-target-in-CloseBracket.ensures.1
    (walk_end_stops c.args.model.now scope c.args.tokens.now c.args.at c.in_ok-walked.next (path c.in_ok-walked.walked) stop c.in_ok-walked.ensures.reads
    (sym c.sign_at.ensures ∙ c.in-CloseBracket.is) c.in_err-target-in-CloseBracket.ensures.none c.in_err-target-in-CloseBracket.ensures.stop)

pub returns-in_ok-target-in-CloseBracket-clause-reads : goal.returns-in_ok-target-in-CloseBracket-clause-reads
returns-in_ok-target-in-CloseBracket-clause-reads c =
    walk_reads c.args.model.now (c.args.scope.now ++ c.args.new.now) c.args.tokens.now c.args.at c.in_ok-walked.next (path c.in_ok-walked.walked)
    c.in_ok-target-in-CloseBracket.target c.in_ok-walked.ensures.reads (sym c.sign_at.ensures ∙ c.in-CloseBracket.is) c.in_ok-target-in-CloseBracket.ensures.number

pub returns-in_default-clause-stop : goal.returns-in_default-clause-stop
returns-in_default-clause-stop c =
    unclosed_walk_stops c.args.model.now (c.args.scope.now ++ c.args.new.now) c.args.tokens.now c.args.at c.in_ok-walked.next (path c.in_ok-walked.walked) c.stop_at.result
    c.in_ok-walked.ensures.reads (λ e. c.in_default.not-CloseBracket (c.sign_at.ensures ∙ e)) c.stop_at.ensures
