use Rattle.std.proofs.Common.{◌≡◌, ◌∙◌, sym, ◌+◌}
use Rattle.path_queries.specs.View.{path}
use Rattle.path_queries.specs.PathReading.{PathStops}
use Rattle.path_queries.proofs.Exits.{stops_with}
use Rattle.path_queries.proofs.PathLaws.{step_begins, step_ends, chain_goes_on, sequence_begins, sequence_ends, sequence_goes_on, stops_behind_slash, path_begins, path_ends, path_goes_on, stops_behind_bar, link_reads, back_reads, group_reads, link_stops, back_stops, group_stops, unclosed_stops}
use Rattle.path_queries.proofs.parse_path.+paths.Goals as goal

-- ---- rows

pub parse_path-returns-in_err-right-clause-stop : goal.parse_path-returns-in_err-right-clause-stop
parse_path-returns-in_err-right-clause-stop t c =
    stops_with c.from_residual-in_err-right.result (PathStops c.args.model.now c.args.tokens.now c.args.at) c.in_err-right.field-0.0 c.from_residual-in_err-right.ensures.1
    (stops_behind_bar c.args.model.now c.args.tokens.now c.args.at c.bars.next (path c.bars.left) c.in_err-right.field-0.0 c.bars.invariant
    (sym c.sign_at.ensures ∙ c.in-Bar.is) c.in_err-right.ensures.stop)

pub parse_path-bars-preserved : goal.parse_path-bars-preserved
parse_path-bars-preserved t c =
    rw (c.in_ok-new.ensures.ok, c.in_ok-new-2.ensures.ok)
    (path_goes_on c.args.model.now c.args.tokens.now c.args.at c.bars.next c.in_ok-right.after (path c.bars.left) (path c.in_ok-right.right) c.bars.invariant
    (sym c.sign_at.ensures ∙ c.in-Bar.is) c.in_ok-right.ensures.reads)

pub parse_path-returns-clause-reads : goal.parse_path-returns-clause-reads
parse_path-returns-clause-reads t c =
    path_ends c.args.model.now c.args.tokens.now c.args.at c.bars.next (path c.bars.left) c.bars.invariant (λ e. c.in_default.not-Bar (c.sign_at.ensures ∙ e))

pub parse_sequence-returns-in_err-right-clause-stop : goal.parse_sequence-returns-in_err-right-clause-stop
parse_sequence-returns-in_err-right-clause-stop t c =
    stops_with c.from_residual-in_err-right.result (PathStops c.args.model.now c.args.tokens.now c.args.at) c.in_err-right.field-0.0 c.from_residual-in_err-right.ensures.1
    (stops_behind_slash c.args.model.now c.args.tokens.now c.args.at c.slashes.next (path c.slashes.left) c.in_err-right.field-0.0 c.slashes.invariant
    (sym c.sign_at.ensures ∙ c.in-Slash.is) c.in_err-right.ensures.stop)

pub parse_sequence-slashes-preserved : goal.parse_sequence-slashes-preserved
parse_sequence-slashes-preserved t c =
    rw (c.in_ok-new.ensures.ok, c.in_ok-new-2.ensures.ok)
    (sequence_goes_on c.args.model.now c.args.tokens.now c.args.at c.slashes.next c.in_ok-right.after (path c.slashes.left) (path c.in_ok-right.right) c.slashes.invariant
    (sym c.sign_at.ensures ∙ c.in-Slash.is) c.in_ok-right.ensures.reads)

pub parse_sequence-returns-clause-reads : goal.parse_sequence-returns-clause-reads
parse_sequence-returns-clause-reads t c =
    sequence_ends c.args.model.now c.args.tokens.now c.args.at c.slashes.next (path c.slashes.left) c.slashes.invariant (λ e. c.in_default.not-Slash (c.sign_at.ensures ∙ e))

pub parse_step-pluses-preserved : goal.parse_step-pluses-preserved
parse_step-pluses-preserved t c =
    rw (c.in_ok-new.ensures.ok)
    (chain_goes_on c.args.model.now c.args.tokens.now c.args.at c.pluses.next (path c.pluses.left) c.pluses.invariant (sym c.sign_at.ensures ∙ c.in-Plus.is))

pub parse_step-returns-clause-reads : goal.parse_step-returns-clause-reads
parse_step-returns-clause-reads t c =
    step_ends c.args.model.now c.args.tokens.now c.args.at c.pluses.next (path c.pluses.left) c.pluses.invariant (λ e. c.in_default.not-Plus (c.sign_at.ensures ∙ e))

-- ---- operands

pub parse_atom-returns-in_err-kind-in-Caret-clause-stop : goal.parse_atom-returns-in_err-kind-in-Caret-clause-stop
parse_atom-returns-in_err-kind-in-Caret-clause-stop t c =
    stops_with c.from_residual.result (PathStops c.args.model.now c.args.tokens.now c.args.at) c.in_err-kind-in-Caret.field-0.0 c.from_residual.ensures.1
    (back_stops c.args.model.now c.args.tokens.now c.args.at c.in_err-kind-in-Caret.field-0.0 (sym c.sign_at.ensures ∙ c.in-Caret.is)
    c.in_err-kind-in-Caret.ensures.none c.in_err-kind-in-Caret.ensures.stop)

pub parse_atom-returns-in_err-inner-in-OpenParen-clause-stop : goal.parse_atom-returns-in_err-inner-in-OpenParen-clause-stop
parse_atom-returns-in_err-inner-in-OpenParen-clause-stop t c =
    stops_with c.from_residual-in_err-inner-in-OpenParen.result (PathStops c.args.model.now c.args.tokens.now c.args.at) c.in_err-inner-in-OpenParen.field-0.0
    c.from_residual-in_err-inner-in-OpenParen.ensures.1
    (group_stops c.args.model.now c.args.tokens.now c.args.at c.in_err-inner-in-OpenParen.field-0.0 (sym c.sign_at.ensures ∙ c.in-OpenParen.is)
    c.in_err-inner-in-OpenParen.ensures.stop)

pub parse_atom-returns-in_err-kind-in_default-clause-stop : goal.parse_atom-returns-in_err-kind-in_default-clause-stop
parse_atom-returns-in_err-kind-in_default-clause-stop t c =
    stops_with c.from_residual-in_err-kind-in_default.result (PathStops c.args.model.now c.args.tokens.now c.args.at) c.in_err-kind-in_default.field-0.0
    c.from_residual-in_err-kind-in_default.ensures.1
    (link_stops c.args.model.now c.args.tokens.now c.args.at c.in_err-kind-in_default.field-0.0 (λ e. c.in_default.not-Caret (c.sign_at.ensures ∙ e))
    (λ e. c.in_default.not-OpenParen (c.sign_at.ensures ∙ e)) c.in_err-kind-in_default.ensures.none c.in_err-kind-in_default.ensures.stop)

pub parse_atom-returns-in_ok-kind-in-Caret-clause-reads : goal.parse_atom-returns-in_ok-kind-in-Caret-clause-reads
parse_atom-returns-in_ok-kind-in-Caret-clause-reads t c =
    back_reads c.args.model.now c.args.tokens.now c.args.at c.in_ok-kind-in-Caret.kind (sym c.sign_at.ensures ∙ c.in-Caret.is) c.in_ok-kind-in-Caret.ensures.kind

pub parse_atom-returns-in-CloseParen-clause-reads : goal.parse_atom-returns-in-CloseParen-clause-reads
parse_atom-returns-in-CloseParen-clause-reads t c =
    group_reads c.args.model.now c.args.tokens.now c.args.at c.in_ok-inner-in-OpenParen.next (path c.in_ok-inner-in-OpenParen.inner)
    (sym c.sign_at.ensures ∙ c.in-OpenParen.is) c.in_ok-inner-in-OpenParen.ensures.reads (sym c.sign_at-in-OpenParen.ensures ∙ c.in-CloseParen.is)

pub parse_atom-returns-in_default-sign_at-clause-stop : goal.parse_atom-returns-in_default-sign_at-clause-stop
parse_atom-returns-in_default-sign_at-clause-stop t c =
    unclosed_stops c.args.model.now c.args.tokens.now c.args.at c.in_ok-inner-in-OpenParen.next (path c.in_ok-inner-in-OpenParen.inner) c.stop_at.result
    (sym c.sign_at.ensures ∙ c.in-OpenParen.is) c.in_ok-inner-in-OpenParen.ensures.reads (λ e. c.in_default-sign_at.not-CloseParen (c.sign_at-in-OpenParen.ensures ∙ e))
    c.stop_at.ensures

pub parse_atom-returns-in_ok-kind-in_default-clause-reads : goal.parse_atom-returns-in_ok-kind-in_default-clause-reads
parse_atom-returns-in_ok-kind-in_default-clause-reads t c =
    link_reads c.args.model.now c.args.tokens.now c.args.at c.in_ok-kind-in_default.kind c.in_ok-kind-in_default.ensures.kind
