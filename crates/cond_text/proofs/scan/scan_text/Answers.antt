use Rattle.std.proofs.Common.{◌∙◌, sym, subst, ◌<◌, vec_len, arith}
use Rattle.cond_text.specs.Scans.{next_of, Steps}
use Rattle.cond_text.proofs.ScanLaws.{scan_begins, scan_takes, scan_ends}
use Rattle.cond_text.proofs.scan.scan_text.Goals as goal

pub text-init : goal.text-init
text-init c = rw (c.new-tokens.ensures.items, c.new-tokens.ensures.len) (scan_begins c.args.names.now c.args.text.now, omega arith)

pub text-preserved : goal.text-preserved
text-preserved c =
    let steps = subst (Steps c.args.names.now c.args.text.now c.text.at c.len.result (next_of c.text.next)) c.in-Token.is c.in_ok-next_step.ensures.step in
    let few : vec_len c.text.tokens < 512 = omega (arith, steps.1, c.len.ensures) in
    rw (c.in_ok-push-in-Token.ensures.items, c.in_ok-push-in-Token.ensures.len) (
      scan_takes c.args.names.now c.args.text.now c.text.at (vec_len c.text.tokens) (next_of c.text.next) c.text.tokens.items c.in-Token.token c.in-Token.end (next_of c.in-Token.then)
          c.text.invariant.0 steps.0 few steps.2,
      steps.0.within,
    )

pub returns-clause-runs : goal.returns-clause-runs
returns-clause-runs c =
    (scan_ends c.args.names.now c.args.text.now c.text.at (vec_len c.text.tokens) (next_of c.text.next) c.text.tokens.items c.text.invariant.0 (omega arith)
    (sym c.can_end.ensures ∙ c.if-not-can_end.false)).runs
