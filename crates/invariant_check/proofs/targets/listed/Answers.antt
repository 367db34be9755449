use Rattle.worlds.specs.Rows.{row_at}
use Rattle.worlds.proofs.Rows.{at_row}
use Rattle.invariant_check.specs.Findings.{targets_at}
use Rattle.invariant_check.proofs.ListedTargets.{numbers_more}
use Rattle.invariant_check.proofs.targets.listed.Goals as goal

pub loop-state-preserved : goal.loop-state-preserved
loop-state-preserved g c =
    let a = g.W.Worlds.algebra c.args.w.now in
    let row = c.args.row.now in
    let state = c.loop-state.state in
    let call = c.in_ok-list_target.ensures in
    let there = c.index-row-state.result in
    record {
      listed = call.listed;
      targets = λ x w. numbers_more (row_at a row x) state (targets_at a c.loop-state.targets.items x) _ (a.holds there x)
          (at_row a row x state there c.loop-state-test.true c.index-row-state.is) (c.loop-state.invariant.targets x w) (call.targets x w);
    }
