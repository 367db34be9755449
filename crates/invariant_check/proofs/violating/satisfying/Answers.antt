use Rattle.std.proofs.Common.{◌∙◌, ap, length, arith}
use Rattle.cond_text.specs.View.{expression}
use Rattle.invariant_check.proofs.ViolatingRows.{satisfied_is}
use Rattle.invariant_check.proofs.violating.satisfying.Goals as goal

pub returns : goal.returns
returns g c =
    let system = c.args.system.now in
    let so_far = c.loop-state.invariant in
    let long = ap length c.list-state-items.ensures in
    record {
      made = satisfied_is c.args.model.now system (expression c.args.over.now) c.loop-state.violating.items c.count-labels.result c.loop-state.state-index
          (c.count-labels.ensures.count ∙ ap length c.labels.ensures) (omega (arith, long, c.loop-state-test.false)) (so_far.sized ∙ omega (arith, long, c.loop-state-test.false, c.loop-state.auto.state-index-end)) so_far.made;
    }
