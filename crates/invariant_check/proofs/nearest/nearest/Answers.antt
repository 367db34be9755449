use Rattle.std.proofs.Common.{◌<◌, ◌∙◌, length, arith}
use Rattle.std.proofs.lemmas.List.{length-set}
use Rattle.worlds.proofs.Kept.{worked_itself, worked_then, worked_at_most}
use Rattle.worlds.proofs.Rows.{element_has}
use Rattle.invariant_check.proofs.NearestRows.{open_first, targets_first, open_next, targets_next}
use Rattle.invariant_check.proofs.nearest.nearest.Goals as goal

pub loop-layer-init : goal.loop-layer-init
loop-layer-init g c =
    let a = g.W.Worlds.algebra c.args.w.now in
    record {
      worked = worked_itself a;
      left = open_first c.args.under c.args.violating.now c.requires.under;
      targets = targets_first c.args.under c.args.violating.now c.args.targets.now.items c.requires.never;
      sized = c.requires.size;
    }

pub loop-layer-preserved : goal.loop-layer-preserved
loop-layer-preserved g c =
    let a = g.W.Worlds.algebra c.args.w.now in
    let layers = c.args.layers.now in
    let violating = c.args.violating.now in
    let so_far = c.loop-layer.invariant in
    let k = c.loop-layer.layer-index in
    let l = c.layer-item.result in
    let state = c.from-state.result in
    let ab = so_far.worked.kept in
    let bc = c.meet.ensures.worked.kept in
    let live = element_has (λ l. a.live l.2) layers k l c.requires.layers c.loop-layer-test.true c.layer-item.is in
    let below = element_has (λ l. l.1 < length violating) layers k l c.requires.states c.loop-layer-test.true c.layer-item.is in
    let within : state < length violating = omega (arith, below, c.from-state.ensures) in
    let violates = c.index-violating-state.result in
    record {
      worked = worked_at_most (worked_then so_far.worked c.meet.ensures.worked) (omega arith);
      left = open_next c.args.under violating layers k l state violates ab bc c.requires.violating live c.loop-layer-test.true c.layer-item.is c.from-state.ensures within c.index-violating-state.is
          c.loop-layer.left c.in_ok-rest.rest so_far.left c.in_ok-rest.ensures.left;
      targets = targets_next c.args.under violating layers k l state violates ab bc c.requires.violating live c.loop-layer-test.true c.layer-item.is c.from-state.ensures within c.index-violating-state.is
          c.loop-layer.targets.items c.loop-layer.left c.index.result.now c.in_ok-rest.reached so_far.sized c.index.ensures so_far.left so_far.targets c.in_ok-rest.ensures.target;
      sized = length-set c.loop-layer.targets.items state c.in_ok-rest.reached ∙ so_far.sized;
    }
