use Rattle.std.proofs.Common.{arith}
use Rattle.node_pool.specs.Nodes.{IsReduced}
use Rattle.conditions.proofs.Answers.{none_after, inner_before, false_at, true_at, constant_top, known_or}
use Rattle.conditions.proofs.applier.Applier.known.Goals as goal

pub returns-in-Some : goal.returns-in-Some
returns-in-Some c =
    let r = c.args.self.now in
    let reduced : IsReduced r.vars r.nodes = rw (← c.self.view_is) c.self.invariant.region.reduced in
    record {
      asked = c.requires;
      there = c.in-Some.ensures.there r.vars r.nodes c.requires;
      top = c.in-Some.ensures.first r.vars r.nodes (none_after r reduced) (constant_top r 0 (omega arith)) (constant_top r 1 (omega arith)) c.requires;
      function = λ w. c.in-Some.ensures.function r.nodes w (false_at r w) (true_at r w);
    }

pub returns-in-None : goal.returns-in-None
returns-in-None c =
    let r = c.args.self.now in
    let reduced : IsReduced r.vars r.nodes = rw (← c.self.view_is) c.self.invariant.region.reduced in
    known_or c.look_up.result _ _ (c.in-None.ensures.none r.vars r.nodes (inner_before r reduced) c.requires) c.look_up.ensures
