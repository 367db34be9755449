use Rattle.std.proofs.Common.{◌∙◌, sym, ap, map}
use Rattle.gsn.specs.View.{node_of}
use Rattle.case_derive.proofs.Loops.{node_put, node_left}
use Rattle.case_derive.proofs.nodes.nodes.Goals as goal
use Rattle.case_derive.proofs.nodes.nodes.Goals.{then-at+in_ok-node+in_ok-push, else-at}

pub nodes-preserved : goal.nodes-preserved
nodes-preserved g c =
    let h = g.T.Truth.holds c.args.truth.now in
    elim c.if-at.branch [
      | then-at+in_ok-node+in_ok-push w ↦
          node_put h c.args.nodes.now c.nodes.one-index c.one-item.result c.nodes.there.items c.if-at.there.items w.in_ok-node.field-0 c.nodes-test.true c.one-item.is
          (sym c.at.ensures ∙ w.if-at.true) c.nodes.invariant w.in_ok-node.ensures (ap (λ v. v.items) w.there-is ∙ w.in_ok-push.ensures.items)
      | else-at w ↦
          ap (λ v. map node_of v.items) w.there-is
          ∙ node_left h c.args.nodes.now c.nodes.one-index c.one-item.result c.nodes.there.items c.nodes-test.true c.one-item.is
          (sym c.at.ensures ∙ w.if-at.false) c.nodes.invariant
    ]
