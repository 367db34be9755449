use Rattle.std.proofs.Common.{ap, arith}
use Rattle.meaning.specs.CaseBytes.{node_data}
use Rattle.lifted_case.specs.CaseWritten.{id_in, node_with}
use Rattle.lifted_case.proofs.Writing.{AreWritten-next-of}
use Rattle.lifted_case.proofs.case_nodes.nodes.Goals as goal

pub nodes-preserved : goal.nodes-preserved
nodes-preserved c =
    let ids = c.args.ids.now in
    AreWritten-next-of node_data (node_with (id_in ids)) c.args.nodes.now c.nodes.one-index c.one-item.result c.nodes.docs.items c.push.new.self.items c.in_ok-node.field-0
    (node_data (node_with (id_in ids) c.one-item.result)) (omega arith) (ap (λ x. node_data (node_with (id_in ids) x)) c.one-item.is) c.in_ok-push.ensures.items c.nodes.invariant c.in_ok-node.ensures
