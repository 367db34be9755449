use Rattle.std.proofs.Common.{map, take}
use Rattle.meaning.specs.CaseBytes.{node_data}
use Rattle.doc_tree.specs.View.{documents}
use Rattle.lifted_case.specs.Written.{AreWritten}
use Rattle.lifted_case.specs.CaseWritten.{id_in, node_with}
use Rattle.lifted_case.proofs.case_nodes.nodes.Given as goal

abbrev pub invariant-nodes : goal.invariant-nodes
invariant-nodes l = AreWritten (documents l.docs.items) (map node_data (map (node_with (id_in l.ids)) (take l.one-index l.nodes)))
