use Rattle.std.proofs.Common.{◌≡◌, take, map}
use Rattle.meaning.specs.CaseReading as reading
use Rattle.lifted_case.specs.CaseView.{case_node_of}
use Rattle.doc_tree.specs.View.{documents}
use Rattle.lifted_case.proofs.values.nodes.nodes.Given as goal

abbrev pub invariant-docs : goal.invariant-docs
invariant-docs l = map case_node_of l.nodes.items ≡ map reading.node_of (documents (take l.doc-index l.docs))
