use Rattle.std.proofs.Common.{map, take}
use Rattle.meaning.specs.CaseBytes.{part_data}
use Rattle.doc_tree.specs.View.{documents}
use Rattle.lifted_case.specs.CaseView.{case_part_of}
use Rattle.lifted_case.specs.Written.{AreWritten}
use Rattle.lifted_case.proofs.case_nodes.parts.Given as goal

abbrev pub invariant-parts : goal.invariant-parts
invariant-parts l = AreWritten (documents l.docs.items) (map part_data (map case_part_of (take l.one-index l.parts)))
