use Rattle.std.proofs.Common.{map, take}
use Rattle.meaning.specs.CaseBytes.{transition_data}
use Rattle.doc_tree.specs.View.{documents}
use Rattle.lifted_case.specs.Written.{AreWritten}
use Rattle.lifted_case.proofs.case_systems.transitions.Given as goal

abbrev pub invariant-transitions : goal.invariant-transitions
invariant-transitions l = AreWritten (documents l.docs.items) (map transition_data (take l.one-index l.transitions))
