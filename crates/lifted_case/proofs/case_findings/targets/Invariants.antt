use Rattle.std.proofs.Common.{map, take}
use Rattle.meaning.specs.CaseBytes.{target_data}
use Rattle.doc_tree.specs.View.{documents}
use Rattle.lifted_case.specs.Written.{AreWritten}
use Rattle.lifted_case.specs.CaseWritten.{id_in, target_with}
use Rattle.lifted_case.proofs.case_findings.targets.Given as goal

abbrev pub invariant-targets : goal.invariant-targets
invariant-targets l = AreWritten (documents l.docs.items) (map target_data (map (target_with (id_in l.ids)) (take l.one-index l.targets)))
