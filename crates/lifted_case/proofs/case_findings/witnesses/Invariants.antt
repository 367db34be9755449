use Rattle.std.proofs.Common.{map, take}
use Rattle.meaning.specs.CaseBytes.{witness_data}
use Rattle.doc_tree.specs.View.{documents}
use Rattle.lifted_case.specs.Written.{AreWritten}
use Rattle.lifted_case.specs.CaseWritten.{id_in, witness_with}
use Rattle.lifted_case.proofs.case_findings.witnesses.Given as goal

abbrev pub invariant-witnesses : goal.invariant-witnesses
invariant-witnesses l = AreWritten (documents l.docs.items) (map witness_data (map (witness_with (id_in l.ids)) (take l.one-index l.witnesses)))
