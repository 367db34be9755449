use Rattle.std.proofs.Common.{map, take}
use Rattle.meaning.specs.CaseBytes.{system_data}
use Rattle.doc_tree.specs.View.{documents}
use Rattle.lifted_case.specs.Written.{AreWritten}
use Rattle.lifted_case.specs.CaseWritten.{id_in, system_with}
use Rattle.lifted_case.proofs.case_systems.systems.Given as goal

abbrev pub invariant-systems : goal.invariant-systems
invariant-systems l = AreWritten (documents l.docs.items) (map system_data (map (system_with (id_in l.ids)) (take l.one-index l.systems)))
