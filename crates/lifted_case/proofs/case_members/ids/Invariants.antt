use Rattle.std.proofs.Common.{map, take}
use Rattle.meaning.specs.CaseBytes.{natural_data}
use Rattle.doc_tree.specs.View.{documents}
use Rattle.lifted_case.specs.Written.{AreWritten}
use Rattle.lifted_case.specs.CaseWritten.{id_in}
use Rattle.lifted_case.proofs.case_members.ids.Given as goal

abbrev pub invariant-conditions : goal.invariant-conditions
invariant-conditions l = AreWritten (documents l.docs.items) (map natural_data (map (id_in l.ids) (take l.condition-index l.conditions)))
