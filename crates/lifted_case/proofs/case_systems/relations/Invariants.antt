use Rattle.std.proofs.Common.{map, take}
use Rattle.meaning.specs.CaseBytes.{relation_data}
use Rattle.doc_tree.specs.View.{documents}
use Rattle.lifted_case.specs.Written.{AreWritten}
use Rattle.lifted_case.specs.CaseWritten.{id_in, relation_with}
use Rattle.lifted_case.proofs.case_systems.relations.Given as goal

abbrev pub invariant-relations : goal.invariant-relations
invariant-relations l = AreWritten (documents l.docs.items) (map relation_data (map (relation_with (id_in l.ids)) (take l.one-index l.relations)))
