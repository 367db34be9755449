use Rattle.std.proofs.Common.{map, take}
use Rattle.meaning.specs.CaseBytes.{row_data}
use Rattle.doc_tree.specs.View.{documents}
use Rattle.conditions.specs.Tables.{case_row}
use Rattle.lifted_case.specs.Written.{AreWritten}
use Rattle.lifted_case.proofs.case_systems.rows.Given as goal

abbrev pub invariant-rows : goal.invariant-rows
invariant-rows l = AreWritten (documents l.docs.items) (map row_data (map case_row (take l.one-index l.rows)))
