use Rattle.std.proofs.Common.{take}
use Rattle.conditions.specs.Tables.{case_rows}
use Rattle.case_derive.specs.Truths.{TellsTable}
use Rattle.case_derive.proofs.truths.Truths.of.Given as goal

abbrev pub invariant-rows : goal.invariant-rows
invariant-rows l = TellsTable (case_rows (take l.row-index l.rows)) l.world l.values.items
