use Rattle.std.proofs.Common.{refl, arith}
use Rattle.meaning.specs.CaseBytes.{row_data}
use Rattle.conditions.specs.Tables.{case_row}
use Rattle.lifted_case.proofs.Writing.{AreWritten-next-of}
use Rattle.lifted_case.proofs.case_systems.rows.Goals as goal

pub rows-preserved : goal.rows-preserved
rows-preserved c =
    AreWritten-next-of row_data case_row c.args.rows.now c.rows.one-index _ c.rows.docs.items c.push.new.self.items c.in_ok-row.field-0
    _ (omega arith) refl c.in_ok-push.ensures.items c.rows.invariant c.in_ok-row.ensures
