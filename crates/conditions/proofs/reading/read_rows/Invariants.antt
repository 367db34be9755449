use Rattle.conditions.proofs.TableRows.{IsReading}
use Rattle.conditions.proofs.reading.read_rows.Given as goal

abbrev pub invariant-items : goal.invariant-items
invariant-items l = IsReading l.features l.items l.item-index l.lines
