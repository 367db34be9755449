use Rattle.conditions.specs.Leaving.{IsGathered}
use Rattle.conditions.proofs.export.export.Given as goal

abbrev pub invariant-loop-number : goal.invariant-loop-number
invariant-loop-number l = IsGathered l.store l.numbers l.number-index l.ids.items l.rows.items l.found.items
