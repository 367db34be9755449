use Rattle.std.proofs.Common.{◌≡◌, map, take}
use Rattle.lifting.proofs.lift.conditions.Given as goal

abbrev pub invariant-rows : goal.invariant-rows
invariant-rows g l = l.all.items ≡ map (λ r. r.1) (take l.row-index l.rows)
