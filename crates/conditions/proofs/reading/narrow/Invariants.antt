use Rattle.std.proofs.Common.{◌≡◌, take}
use Rattle.conditions.proofs.reading.narrow.Given as goal

abbrev pub invariant-lines : goal.invariant-lines
invariant-lines l = l.rows.items ≡ take l.line-index l.lines
