use Rattle.std.proofs.Common.{◌≡◌, take}
use Rattle.lifting.proofs.instance.copied.Given as goal

abbrev pub invariant-names : goal.invariant-names
invariant-names l = l.copy ≡ take l.number l.names
