use Rattle.std.proofs.Common.{◌≡◌, take}
use Rattle.annotated_model.proofs.types.copy_of.Given as goal

abbrev pub invariant-names : goal.invariant-names
invariant-names l = l.copy ≡ take l.number l.names
