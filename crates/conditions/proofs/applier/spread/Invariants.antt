use Rattle.std.proofs.Common.{◌≡◌, length}
use Rattle.std.specs.Prelude.{vec_capacity}
use Rattle.conditions.specs.Applier.{EachFrom}
use Rattle.conditions.proofs.applier.spread.Given as goal

abbrev pub invariant-loop-slot : goal.invariant-loop-slot
invariant-loop-slot l = record {
  slots : length l.kept.items ≡ length l.fn.kept.items;
  from : EachFrom l.fn.kept.items l.kept.items;
  capacity : vec_capacity l.kept ≡ vec_capacity l.fn.kept;
}
