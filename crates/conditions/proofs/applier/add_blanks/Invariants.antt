use Rattle.std.proofs.Common.{◌≡◌, ◌≤◌, ◌+◌, ◌++◌, length, replicate}
use Rattle.std.specs.Prelude.{vec_capacity, vec_len}
use Rattle.conditions.specs.Applier.{no_kept}
use Rattle.conditions.proofs.applier.add_blanks.Given as goal

abbrev pub invariant-loop : goal.invariant-loop
invariant-loop l = record {
  items : l.kept.items ≡ l.fn.kept.items ++ replicate l.counter no_kept;
  len : vec_len l.kept ≡ length l.fn.kept.items + l.counter;
  capacity : vec_capacity l.fn.kept ≤ vec_capacity l.kept;
}
