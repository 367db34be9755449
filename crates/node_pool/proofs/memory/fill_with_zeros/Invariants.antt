use Rattle.std.proofs.Common.{◌≡◌, ◌≤◌, replicate}
use Rattle.std.specs.Prelude.{vec_capacity, vec_len}
use Rattle.node_pool.proofs.memory.fill_with_zeros.Given as goal

abbrev pub invariant-loop : goal.invariant-loop
invariant-loop l = record {
  items : l.items.items ≡ replicate l.counter 0;
  len : vec_len l.items ≡ l.counter;
  capacity : vec_capacity l.fn.items ≤ vec_capacity l.items;
}
