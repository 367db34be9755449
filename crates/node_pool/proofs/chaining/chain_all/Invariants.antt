use Rattle.std.proofs.Common.{◌≡◌, ◌+◌, ◌≤◌, length, take}
use Rattle.std.specs.Prelude.{vec_capacity}
use Rattle.node_pool.specs.Chains.{HasChains}
use Rattle.node_pool.proofs.chaining.chain_all.Given as goal

abbrev pub invariant-loop-node : goal.invariant-loop-node
invariant-loop-node l = record {
  chains : HasChains l.mask (take l.node-index l.nodes) l.heads.items l.next.items;
  all_slots : length l.heads.items ≡ l.mask + 1;
  same_length : length l.next.items ≡ l.node-index;
  heads_room : vec_capacity l.fn.heads ≤ vec_capacity l.heads;
  next_room : vec_capacity l.fn.next ≤ vec_capacity l.next;
}
