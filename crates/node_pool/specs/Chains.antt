-- The unique table: from each slot a chain of the nodes whose triples fall there.
use Rattle.std.specs.Prelude.{◌≡◌, ℕ, ◌+◌, ◌-◌, ◌*◌, ◌/◌, ◌^◌, ◌<◌, ◌≤◌, List, length, slice_index, bit_and}
use Rattle.node_pool.specs.declared.node.Node.{Node}
use Rattle.node_pool.specs.Nodes.{node_at}

-- the slot of a triple, in a table of mask + 1 slots
unfoldable pub slot_of : ℕ → Node → ℕ
slot_of mask node =
    bit_and ((node.var * 1597334677 + node.low.0 * 668265263 + node.high.0 * 951274213) / 2 ^ 15) mask

-- each slot's chain goes over all places of its triples, the latest first
pub record HasChains (mask : ℕ) (nodes : List Node) (heads next : List ℕ) : Type 0 where
  pub head_in : (slot : ℕ) → slot ≤ mask → slice_index heads slot ≤ length nodes
  pub head_slot : (slot : ℕ) → slot ≤ mask → 0 < slice_index heads slot → slot_of mask (node_at nodes (slice_index heads slot - 1)) ≡ slot
  pub head_last : (k : ℕ) → k < length nodes → k + 1 ≤ slice_index heads (slot_of mask (node_at nodes k))
  pub next_in : (k : ℕ) → k < length nodes → slice_index next k ≤ k
  pub next_slot : (k : ℕ) → k < length nodes → 0 < slice_index next k → slot_of mask (node_at nodes (slice_index next k - 1)) ≡ slot_of mask (node_at nodes k)
  pub next_last : (j k : ℕ) → j < k → k < length nodes → slot_of mask (node_at nodes j) ≡ slot_of mask (node_at nodes k) → j + 1 ≤ slice_index next k
