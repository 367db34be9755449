-- Conditions and their identifiers, side by side.
use Rattle.std.specs.Prelude.{◌≡◌, ℕ, ◌<◌, List, length, slice_index, slice_index_or}
use Rattle.node_pool.specs.declared.node.NodeNo.{NodeNo}

abbrev pub number_at : List NodeNo → ℕ → ℕ
number_at cs k = (slice_index_or cs k (record { 0 = 0 })).0

-- where one condition stands twice, it has the same identifier
abbrev pub NamesAlike : List NodeNo → List ℕ → Type 0
NamesAlike cs ids = (j k : ℕ) → j < length cs → k < length cs → number_at cs j ≡ number_at cs k → slice_index ids j ≡ slice_index ids k
