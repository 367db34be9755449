-- Chains of the relations to each node.
use Rattle.std.specs.Prelude.{◌≡◌, ℕ, ◌+◌, ◌-◌, ◌<◌, ◌≤◌, List, map, length, slice_index}
use Rattle.gsn.specs.declared.case.CRel.{CRel}

abbrev pub targets : List CRel → List ℕ
targets rs = map (λ r. r.to) rs

-- the first `count` relations with these targets: the greatest place of each node, and the greatest earlier place of each relation's target
pub record IsIncoming (nodes : ℕ) (to : List ℕ) (count : ℕ) (last before : List ℕ) : Type 0 where
  pub nodes_all : length last ≡ nodes
  pub relations_all : length before ≡ count
  pub last_in : (x : ℕ) → slice_index last x ≤ count
  pub last_to : (x : ℕ) → 0 < slice_index last x → slice_index to (slice_index last x - 1) ≡ x
  pub last_greatest : (k : ℕ) → k < count → k + 1 ≤ slice_index last (slice_index to k)
  pub before_in : (k : ℕ) → slice_index before k ≤ k
  pub before_to : (k : ℕ) → 0 < slice_index before k → slice_index to (slice_index before k - 1) ≡ slice_index to k
  pub before_greatest : (j k : ℕ) → j < k → k < count → slice_index to j ≡ slice_index to k → j + 1 ≤ slice_index before k
