-- The least set that has the nodes that it starts with, and each node with as many supports in the set as it needs.
use Rattle.std.specs.Prelude.{◌≡◌, ℕ, suc, ◌+◌, ◌-◌, ◌<◌, ◌≤◌, ◌⊎◌, List, [], ◌∷◌, ◌++◌, length, slice_index, slice_index_or, count_by, Bool, true, false, not, ◌&&◌, ◌||◌, ◌==◌, nat_le, nat_lt, if◌then◌else◌, All}
use Rattle.meaning.specs.Cases.{is_support}
use Rattle.gsn.specs.declared.case.CRel.{CRel}
use Rattle.gsn.specs.View.{relation_kind_of}

abbrev pub JoinsNodes : ℕ → List CRel → Type 0
JoinsNodes n rs = All (λ r. (r.from < n) × (r.to < n)) rs

abbrev pub Waits : ℕ → List ℕ → Type 0
Waits x [] = ⊥
Waits x (y ∷ ys) = (x ≡ y) ⊎ Waits x ys

abbrev pub AllBelow : ℕ → List ℕ → Type 0
AllBelow n xs = (x : ℕ) → Waits x xs → x < n

-- ---- counts of relations

abbrev pub one_for : Bool → ℕ
one_for b = if b then 1 else 0

-- how many relations pass a test of their numbers and themselves
abbrev pub tally : (ℕ → CRel → Bool) → List CRel → ℕ
tally test [] = 0
tally test (r ∷ rs) = one_for (test 0 r) + tally (λ k. test (suc k)) rs

abbrev pub is_supporting : CRel → Bool
is_supporting r = is_support (relation_kind_of r.kind)

-- a relation by which this node is supported
abbrev pub supports_node : ℕ → CRel → Bool
supports_node x r = (r.from == x) && is_supporting r

-- how many of the relations by which a node is supported pass the test
abbrev pub gains : (ℕ → CRel → Bool) → List CRel → ℕ → ℕ
gains test rs x = tally (λ k r. supports_node x r && test k r) rs

abbrev pub is_in : List Bool → ℕ → Bool
is_in set x = slice_index_or set x false

abbrev pub leads_into : List Bool → ℕ → CRel → Bool
leads_into set k r = is_in set r.to

-- a relation into the set, but for those to this node that come before the place
abbrev pub leads_into_from : List Bool → ℕ → ℕ → ℕ → CRel → Bool
leads_into_from set node place k r = is_in set r.to && (not (r.to == node) || nat_le place k)

-- ---- closed sets

pub record IsClosed (rs : List CRel) (needed start : List ℕ) (inside : List Bool) : Type 0 where
  pub starts : (x : ℕ) → Waits x start → is_in inside x ≡ true
  pub gathers : (x : ℕ) → 0 < slice_index needed x → slice_index needed x ≤ gains (leads_into inside) rs x → is_in inside x ≡ true

-- a node that each closed set has
unfoldable pub IsForced : List CRel → List ℕ → List ℕ → ℕ → Type 0
IsForced rs needed start x = (inside : List Bool) → IsClosed rs needed start inside → is_in inside x ≡ true

pub record IsLeastClosed (rs : List CRel) (needed start : List ℕ) (marked : List Bool) : Type 0 where
  pub nodes_all : length marked ≡ length needed
  pub closed : IsClosed rs needed start marked
  pub forced : (x : ℕ) → is_in marked x ≡ true → IsForced rs needed start x

-- ---- the way to the least set

abbrev pub IsMet : List Bool → List ℕ → ℕ → Type 0
IsMet marked pending x = (is_in marked x ≡ true) ⊎ Waits x pending

-- the relations that pass the test have been credited: what is missing is what they leave of the need
pub record IsUnderWay (rs : List CRel) (needed start : List ℕ) (test : ℕ → CRel → Bool) (marked : List Bool) (missing pending : List ℕ) : Type 0 where
  pub missing_all : length missing ≡ length needed
  pub marked_all : length marked ≡ length needed
  pub left : (x : ℕ) → slice_index missing x ≡ slice_index needed x - gains test rs x
  pub start_met : (x : ℕ) → Waits x start → IsMet marked pending x
  pub need_met : (x : ℕ) → 0 < slice_index needed x → slice_index missing x ≡ 0 → IsMet marked pending x
  pub pending_in : AllBelow (length needed) pending
  pub pending_forced : (x : ℕ) → Waits x pending → IsForced rs needed start x
  pub marked_forced : (x : ℕ) → is_in marked x ≡ true → IsForced rs needed start x

-- how many steps there may still be
abbrev pub steps : List ℕ → List ℕ → ℕ
steps missing pending = length pending + count_by (nat_lt 0) missing

pub record IsCredited (r : CRel) (missing pending missing' pending' : List ℕ) : Type 0 where
  pub falls : (x : ℕ) → slice_index missing' x ≡ slice_index missing x - one_for (supports_node x r)
  pub waiting : pending' ≡ (if is_supporting r && (slice_index missing r.from == 1) then pending ++ r.from ∷ [] else pending)
  pub no_more_steps : steps missing' pending' ≤ steps missing pending

-- all relations to a marked node have been credited
pub record KeepsUnderWay (node : ℕ) (rs : List CRel) (last missing pending missing' pending' : List ℕ) : Type 0 where
  pub keeps : (needed start : List ℕ) (marked : List Bool) → is_in marked node ≡ true
      → IsUnderWay rs needed start (leads_into_from marked node (slice_index last node)) marked missing pending
      → IsUnderWay rs needed start (leads_into marked) marked missing' pending'
  pub no_more_steps : steps missing' pending' ≤ steps missing pending

-- ---- what a set starts with, and what its nodes need

-- the numbers below the bound whose marks are true
pub record IsPlaces (marks : List Bool) (bound : ℕ) (places : List ℕ) : Type 0 where
  pub below : AllBelow bound places
  pub only : (x : ℕ) → Waits x places → is_in marks x ≡ true
  pub all : (x : ℕ) → x < bound → is_in marks x ≡ true → Waits x places

-- how many relations a node is supported by
abbrev pub total : List CRel → ℕ → ℕ
total rs x = tally (λ k r. supports_node x r) rs
