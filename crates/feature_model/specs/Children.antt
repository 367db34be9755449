-- The children of each feature that are in a group.
use Rattle.std.specs.Prelude.{◌≡◌, ℕ, zero, suc, ◌+◌, ◌<◌, List, [], ◌∷◌, ◌++◌, length, map, set, slice_index_or, filter, Bool, ◌&&◌, Option, Some, None, Vec}
use Rattle.meaning.specs.Texts.{numbered}
use Rattle.meaning.specs.Features.{Group, Feature, is_parent}

-- those of a feature
abbrev pub children : (Group → Bool) → List Feature → ℕ → List ℕ
children in_group features p =
    map (λ c. c.0) (filter (λ c. is_parent p c.1.parent && in_group c.1.group) (numbered features))

-- the lists as the code keeps them
abbrev pub members_of : {Z : Type 0} → List (Vec ℕ Z) → List (List ℕ)
members_of lists = map (λ m. m.items) lists

-- a list for each feature
pub record AreChildren (in_group : Group → Bool) (features : List Feature) (lists : List (List ℕ)) : Type 0 where
  pub as_many : length lists ≡ length features
  pub each : (p : ℕ) → p < length features → slice_index_or lists p [] ≡ children in_group features p

-- one more feature, which has no children and is a child of this parent
abbrev pub with_child : List (List ℕ) → Option ℕ → ℕ → List (List ℕ)
with_child lists None child = lists ++ [] ∷ []
with_child lists (Some p) child = set lists p (slice_index_or lists p [] ++ child ∷ []) ++ [] ∷ []

-- how many children there are
abbrev pub total : List (List ℕ) → ℕ
total [] = 0
total (x ∷ xs) = length x + total xs

-- how many children the first n features have
abbrev pub children_of_first : (Group → Bool) → List Feature → ℕ → ℕ
children_of_first in_group features zero = 0
children_of_first in_group features (suc n) = children_of_first in_group features n + length (children in_group features n)
