-- For private clauses: that elements of system types have systems, over what was read.
use Rattle.std.specs.Prelude.{ℕ, ◌+◌, List, [], ◌∷◌, ◌++◌, not, ◌||◌, Some}
use Rattle.meaning.specs.Models.{TypeDef, Element, inherits_system}
use Rattle.meaning.specs.BundlePlaces.{Owners, BundleFault, Broken, requires, faults_at, is_among}

-- the rule at an element, over the types and the names of the elements that have systems
abbrev pub owner_broken : List TypeDef → List (List ℕ) → Element → List Broken
owner_broken types owners e = requires 20 (not (inherits_system types (Some e.of_type)) || is_among owners e.name)

-- the faults of elements from a number on
abbrev pub owners_broken : List TypeDef → List (List ℕ) → ℕ → List Element → List BundleFault
owners_broken types owners i [] = []
owners_broken types owners i (e ∷ es) = faults_at Owners i 0 (owner_broken types owners e) ++ owners_broken types owners (i + 1) es
