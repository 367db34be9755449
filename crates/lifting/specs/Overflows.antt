-- More entries than there is room for: keys with tuples of their branches, each of which occurs at some world.
use Rattle.std.specs.Prelude.{◌≡◌, ◌≢◌, ℕ, ◌+◌, ◌<◌, List, [], ◌∷◌, map, length, Bool, true, Option}
use Rattle.worlds.specs.Algebra.{Algebra}
use Rattle.meaning.specs.Models.{Model, model_at}
use Rattle.meaning.specs.Queries.{Query}
use Rattle.meaning.specs.Templates.{Template, Instance, instance, branches_of}
use Rattle.meaning.specs.Tidy.{Among}
use Rattle.meaning.specs.Entries.{Entry, entries_of_node, most_entries}
use Rattle.meaning.specs.Texts.{flat}
use Rattle.meaning.proofs.CutTrees.{Each}
use Rattle.lifting.specs.Lifting.{Seen}
use Rattle.meaning.proofs.Members.{Member, Pairwise}

-- a key with tuples
abbrev pub Group : Type 0
Group = List ℕ × List (List ℕ)

abbrev pub count_of_groups : List Group → ℕ
count_of_groups [] = 0
count_of_groups (g ∷ gs) = (1 + length g.1) + count_of_groups gs

module _ {C : Type 0} (a : Algebra C) (instances : List Bool → List Instance) where
  -- at some world one of the instances has a node with the key
  pub record KeyOccurs (own : List ℕ) : Type 0 where
    pub world : List Bool
    pub is_world : a.is_world world ≡ true
    pub instance : Instance
    pub of_world : Member instance (instances world)
    pub node : Seen
    pub stands : Member node instance.nodes
    pub key : node.0.key ≡ own

  -- and the tuple is one of its branches
  pub record TupleOccurs (key tuple : List ℕ) : Type 0 where
    pub occurs : KeyOccurs key
    pub branch : Member tuple occurs.node.1.branches

  -- the keys are some of these in order, all that is listed occurs, and it is more than there is room for
  pub record Overflows (keys : List (List ℕ)) (room : ℕ) : Type 0 where
    pub groups : List Group
    pub keyed : Among (map (λ g. g.0) groups) keys
    pub once : Each (λ g. Pairwise (λ t u. t ≢ u) g.1) groups
    pub keys_occur : Each (λ g. KeyOccurs g.0) groups
    pub tuples_occur : Each (λ g. Each (TupleOccurs g.0) g.1) groups
    pub many : room < count_of_groups groups

-- a node with these tuples, each of which answers at some world at which the condition holds, is more than there is room for
pub record RowsOverflow {C : Type 0} (a : Algebra C) (m : Model) (each : Option Query) (bound : List ℕ) (under : List Bool → Bool) (room : ℕ) : Type 0 where
  pub tuples : List (List ℕ)
  pub once : Pairwise (λ t u. t ≢ u) tuples
  pub answer : Each (λ t. (x : List Bool) × (a.is_world x ≡ true) × (under x ≡ true) × Member t (branches_of (model_at m x) bound each)) tuples
  pub many : room < 1 + length tuples

-- more than the most entries of a case occur, each at some world
pub record TooManyEntries {C : Type 0} (a : Algebra C) (m : Model) (templates : List Template) : Type 0 where
  pub entries : List Entry
  pub differ : Pairwise (λ d e. d ≢ e) entries
  pub occur : Each (λ e. (x : List Bool) × (a.is_world x ≡ true) × Member e (flat entries_of_node (instance (length m.labels) (model_at m x) templates).nodes)) entries
  pub many : most_entries < length entries
