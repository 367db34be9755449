-- Matrices of conditions, and the relations that they are at a world.
use Rattle.std.specs.Prelude.{ℕ, ◌+◌, ◌*◌, ◌/◌, ◌%◌, ◌≡◌, ◌<◌, List, Bool, true, false, ◌&&◌, ◌||◌, ◌==◌, length, map}
use Rattle.std.specs.List.{range_with_len, slice_index_or, list_any}
use Rattle.worlds.specs.Algebra.{Algebra}
use Rattle.worlds.specs.Rows.{AllLive, RowWhere, row_at}
use Rattle.path_queries.specs.Relations.{Relation}
use Rattle.path_queries.specs.Presence.{Arrow}

-- the relation, row by row
abbrev pub cells_of : ℕ → Relation → ℕ → List Bool
cells_of n r count = map (λ p. r (p / n) (p % n)) (range_with_len 0 count)

-- the relation that a matrix is at a list
abbrev pub relation_at : {C : Type 0} → Algebra C → ℕ → List C → List Bool → Relation
relation_at a n cells x i j = slice_index_or (row_at a cells x) (i * n + j) false

-- a matrix of live conditions
pub record IsMatrix {C : Type 0} (a : Algebra C) (n : ℕ) (cells : List C) : Type 0 where
  pub size : length cells ≡ n * n
  pub live : AllLive a cells

-- a matrix that is the relation at each world
pub record MatrixWhere {C : Type 0} (a : Algebra C) (n : ℕ) (cells : List C) (r : List Bool → Relation) : Type 0 where
  pub matrix : IsMatrix a n cells
  pub holds : (x : List Bool) → a.is_world x ≡ true → (i j : ℕ) → i < n → j < n → relation_at a n cells x i j ≡ r x i j

-- a matrix as far as it is filled
pub record FilledWhere {C : Type 0} (a : Algebra C) (n count : ℕ) (cells : List C) (r : List Bool → Relation) : Type 0 where
  pub size : length cells ≡ count
  pub rows : RowWhere a cells (λ x. cells_of n (r x) count)

-- an arrow of the kind from one element to another
abbrev pub leads : ℕ → ℕ → ℕ → Arrow → Bool
leads k i j r = (r.kind == k) && (r.source == i) && (r.target == j) && r.present

-- the links of the arrows, by kinds
abbrev pub linked : List Arrow → ℕ → Relation
linked arrows k i j = list_any (leads k i j) arrows
