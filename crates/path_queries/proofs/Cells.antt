-- The cells of a matrix, one after another, and one by one.
use Rattle.std.proofs.Common.{◌≡◌, ◌∙◌, sym, ap, subst, ℕ, zero, suc, ◌+◌, ◌*◌, ◌/◌, ◌%◌, ◌<◌, ◌≤◌, List, [], ◌∷◌, ◌++◌, Bool, true, false, length, refl, get_or, set, map, zero-add, add_assoc, arith}
use Rattle.std.specs.Prelude.{◌&&◌, ◌||◌, ◌==◌}
use Rattle.std.proofs.Math.ListN.{length-set}
use Rattle.std.proofs.Math.Nat.{div-lt_iff_lt-mul, mod-lt, mul-le-mul_right}
use Rattle.std.proofs.lemmas.Nat.{mul-add-lt, div-mul-add, mod-mul-add, div-add-mod'}
use Rattle.std.proofs.lemmas.List.{length-append}
use Rattle.std.proofs.lemmas.List.Elements.{All-push, All-set}
use Rattle.std.proofs.lemmas.List.FromFn.{get_or-map-range_with_len, map-range_with_len_more}
use Rattle.worlds.specs.Algebra.{Algebra, Kept, HoldsWhere}
use Rattle.worlds.specs.Rows.{AllLive, RowWhere, row_at}
use Rattle.worlds.proofs.Kept.{world_before, holds_as}
use Rattle.worlds.proofs.Rows.{row_kept, live_later, live_at, row_push, row_empty, at_row}
use Rattle.path_queries.specs.Relations.{Relation, any_below, composed, united, through, closed}
use Rattle.path_queries.specs.Matrices.{cells_of, relation_at, IsMatrix, MatrixWhere, FilledWhere}

-- ---- filling

pub filled_none : {C : Type 0} (a : Algebra C) (n : ℕ) (r : List Bool → Relation) → FilledWhere a n 0 [] r
filled_none a n r = record { size = refl; rows = row_empty a }

-- one more cell
pub filled_more : {C : Type 0} {a b : Algebra C} {n count : ℕ} {cells : List C} {r : List Bool → Relation} {test : List Bool → Bool} (c : C)
    → Kept a b → FilledWhere a n count cells r → HoldsWhere b c test → ((x : List Bool) → b.is_world x ≡ true → test x ≡ r x (count / n) (count % n))
    → FilledWhere b n (count + 1) (cells ++ c ∷ []) r
filled_more {a} {b} {n} {count} {cells} {r} {test} c kept filled made same =
    let pushed = row_push c kept filled.rows made in
    record {
      size = omega (arith, filled.size, length-append cells (c ∷ []));
      rows = record {
        live = pushed.live;
        holds = λ x w.
            pushed.holds x w
            ∙ ap (λ v. cells_of n (r x) count ++ v ∷ []) (same x w)
            ∙ sym (map-range_with_len_more (λ p. r x (p / n) (p % n)) 0 count count (zero-add count));
      };
    }

-- the cell at a place
cell_at : (n i j : ℕ) (r : Relation) → i < n → j < n → get_or (cells_of n r (n * n)) (i * n + j) false ≡ r i j
cell_at n i j r row column =
    get_or-map-range_with_len (λ p. r (p / n) (p % n)) 0 (n * n) (i * n + j) (i * n + j) false (mul-add-lt i n j n row column) (zero-add (i * n + j))
    ∙ rw (div-mul-add i n j column, mod-mul-add i n j column) refl

-- a matrix that is filled
pub filled_all : {C : Type 0} {a : Algebra C} {n : ℕ} {cells : List C} {r : List Bool → Relation} → FilledWhere a n (n * n) cells r → MatrixWhere a n cells r
filled_all {a} {n} {cells} {r} filled = record {
  matrix = record { size = filled.size; live = filled.rows.live };
  holds = λ x w i j row column. ap (λ bs. get_or bs (i * n + j) false) (filled.rows.holds x w) ∙ cell_at n i j (r x) row column;
}

-- ---- at later moments

pub relation_kept : {C : Type 0} {a b : Algebra C} (n : ℕ) (cells : List C) (x : List Bool) (i j : ℕ) → Kept a b → AllLive a cells → relation_at b n cells x i j ≡ relation_at a n cells x i j
relation_kept n cells x i j kept live = ap (λ bs. get_or bs (i * n + j) false) (row_kept cells x kept live)

pub is_matrix_later : {C : Type 0} {a b : Algebra C} {n : ℕ} {cells : List C} → Kept a b → IsMatrix a n cells → IsMatrix b n cells
is_matrix_later {cells} kept m = record { size = m.size; live = live_later cells kept m.live }

pub matrix_later : {C : Type 0} {a b : Algebra C} {n : ℕ} {cells : List C} {r : List Bool → Relation} → Kept a b → MatrixWhere a n cells r → MatrixWhere b n cells r
matrix_later {n} {cells} kept m = record {
  matrix = is_matrix_later kept m.matrix;
  holds = λ x w i j row column. relation_kept n cells x i j kept m.matrix.live ∙ m.holds x (world_before x kept w) i j row column;
}

-- other words for the relation, below the bound and at the worlds
pub matrix_is : {C : Type 0} {a : Algebra C} {n : ℕ} {cells : List C} (r s : List Bool → Relation)
    → ((x : List Bool) → a.is_world x ≡ true → (i j : ℕ) → i < n → j < n → r x i j ≡ s x i j) → MatrixWhere a n cells r → MatrixWhere a n cells s
matrix_is r s same m = record { matrix = m.matrix; holds = λ x w i j row column. m.holds x w i j row column ∙ same x w i j row column }

-- ---- the row and the column of a cell

pub row_below : (n p : ℕ) → p < n * n → p / n < n
row_below zero p below = absurd (omega (arith, below))
row_below (suc n) p below = (div-lt_iff_lt-mul (omega arith)).1 below

pub column_below : (n p : ℕ) → p < n * n → p % n < n
column_below zero p below = absurd (omega (arith, below))
column_below (suc n) p below = mod-lt p (omega arith)

-- a composition of matrices that are kept stays
pub composed_kept : {C : Type 0} {a b : Algebra C} (n i j : ℕ) (first second : List C) (x : List Bool) → Kept a b → AllLive a first → AllLive a second
    → composed n (relation_at b n first x) (relation_at b n second x) i j ≡ composed n (relation_at a n first x) (relation_at a n second x) i j
composed_kept n i j first second x kept first_live second_live =
    rw (row_kept first x kept first_live, row_kept second x kept second_live) refl

pub united_kept : {C : Type 0} {a b : Algebra C} (n i j : ℕ) (first second : List C) (x : List Bool) → Kept a b → AllLive a first → AllLive a second
    → united (relation_at b n first x) (relation_at b n second x) i j ≡ united (relation_at a n first x) (relation_at a n second x) i j
united_kept n i j first second x kept first_live second_live =
    rw (row_kept first x kept first_live, row_kept second x kept second_live) refl

pub through_kept : {C : Type 0} {a b : Algebra C} (n k i j : ℕ) (cells : List C) (x : List Bool) → Kept a b → AllLive a cells
    → through k (relation_at b n cells x) i j ≡ through k (relation_at a n cells x) i j
through_kept n k i j cells x kept live = rw (row_kept cells x kept live) refl

pub closed_more : (k : ℕ) (r : Relation) (i j : ℕ) → through k (closed k r) i j ≡ closed (k + 1) r i j
closed_more k r i j = let same : suc k ≡ k + 1 = omega arith in ap (λ n. closed n r i j) same

-- as many calls as rows of a table with so many calls in each
pub rows_within : (k n u : ℕ) → k < n → k * u + u ≤ n * u
rows_within k n u below = let done : k + 1 ≤ n = omega arith in omega (arith, mul-le-mul_right u done)

-- a condition of a matrix holds where the relation leads, also later
pub cell_told : {C : Type 0} {a b : Algebra C} {n : ℕ} {cells : List C} (i j q : ℕ) (c : C) → Kept a b → IsMatrix a n cells → i < n → j < n → q ≡ i * n + j → c ≡ get_or cells q c
    → HoldsWhere b c (λ x. relation_at a n cells x i j)
cell_told {a} {b} {n} {cells} i j q c kept m row column place is =
    let size = m.size in
    let below : q < length cells = omega (arith, size, place, mul-add-lt i n j n row column) in
    record {
      live = live_at b cells q c (live_later cells kept m.live) below is;
      holds = λ x w. at_row b cells x q c below is ∙ ap (λ k. get_or (row_at b cells x) k false) place ∙ relation_kept n cells x i j kept m.live;
    }

pub cell_place : (n p : ℕ) → p ≡ p / n * n + p % n
cell_place n p = sym (div-add-mod' p n)

-- ---- the conditions of a cell, by those that it is made of

pub either_told : {C : Type 0} {a b : Algebra C} {first second cell : C} (r s : List Bool → Bool) → Kept a b → HoldsWhere a first r → HoldsWhere a second s
    → HoldsWhere b cell (λ x. a.holds first x || a.holds second x) → HoldsWhere b cell (λ x. r x || s x)
either_told {a} {b} {first} {second} {cell} r s kept one two made =
    holds_as (λ x. a.holds first x || a.holds second x) (λ x. r x || s x)
    (λ x w. let before = world_before x kept w in ap (λ u. u || a.holds second x) (one.holds x before) ∙ ap (λ u. r x || u) (two.holds x before)) made

pub way_told : {C : Type 0} {a b : Algebra C} {direct to from cell : C} (r s t : List Bool → Bool) → Kept a b → HoldsWhere a direct r → HoldsWhere a to s → HoldsWhere a from t
    → HoldsWhere b cell (λ x. a.holds direct x || (a.holds to x && a.holds from x)) → HoldsWhere b cell (λ x. r x || (s x && t x))
way_told {a} {b} {direct} {to} {from} {cell} r s t kept one two three made =
    holds_as (λ x. a.holds direct x || (a.holds to x && a.holds from x)) (λ x. r x || (s x && t x))
    (λ x w. let before = world_before x kept w in
    ap (λ u. u || (a.holds to x && a.holds from x)) (one.holds x before)
    ∙ ap (λ u. r x || (u && a.holds from x)) (two.holds x before)
    ∙ ap (λ u. r x || (s x && u)) (three.holds x before)) made

pub any_more : (k : ℕ) (p : ℕ → Bool) → (any_below k p || p k) ≡ any_below (k + 1) p
any_more k p = let same : suc k ≡ k + 1 = omega arith in ap (λ n. any_below n p) same
