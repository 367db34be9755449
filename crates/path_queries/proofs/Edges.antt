-- Cells that are written, and one more edge in the matrix of a kind.
use Rattle.std.proofs.Common.{◌≡◌, ◌∙◌, refl, sym, ap, subst, ℕ, ◌+◌, ◌*◌, ◌/◌, ◌%◌, ◌<◌, ◌⊎◌, inl, inr, List, [], ◌∷◌, length, map, take, get_or, set, Bool, true, false, cond, arith}
use Rattle.std.specs.Prelude.{◌&&◌, ◌||◌, ◌==◌}
use Rattle.std.specs.List.{list_any, All}
use Rattle.std.proofs.Math.ListN.{length-set}
use Rattle.std.proofs.lemmas.Bool.{false≢true, eqb-true, eq-eqb}
use Rattle.std.proofs.lemmas.Nat.{mul-add-lt, div-mul-add, mod-mul-add}
use Rattle.std.proofs.lemmas.List.{map-set, get_or-set_same, get_or-set_other, length-map, get_or-map}
use Rattle.std.proofs.lemmas.List.Elements.{All-set}
use Rattle.std.proofs.lemmas.List.Folds.{list_any_more}
use Rattle.worlds.specs.Algebra.{Algebra, Kept, HoldsWhere}
use Rattle.worlds.specs.Rows.{row_at}
use Rattle.worlds.proofs.Kept.{kept_itself, holds_as, world_before}
use Rattle.worlds.proofs.Rows.{element_has}
use Rattle.path_queries.specs.Relations.{Relation, turned, start_of}
use Rattle.path_queries.specs.Presence.{Arrow, IsEdge, arrow_at}
use Rattle.path_queries.specs.Matrices.{relation_at, MatrixWhere, leads, linked}
use Rattle.path_queries.specs.declared.presence.Edge.{Edge}
use Rattle.path_queries.proofs.Cells.{matrix_later, matrix_is, cell_told}

-- ---- one cell that is written

-- the two are the same cell
pub same_cell : ℕ → ℕ → ℕ → ℕ → Bool
same_cell i j k l = (i == k) && (j == l)

both_same : (i j k l : ℕ) → same_cell i j k l ≡ true → (i ≡ k) × (j ≡ l)
unfolding same_cell
both_same i j k l e = go (i == k) (j == l) refl refl e
  where
    go : (b c : Bool) → (i == k) ≡ b → (j == l) ≡ c → (b && c) ≡ true → (i ≡ k) × (j ≡ l)
    go true true p q h = (eqb-true i k p, eqb-true j l q)
    go true false p q h = absurd (false≢true h)
    go false c p q h = absurd (false≢true h)

differ : (i j k l : ℕ) → same_cell i j k l ≡ false → (i ≡ k) → (j ≡ l) → ⊥
unfolding same_cell
differ i j k l e p q =
    let first : (i == k) ≡ true = eq-eqb i k p in
    let second : (j == l) ≡ true = eq-eqb j l q in
    false≢true (sym e ∙ ap (λ b. b && (j == l)) first ∙ second)

cell_after_set : (n : ℕ) (bs : List Bool) (i j k l : ℕ) (v : Bool) → length bs ≡ n * n → i < n → j < n → k < n → l < n
    → get_or (set bs (i * n + j) v) (k * n + l) false ≡ cond (same_cell i j k l) v (get_or bs (k * n + l) false)
cell_after_set n bs i j k l v long row column row' column' = go (same_cell i j k l) refl
  where
    go : (b : Bool) → same_cell i j k l ≡ b → get_or (set bs (i * n + j) v) (k * n + l) false ≡ cond b v (get_or bs (k * n + l) false)
    go true e =
        let is = both_same i j k l e in
        let place : k * n + l ≡ i * n + j = ap (λ r. r * n + l) (sym is.0) ∙ ap (λ c. i * n + c) (sym is.1) in
        let within : i * n + j < length bs = omega (arith, long, mul-add-lt i n j n row column) in
        ap (λ p. get_or (set bs (i * n + j) v) p false) place ∙ get_or-set_same bs (i * n + j) v false within
    go false e =
        get_or-set_other bs (i * n + j) (k * n + l) v false
        (λ h. differ i j k l e
        (sym (div-mul-add i n j column) ∙ ap (λ p. p / n) (sym h) ∙ div-mul-add k n l column')
        (sym (mod-mul-add i n j column) ∙ ap (λ p. p % n) (sym h) ∙ mod-mul-add k n l column'))

-- a matrix where one cell got an alternative
pub matrix_set : {C : Type 0} {a b : Algebra C} {n : ℕ} {cells : List C} {r : List Bool → Relation} (i j : ℕ) (d : C) (test : List Bool → Bool)
    → i < n → j < n → Kept a b → MatrixWhere a n cells r → HoldsWhere b d (λ x. r x i j || test x)
    → MatrixWhere b n (set cells (i * n + j) d) (λ x k l. r x k l || (same_cell i j k l && test x))
matrix_set {a} {b} {n} {cells} {r} i j d test row column kept m made =
    let later = matrix_later kept m in
    record {
      matrix = record { size = length-set cells (i * n + j) d ∙ m.matrix.size; live = All-set b.live cells (i * n + j) d made.live later.matrix.live };
      holds = λ x w k l row' column'.
          ap (λ bs. get_or bs (k * n + l) false) (map-set (λ c. b.holds c x) cells (i * n + j) d)
          ∙ cell_after_set n (row_at b cells x) i j k l (b.holds d x) (length-map cells (λ c. b.holds c x) ∙ m.matrix.size) row column row' column'
          ∙ go x k l (same_cell i j k l) refl (made.holds x w) (later.holds x w k l row' column');
    }
  where
    or_false : (c : Bool) → c ≡ (c || false)
    or_false true = refl
    or_false false = refl

    go : (x : List Bool) (k l : ℕ) (s : Bool) → same_cell i j k l ≡ s → b.holds d x ≡ (r x i j || test x) → relation_at b n cells x k l ≡ r x k l
        → cond s (b.holds d x) (relation_at b n cells x k l) ≡ (r x k l || (s && test x))
    go x k l true s here before =
        let is = both_same i j k l s in
        here ∙ ap (λ y. r x y j || test x) is.0 ∙ ap (λ y. r x k y || test x) is.1
    go x k l false s here before = before ∙ or_false (r x k l)

-- ---- one more arrow

and_moved : (k s t p : Bool) → (k && s && t && p) ≡ ((s && t) && (k && p))
and_moved true s t p = refl
and_moved false true true p = refl
and_moved false true false p = refl
and_moved false false t p = refl

and_turned : (k s t p : Bool) → (k && s && t && p) ≡ ((t && s) && (k && p))
and_turned true true true p = refl
and_turned true true false p = refl
and_turned true false true p = refl
and_turned true false false p = refl
and_turned false true true p = refl
and_turned false true false p = refl
and_turned false false true p = refl
and_turned false false false p = refl

-- an arrow leads between its two ends, if it is of the kind
leads_between : (back : Bool) (kind : ℕ) (r : Arrow) (k l : ℕ)
    → turned back (λ x y. leads kind x y r) k l ≡ (same_cell (start_of back r.source r.target) (start_of back r.target r.source) k l && ((r.kind == kind) && r.present))
unfolding same_cell
leads_between false kind r k l = and_moved (r.kind == kind) (r.source == k) (r.target == l) r.present
leads_between true kind r k l = and_turned (r.kind == kind) (r.source == l) (r.target == k) r.present

turned_or : (back : Bool) (r s : Relation) (k l : ℕ) → turned back (λ x y. r x y || s x y) k l ≡ (turned back r k l || turned back s k l)
turned_or false r s k l = refl
turned_or true r s k l = refl

turned_same : (back : Bool) (r s : Relation) → ((x y : ℕ) → r x y ≡ s x y) → (k l : ℕ) → turned back r k l ≡ turned back s k l
turned_same false r s same k l = same k l
turned_same true r s same k l = same l k

linked_more : (back : Bool) (kind : ℕ) (arrows : List Arrow) (e : ℕ) (r : Arrow) → e < length arrows → get_or arrows e r ≡ r → (k l : ℕ)
    → (turned back (linked (take e arrows) kind) k l || (same_cell (start_of back r.source r.target) (start_of back r.target r.source) k l && ((r.kind == kind) && r.present)))
    ≡ turned back (linked (take (e + 1) arrows) kind) k l
linked_more back kind arrows e r below is k l =
    sym
    (turned_same back (linked (take (e + 1) arrows) kind) (λ x y. linked (take e arrows) kind x y || leads kind x y r)
    (λ x y. list_any_more (leads kind x y) arrows e r below ∙ ap (λ s. linked (take e arrows) kind x y || leads kind x y s) is) k l
    ∙ turned_or back (linked (take e arrows) kind) (λ x y. leads kind x y r) k l
    ∙ ap (λ b. turned back (linked (take e arrows) kind) k l || b) (leads_between back kind r k l))

-- the arrow of an edge
pub arrow_at_place : {C : Type 0} (a : Algebra C) (x : List Bool) (edges : List (Edge C)) (e : ℕ) (edge : Edge C) → e < length edges → edge ≡ get_or edges e edge
    → get_or (map (arrow_at a x) edges) e (arrow_at a x edge) ≡ arrow_at a x edge
arrow_at_place a x edges e edge below is =
    get_or-map (arrow_at a x) edges e edge (arrow_at a x edge) below ∙ ap (arrow_at a x) (sym is)

start_below : (back : Bool) (from to n : ℕ) → from < n → to < n → start_of back from to < n
start_below false from to n f t = f
start_below true from to n f t = t

-- a condition of a matrix that is a relation
pub cell_of_matrix : {C : Type 0} {a : Algebra C} {n : ℕ} {cells : List C} {r : List Bool → Relation} (i j q : ℕ) (c : C) → MatrixWhere a n cells r → i < n → j < n → q ≡ i * n + j → c ≡ get_or cells q c
    → HoldsWhere a c (λ x. r x i j)
cell_of_matrix {a} {n} {cells} {r} i j q c m row column place is =
    holds_as (λ x. relation_at a n cells x i j) (λ x. r x i j) (λ x w. m.holds x w i j row column) (cell_told i j q c (kept_itself a) m.matrix row column place is)

-- one more edge in the matrix of a kind
pub edge_added : {C : Type 0} {a b c : Algebra C} {n : ℕ} {cells : List C} (back : Bool) (kind : ℕ) (edges : List (Edge C)) (e : ℕ) (edge : Edge C) (q : ℕ) (before after : C)
    → Kept a b → Kept b c → All (IsEdge a n) edges → e < length edges → edge ≡ get_or edges e edge
    → q ≡ start_of back edge.from edge.to * n + start_of back edge.to edge.from → before ≡ get_or cells q before
    → MatrixWhere b n cells (λ x. turned back (linked (take e (map (arrow_at a x) edges)) kind))
    → HoldsWhere c after (λ x. b.holds before x || ((edge.kind == kind) && b.holds edge.when x))
    → MatrixWhere c n (set cells q after) (λ x. turned back (linked (take (e + 1) (map (arrow_at a x) edges)) kind))
edge_added {a} {b} {c} {n} {cells} back kind edges e edge q before after kept later all below is place read m made =
    let i = start_of back edge.from edge.to in
    let j = start_of back edge.to edge.from in
    let fits = element_has (IsEdge a n) edges e edge all below is in
    let row = start_below back edge.from edge.to n fits.source fits.target in
    let column = start_below back edge.to edge.from n fits.target fits.source in
    let told = cell_of_matrix i j q before m row column place read in
    let so_far = λ (x : List Bool) (k l : ℕ). turned back (linked (take e (map (arrow_at a x) edges)) kind) k l in
    let added = λ (x : List Bool). (edge.kind == kind) && a.holds edge.when x in
    let cell : HoldsWhere c after (λ x. so_far x i j || added x) =
    holds_as (λ x. b.holds before x || ((edge.kind == kind) && b.holds edge.when x)) (λ x. so_far x i j || added x)
    (λ x w. ap (λ u. u || ((edge.kind == kind) && b.holds edge.when x)) (told.holds x (world_before x later w))
    ∙ ap (λ u. so_far x i j || ((edge.kind == kind) && u)) (kept.holds edge.when fits.live x)) made in
    let arrow = λ (x : List Bool). arrow_at_place a x edges e edge below is in
    subst (λ p. MatrixWhere c n (set cells p after) (λ x. turned back (linked (take (e + 1) (map (arrow_at a x) edges)) kind))) (sym place)
    (matrix_is (λ x k l. so_far x k l || (same_cell i j k l && added x)) (λ x. turned back (linked (take (e + 1) (map (arrow_at a x) edges)) kind))
    (λ x w k l row' column'. linked_more back kind (map (arrow_at a x) edges) e (arrow_at a x edge) (omega (arith, below, length-map edges (arrow_at a x))) (arrow x) k l)
    (matrix_set i j after added row column later m cell))
