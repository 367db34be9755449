-- What an identifier of a case's table holds at a world: that of a row is that of its low or its high.
use Rattle.std.proofs.Common.{◌≡◌, ◌≢◌, ℕ, zero, suc, ◌+◌, ◌<◌, List, [], ◌∷◌, ◌++◌, length, Bool, true, false, ◌==◌, Some, None, refl, sym, ap, ◌∙◌, subst, arith, length-append}
use Rattle.std.specs.Prelude.{cond, reverse}
use Rattle.std.specs.List.{slice_get}
use Rattle.std.proofs.lemmas.List.{reverse-append, length-reverse, append_assoc}
use Rattle.meaning.specs.Texts.{holds_at}
use Rattle.meaning.proofs.EqualityTests.{other_number, same_number}
use Rattle.meaning.specs.CaseFiles.{Row, walk_down, step_down, CaseDocument, holds}

-- ---- the walk down

-- from an identifier of another row the step leads nowhere
stays : (row : Row) (here : ℕ) (w : List Bool) (id : ℕ) → id ≢ here → step_down row here w id ≡ id
stays row here w id d = ap (λ b. cond b (cond (holds_at w row.variable) row.high row.low) id) (other_number id here d)

steps : (row : Row) (here : ℕ) (w : List Bool) → step_down row here w here ≡ cond (holds_at w row.variable) row.high row.low
steps row here w = ap (λ b. cond b (cond (holds_at w row.variable) row.high row.low) here) (same_number here here refl)

walk_of_end : (rows : List Row) (w : List Bool) (id : ℕ) → id < 2 → walk_down rows w id ≡ (id == 1)
walk_of_end [] w id l = refl
walk_of_end (row ∷ rows) w id l =
    ap (walk_down rows w) (stays row (length rows + 2) w id (λ e. omega (arith, e, l))) ∙ walk_of_end rows w id l

-- the rows above an identifier don't count
walk_behind : (more rows : List Row) (w : List Bool) (id : ℕ) → id < length rows + 2 → walk_down (more ++ rows) w id ≡ walk_down rows w id
walk_behind [] rows w id l = refl
walk_behind (row ∷ more) rows w id l =
    ap (walk_down (more ++ rows) w) (stays row (length (more ++ rows) + 2) w id (λ e. omega (arith, e, l, length-append more rows)))
    ∙ walk_behind more rows w id l

-- ---- a row in its place

pub record Stands {A : Type 0} (xs : List A) (i : ℕ) (x : A) : Type 0 where
  pub before : List A
  pub after : List A
  pub is : xs ≡ before ++ x ∷ after
  pub place : length before ≡ i

pub stands_at : {A : Type 0} (xs : List A) (i : ℕ) (x : A) → slice_get xs i ≡ Some x → Stands xs i x
stands_at {A = A} [] i x e = elim (none_is_some e) [ ]
  where
    none_is_some : None ≡ Some x → ⊥
    none_is_some e = cc
stands_at {A = A} (y ∷ xs) zero x e = record { before = []; after = xs; is = ap (λ z. z ∷ xs) (some_is e); place = refl }
  where
    some_is : Some y ≡ Some x → y ≡ x
    some_is e = cc
stands_at (y ∷ xs) (suc i) x e =
    let s : Stands xs i x = stands_at xs i x e in
    record { before = y ∷ s.before; after = s.after; is = ap (λ zs. y ∷ zs) s.is; place = ap suc s.place }

-- ---- values

-- what an identifier holds at a world
pub value : List Row → List Bool → ℕ → Bool
value rows w id = walk_down (reverse rows) w id

pub holds_value : (k : CaseDocument) (w : List Bool) (id : ℕ) → holds k w id ≡ value k.table w id
unfolding holds value
holds_value k w id = refl

pub value_end : (rows : List Row) (w : List Bool) (id : ℕ) → id < 2 → value rows w id ≡ (id == 1)
unfolding value
value_end rows w id l = walk_of_end (reverse rows) w id l

reversed : (before after : List Row) (row : Row) → reverse (before ++ row ∷ after) ≡ reverse after ++ row ∷ reverse before
reversed before after row =
    reverse-append before (row ∷ after) ∙ ap (λ rs. rs ++ reverse before) (reverse-append (row ∷ []) after)
    ∙ append_assoc (reverse after) (row ∷ []) (reverse before)

-- the value of a row's identifier is that of its low or its high
pub value_row : (rows : List Row) (r : ℕ) (row : Row) (w : List Bool) → slice_get rows r ≡ Some row → row.low < r + 2 → row.high < r + 2
    → value rows w (suc (suc r)) ≡ value rows w (cond (holds_at w row.variable) row.high row.low)
unfolding value
value_row rows r row w e l h = subst (λ rs. walk_down rs w (suc (suc r)) ≡ walk_down rs w child) (sym turned) (first ∙ sym second)
  where
    s : Stands rows r row
    s = stands_at rows r row e

    child : ℕ
    child = cond (holds_at w row.variable) row.high row.low

    below : List Row
    below = reverse s.before

    turned : reverse rows ≡ reverse s.after ++ row ∷ below
    turned = ap reverse s.is ∙ reversed s.before s.after row

    count : length below ≡ r
    count = length-reverse s.before ∙ s.place

    child_below : (b : Bool) → cond b row.high row.low < r + 2
    child_below true = h
    child_below false = l

    here : suc (suc r) ≡ length below + 2
    here = omega (arith, count)

    one : walk_down (row ∷ below) w (suc (suc r)) ≡ walk_down below w child
    one = ap (walk_down below w) (ap (step_down row (length below + 2) w) here ∙ steps row (length below + 2) w)

    first : walk_down (reverse s.after ++ row ∷ below) w (suc (suc r)) ≡ walk_down below w child
    first = walk_behind (reverse s.after) (row ∷ below) w (suc (suc r)) (omega (arith, count)) ∙ one

    second : walk_down (reverse s.after ++ row ∷ below) w child ≡ walk_down below w child
    second =
        walk_behind (reverse s.after) (row ∷ below) w child (omega (arith, count, child_below (holds_at w row.variable)))
        ∙ walk_behind (row ∷ []) below w child (omega (arith, count, child_below (holds_at w row.variable)))
