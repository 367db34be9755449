-- Items of a list that is seen as another list, and items by their numbers.
use Rattle.std.proofs.Common.{◌≡◌, ◌<◌, ◌+◌, refl, sym, ap, ◌∙◌, subst, ℕ, zero, suc, Bool, true, false, List, [], ◌∷◌, map, length, get_or, Some, arith}
use Rattle.std.specs.Prelude.{◌==◌, ◌&&◌, ◌||◌, option_map, unwrap_or}
use Rattle.std.specs.List.{All, slice_get, enumerate_from, list_any}
use Rattle.std.proofs.lemmas.Bool.{eq-eqb}
use Rattle.std.proofs.lemmas.Bool.Decides.{nat_tests}
use Rattle.std.proofs.lemmas.List.{length-map, get_or-map}
use Rattle.std.proofs.lemmas.List.Elements.{All-get_or}
use Rattle.std.proofs.lemmas.Option.{slice_get-map, slice_get-get_or, slice_get_within, get_or_from_slice_get}

-- the item of a list that is seen as another list
pub viewed : {X Y : Type 0} (v : X → Y) (xs : List X) (ys : List Y) (k i : ℕ) (x : X) → map v xs ≡ ys → k ≡ i → i < length ys → x ≡ get_or xs k x → slice_get ys i ≡ Some (v x)
viewed v xs ys k i x is same below item =
    let long : length xs ≡ length ys = sym (length-map xs v) ∙ ap length is in
    let known : x ≡ get_or xs i x = item ∙ ap (λ j. get_or xs j x) same in
    ap (λ zs. slice_get zs i) (sym is) ∙ slice_get-map v xs i ∙ ap (λ o. option_map v o) (slice_get-get_or xs i x (omega (arith, long, below))) ∙ ap (λ y. Some (v y)) (sym known)

-- what holds of the views holds of the items
pub all_viewed : {X Y : Type 0} (v : X → Y) (P : Y → Type 0) (xs : List X) → All P (map v xs) → All (λ x. P (v x)) xs
all_viewed v P xs all i d below = subst P (get_or-map v xs i d (v d) below) (all i (v d) (let long = length-map xs v in omega (arith, long, below)))

-- what holds of all items holds of this one
pub all_at : {X : Type 0} (P : X → Type 0) (xs : List X) (i : ℕ) (x : X) → All P xs → slice_get xs i ≡ Some x → P x
all_at P xs i x all at = subst P (get_or_from_slice_get xs i x x at) (All-get_or P xs i x (slice_get_within xs i x at) all)

pub same_some : {X : Type 0} (x y : X) → Some x ≡ Some y → x ≡ y
same_some x y e = ap (λ o. unwrap_or o x) e

-- ---- by number

module _ {A : Type 0} (g : A → Bool) where
  past : (xs : List A) (k j : ℕ) → j < k → list_any (λ y. (y.0 == j) && g y.1) (enumerate_from k xs) ≡ false
  past [] k j l = refl
  past (x ∷ xs) k j l =
      let differ : (k == j) ≡ false = grind (arith, nat_tests) in
      ap (λ b. (b && g x) || list_any (λ y. (y.0 == j) && g y.1) (enumerate_from (k + 1) xs)) differ ∙ past xs (k + 1) j (omega (arith, l))

  -- the item with a number passes where the item at that place does
  pub any_at : (xs : List A) (k i : ℕ) (x : A) → slice_get xs i ≡ Some x → list_any (λ y. (y.0 == k + i) && g y.1) (enumerate_from k xs) ≡ g x
  any_at [] k i x e = absurd cc
  any_at (y ∷ ys) k zero x e =
      let same : y ≡ x = cc in
      let here = eq-eqb k (k + 0) (omega arith) in
      ap (λ b. (b && g y) || list_any (λ z. (z.0 == k + 0) && g z.1) (enumerate_from (k + 1) ys)) here
      ∙ ap (λ b. g y || b) (past ys (k + 1) (k + 0) (omega arith)) ∙ or_none (g y) ∙ ap g same
    where
      or_none : (b : Bool) → (b || false) ≡ b
      or_none true = refl
      or_none false = refl
  any_at (y ∷ ys) k (suc i) x e =
      let differ : (k == k + suc i) ≡ false = grind (arith, nat_tests) in
      let same : k + suc i ≡ k + 1 + i = omega arith in
      ap (λ b. (b && g y) || list_any (λ z. (z.0 == k + suc i) && g z.1) (enumerate_from (k + 1) ys)) differ
      ∙ ap (λ j. list_any (λ z. (z.0 == j) && g z.1) (enumerate_from (k + 1) ys)) same ∙ any_at ys (k + 1) i x e
