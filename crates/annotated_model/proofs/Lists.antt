-- The item at a place of a list.
use Rattle.std.proofs.Common.{◌≡◌, refl, ap, ◌∙◌, ℕ, zero, suc, ◌+◌, List, [], ◌∷◌, ◌++◌, take, drop, Bool, true, false, Option, Some, None, add-one}
use Rattle.std.specs.Prelude.{slice_get, option_map, if◌then◌else◌, bytes_eq, not, ◌&&◌, ◌||◌}
use Rattle.std.proofs.lemmas.List.Folds.{list_any-append}
use Rattle.meaning.specs.Texts.{place_of}
use Rattle.meaning.specs.BundlePlaces.{is_among}
use Rattle.annotated_model.specs.NewTexts.{are_new_after}

module _ {X : Type 0} where
  drop_suc : (xs : List X) (i : ℕ) (x : X) → slice_get xs i ≡ Some x → drop i xs ≡ x ∷ drop (suc i) xs
  drop_suc [] i x e = absurd cc
  drop_suc (y ∷ ys) zero x e = let same : y ≡ x = cc in ap (λ z. z ∷ ys) same
  drop_suc (y ∷ ys) (suc i) x e = drop_suc ys i x e

  take_suc : (xs : List X) (i : ℕ) (x : X) → slice_get xs i ≡ Some x → take (suc i) xs ≡ take i xs ++ x ∷ []
  take_suc [] i x e = absurd cc
  take_suc (y ∷ ys) zero x e = let same : y ≡ x = cc in ap (λ z. z ∷ []) same
  take_suc (y ∷ ys) (suc i) x e = ap (λ zs. y ∷ zs) (take_suc ys i x e)

  pub drop_at : (xs : List X) (i : ℕ) (x : X) → slice_get xs i ≡ Some x → drop i xs ≡ x ∷ drop (i + 1) xs
  drop_at xs i x e = rw add-one (drop_suc xs i x e)

  pub take_at : (xs : List X) (i : ℕ) (x : X) → slice_get xs i ≡ Some x → take (i + 1) xs ≡ take i xs ++ x ∷ []
  take_at xs i x e = rw add-one (take_suc xs i x e)

-- ---- places of texts

not_later : (o : Option ℕ) → option_map suc o ≡ Some zero → ⊥
not_later None e = absurd cc
not_later (Some n) e = absurd cc

earlier : (o : Option ℕ) (i : ℕ) → option_map suc o ≡ Some (suc i) → o ≡ Some i
earlier None i e = absurd cc
earlier (Some n) i e = let same : n ≡ i = cc in ap Some same

-- a text isn't among those before its place
pub not_before : (s : List ℕ) (xs : List (List ℕ)) (i : ℕ) → place_of s xs ≡ Some i → is_among (take i xs) s ≡ false
not_before s [] i e = absurd cc
not_before s (x ∷ xs) zero e = refl
not_before s (x ∷ xs) (suc i) e = go (bytes_eq s x) (not_before s xs i) e
  where
    go : (b : Bool) → (place_of s xs ≡ Some i → is_among (take i xs) s ≡ false)
        → (if b then Some 0 else option_map suc (place_of s xs)) ≡ Some (suc i) → (b || is_among (take i xs) s) ≡ false
    go true later e = absurd cc
    go false later e = later (earlier (place_of s xs) i e)

either_false : (a b : Bool) (c : Bool) → (not (a || b) && c) ≡ true → (a || b) ≡ false
either_false true b c e = absurd cc
either_false false true c e = absurd cc
either_false false false c e = refl

rest_true : (a b : Bool) (c : Bool) → (not (a || b) && c) ≡ true → c ≡ true
rest_true true b c e = absurd cc
rest_true false true c e = absurd cc
rest_true false false c e = e

-- the next text is new, and those after it
pub next_is_new : (before met : List (List ℕ)) (s : List ℕ) (ss : List (List ℕ)) → are_new_after before met (s ∷ ss) ≡ true → is_among (before ++ met) s ≡ false
next_is_new before met s ss e =
    list_any-append (bytes_eq s) before met ∙ either_false (is_among before s) (is_among met s) (are_new_after before (met ++ s ∷ []) ss) e

pub others_are_new : (before met : List (List ℕ)) (s : List ℕ) (ss : List (List ℕ)) → are_new_after before met (s ∷ ss) ≡ true
    → are_new_after before (met ++ s ∷ []) ss ≡ true
others_are_new before met s ss e = rest_true (is_among before s) (is_among met s) (are_new_after before (met ++ s ∷ []) ss) e
