-- Lists with nothing in them, and tests of all items: how the rules of a list of items become plain tests of the list.
use Rattle.std.proofs.Common.{◌≡◌, refl, sym, ap, ◌∙◌, ℕ, suc, ◌+◌, ◌≤◌, List, [], ◌∷◌, map, length, Bool, true, false, not, ◌&&◌, ◌==◌, arith}
use Rattle.std.specs.Prelude.{nat_le}
use Rattle.std.specs.List.{list_all, enumerate_from}
use Rattle.std.proofs.lemmas.Bool.Decides.{nat_tests}
use Rattle.std.proofs.lemmas.Grind.{common_steps}
use Rattle.meaning.specs.LineRules.{is_within}

-- ---- truth values

pub both_true : (a b : Bool) → (a && b) ≡ true → (a ≡ true) × (b ≡ true)
both_true true true e = (refl, refl)
both_true true false e = cc
both_true false b e = cc

pub all_true : (a b : Bool) → a ≡ true → b ≡ true → (a && b) ≡ true
all_true a b e f = rw (e, f) refl

-- each of two tests says the other
pub same_truth : (a b : Bool) → (a ≡ true → b ≡ true) → (b ≡ true → a ≡ true) → a ≡ b
same_truth true true f g = refl
same_truth true false f g = sym (f refl)
same_truth false true f g = g refl
same_truth false false f g = refl

-- ---- tests of all items

module _ {A : Type 0} where
  pub all_of_both : (p q : A → Bool) (xs : List A) → list_all (λ x. p x && q x) xs ≡ (list_all p xs && list_all q xs)
  all_of_both p q [] = refl
  all_of_both p q (x ∷ xs) = rw (all_of_both p q xs) (swapped (p x) (q x) (list_all p xs) (list_all q xs))
    where
      swapped : (a b c d : Bool) → ((a && b) && (c && d)) ≡ ((a && c) && (b && d))
      swapped a b c d = grind (arith, common_steps)

  pub all_same : (p q : A → Bool) → ((x : A) → p x ≡ q x) → (xs : List A) → list_all p xs ≡ list_all q xs
  all_same p q h [] = refl
  all_same p q h (x ∷ xs) = rw (h x, all_same p q h xs) refl

  pub all_numbered : (p : A → Bool) (k : ℕ) (xs : List A) → list_all (λ x. p x.1) (enumerate_from k xs) ≡ list_all p xs
  all_numbered p k [] = refl
  all_numbered p k (x ∷ xs) = ap (λ b. p x && b) (all_numbered p (k + 1) xs)

pub all_mapped : {A B : Type 0} (f : A → B) (p : B → Bool) (xs : List A) → list_all (λ x. p (f x)) xs ≡ list_all p (map f xs)
all_mapped f p [] = refl
all_mapped f p (x ∷ xs) = ap (λ b. p (f x) && b) (all_mapped f p xs)

-- ---- the number of items

moved : (k n m : ℕ) → nat_le (k + 1 + n) m ≡ nat_le (k + suc n) m
moved k n m = ap (λ x. nat_le x m) (omega arith)

pub few_items : {A : Type 0} (limit k : ℕ) (xs : List A) → k ≤ limit
    → list_all (λ x. is_within limit x.0) (enumerate_from k xs) ≡ nat_le (k + length xs) limit
few_items limit k [] l = fits limit k l
  where
    fits : (limit k : ℕ) → k ≤ limit → true ≡ nat_le (k + 0) limit
    fits limit k l = grind (arith, nat_tests)
few_items limit k (x ∷ xs) l = go (k == limit) refl (λ j. few_items limit (k + 1) xs j)
  where
    go : (b : Bool) → (k == limit) ≡ b → (k + 1 ≤ limit → list_all (λ x. is_within limit x.0) (enumerate_from (k + 1) xs) ≡ nat_le (k + 1 + length xs) limit)
        → (not b && list_all (λ x. is_within limit x.0) (enumerate_from (k + 1) xs)) ≡ nat_le (k + suc (length xs)) limit
    go true e h = past k limit (length xs) e
      where
        past : (k limit n : ℕ) → (k == limit) ≡ true → false ≡ nat_le (k + suc n) limit
        past k limit n e = grind (arith, nat_tests)
    go false e h = h (below k limit l e) ∙ moved k (length xs) limit
      where
        below : (k limit : ℕ) → k ≤ limit → (k == limit) ≡ false → k + 1 ≤ limit
        below k limit l e = grind (arith, nat_tests)
