-- Elements under their numbers: each that is kept is what is found under its number.
use Rattle.std.proofs.Common.{◌≡◌, ℕ, ◌+◌, ◌<◌, List, [], ◌∷◌, Bool, true, false, ◌==◌, Some, refl, arith}
use Rattle.std.specs.Prelude.{cond, filter, find}
use Rattle.std.specs.List.{enumerate_from}
use Rattle.std.proofs.lemmas.Bool.Decides.{nat_tests}
use Rattle.meaning.proofs.CutTrees.{Each}
use Rattle.meaning.proofs.EachMembers.{each_filtered}

other_number : (a b : ℕ) → a < b → (a == b) ≡ false
other_number a b e = grind (arith, nat_tests)

same_number : (a : ℕ) → (a == a) ≡ true
same_number a = grind (arith, nat_tests)

module _ {A : Type 0} where
  numbers_from : (k j : ℕ) (xs : List A) → j < k → Each (λ e. j < e.0) (enumerate_from k xs)
  numbers_from k j [] l = tt
  numbers_from k j (x ∷ xs) l = (l, numbers_from (k + 1) j xs (omega (arith, l)))

  -- each is what is found under its number
  abbrev pub IsFoundIn : List (ℕ × A) → ℕ × A → Type 0
  IsFoundIn ps e = find (λ q. q.0 == e.0) ps ≡ Some e

  found_behind : (q : ℕ × A) (ps es : List (ℕ × A)) → Each (λ e. q.0 < e.0) es → Each (IsFoundIn ps) es → Each (IsFoundIn (q ∷ ps)) es
  found_behind q ps [] l h = tt
  found_behind q ps (e ∷ es) l h = (rw (other_number q.0 e.0 l.0) h.0, found_behind q ps es l.1 h.1)

  pub each_found : (p : ℕ × A → Bool) (k : ℕ) (xs : List A) → Each (IsFoundIn (filter p (enumerate_from k xs))) (filter p (enumerate_from k xs))
  each_found p k [] = tt
  each_found p k (x ∷ xs) = go (p (k, x)) (each_found p (k + 1) xs)
    where
      rest : List (ℕ × A)
      rest = filter p (enumerate_from (k + 1) xs)

      behind : Each (λ e. k < e.0) rest
      behind = each_filtered (λ e. k < e.0) p (enumerate_from (k + 1) xs) (numbers_from (k + 1) k xs (omega arith))

      go : (b : Bool) → Each (IsFoundIn rest) rest → Each (IsFoundIn (cond b ((k, x) ∷ rest) rest)) (cond b ((k, x) ∷ rest) rest)
      go true h = (rw (same_number k) refl, found_behind (k, x) rest rest behind h)
      go false h = h
