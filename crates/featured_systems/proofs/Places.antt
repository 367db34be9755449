-- The places of a number in a list.
use Rattle.std.proofs.Common.{◌≡◌, ◌∙◌, refl, sym, ap, subst, ℕ, zero, suc, ◌+◌, ◌<◌, ◌≤◌, List, [], ◌∷◌, ◌++◌, length, get_or, Bool, true, false, arith}
use Rattle.std.specs.Prelude.{◌==◌, if◌then◌else◌}
use Rattle.std.specs.List.{All, AllByRecursion, Contains}
use Rattle.std.proofs.lemmas.Bool.{eqb-true, eq-eqb}
use Rattle.std.proofs.lemmas.List.Elements.{All-from_recursion}
use Rattle.featured_systems.specs.Rounds.{places}

shifted : (k n : ℕ) → (k + 1) + n ≡ k + suc n
shifted k n = omega arith

-- ---- one more number at the end

pub places_push : (k y : ℕ) (es : List ℕ) (e : ℕ) → places k y (es ++ e ∷ []) ≡ places k y es ++ (if e == y then (k + length es) ∷ [] else [])
places_push k y [] e = go (e == y)
  where
    go : (b : Bool) → (if b then k ∷ [] else []) ≡ (if b then (k + 0) ∷ [] else [])
    go true = let same : k ≡ k + 0 = omega arith in ap (λ n. n ∷ []) same
    go false = refl
places_push k y (d ∷ es) e = go (d == y) (places_push (k + 1) y es e ∙ ap (λ ps. places (k + 1) y es ++ ps) (moved (e == y)))
  where
    moved : (b : Bool) → (if b then ((k + 1) + length es) ∷ [] else []) ≡ (if b then (k + suc (length es)) ∷ [] else [])
    moved true = ap (λ n. n ∷ []) (shifted k (length es))
    moved false = refl

    go : (b : Bool) → places (k + 1) y (es ++ e ∷ []) ≡ places (k + 1) y es ++ (if e == y then (k + suc (length es)) ∷ [] else []) → (if b then k ∷ places (k + 1) y (es ++ e ∷ []) else places (k + 1) y (es ++ e ∷ []))
        ≡ (if b then k ∷ places (k + 1) y es else places (k + 1) y es) ++ (if e == y then (k + suc (length es)) ∷ [] else [])
    go true rest = ap (λ ps. k ∷ ps) rest
    go false rest = rest

-- ---- what is at the places

pub record IsPlace (k y : ℕ) (es : List ℕ) (t : ℕ) : Type 0 where
  pub from : k ≤ t
  pub below : t < k + length es
  pub there : (i : ℕ) → t ≡ k + i → get_or es i 0 ≡ y

place_later : (k y d : ℕ) (es : List ℕ) (t : ℕ) → IsPlace (k + 1) y es t → IsPlace k y (d ∷ es) t
place_later k y d es t p = record {
  from = omega (arith, p.from);
  below = omega (arith, p.below);
  there = λ i is. at i is;
}
  where
    at : (i : ℕ) → t ≡ k + i → get_or (d ∷ es) i 0 ≡ y
    at zero is = absurd (omega (arith, is, p.from))
    at (suc i) is = p.there i (is ∙ sym (shifted k i))

weaker_all : (k y d : ℕ) (es ps : List ℕ) → AllByRecursion (IsPlace (k + 1) y es) ps → AllByRecursion (IsPlace k y (d ∷ es)) ps
weaker_all k y d es [] all = tt
weaker_all k y d es (p ∷ ps) all = (place_later k y d es p all.0, weaker_all k y d es ps all.1)

places_are : (k y : ℕ) (es : List ℕ) → AllByRecursion (IsPlace k y es) (places k y es)
places_are k y [] = tt
places_are k y (d ∷ es) = go (d == y) refl (weaker_all k y d es (places (k + 1) y es) (places_are (k + 1) y es))
  where
    here : d ≡ y → IsPlace k y (d ∷ es) k
    here is = record {
      from = omega arith;
      below = omega arith;
      there = λ i at. let first : i ≡ 0 = omega (arith, at) in ap (λ j. get_or (d ∷ es) j 0) first ∙ is;
    }

    go : (b : Bool) → (d == y) ≡ b → AllByRecursion (IsPlace k y (d ∷ es)) (places (k + 1) y es) → AllByRecursion (IsPlace k y (d ∷ es)) (if b then k ∷ places (k + 1) y es else places (k + 1) y es)
    go true e rest = (here (eqb-true d y e), rest)
    go false e rest = rest

pub all_places : (y : ℕ) (es : List ℕ) → All (IsPlace 0 y es) (places 0 y es)
all_places y es = All-from_recursion (IsPlace 0 y es) (places 0 y es) (places_are 0 y es)

-- ---- each place is among them

contains_later : (t p : ℕ) (ps : List ℕ) → Contains ps t → Contains (p ∷ ps) t
contains_later t p ps h = (suc h.0, let below = h.1 in omega (arith, below), h.2)

pub place_among : (k y : ℕ) (es : List ℕ) (i : ℕ) → i < length es → get_or es i 0 ≡ y → Contains (places k y es) (k + i)
place_among k y [] i below is = absurd (omega (arith, below))
place_among k y (d ∷ es) zero below is = rw (eq-eqb d y is) (0, omega arith, first)
  where
    first : k ≡ k + 0
    first = omega arith
place_among k y (d ∷ es) (suc i) below is = go (d == y) (subst (Contains (places (k + 1) y es)) (shifted k i) (place_among (k + 1) y es i (omega (arith, below)) is))
  where
    go : (b : Bool) → Contains (places (k + 1) y es) (k + suc i) → Contains (if b then k ∷ places (k + 1) y es else places (k + 1) y es) (k + suc i)
    go true rest = contains_later (k + suc i) k (places (k + 1) y es) rest
    go false rest = rest
