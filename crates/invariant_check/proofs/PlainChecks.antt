-- Steps of plain checks over lists of numbered items.
use Rattle.std.proofs.Common.{◌≡◌, ◌<◌, ◌+◌, refl, sym, ap, ◌∙◌, ℕ, zero, suc, Bool, true, false, cond, List, [], ◌∷◌, map, length, drop, get_or, add-one, drop-cons, arith}
use Rattle.std.specs.Prelude.{◌&&◌, ◌||◌, not, filter}
use Rattle.std.specs.List.{enumerate_from, list_any, list_all}
use Rattle.meaning.specs.Texts.{holds_at}

module _ {X Y : Type 0} (v : X → Y) where
  drop_step : (xs : List X) (i : ℕ) (x : X) → i < length xs → x ≡ get_or xs i x → drop i xs ≡ x ∷ drop (i + 1) xs
  drop_step xs i x below is =
      let split : drop i xs ≡ get_or xs i x ∷ drop (i + 1) xs = rw (add-one, drop-cons xs i x) in
      split ∙ ap (λ y. y ∷ drop (i + 1) xs) (sym is)

  pub all_step : (f : ℕ × Y → Bool) (xs : List X) (i : ℕ) (x : X) → i < length xs → x ≡ get_or xs i x
      → list_all f (enumerate_from i (map v (drop i xs))) ≡ (f (i, v x) && list_all f (enumerate_from (i + 1) (map v (drop (i + 1) xs))))
  all_step f xs i x below is = ap (λ ys. list_all f (enumerate_from i (map v ys))) (drop_step xs i x below is)

  pub all_kept_step : (p f : ℕ × Y → Bool) (xs : List X) (i : ℕ) (x : X) → i < length xs → x ≡ get_or xs i x
      → list_all f (filter p (enumerate_from i (map v (drop i xs)))) ≡ ((not (p (i, v x)) || f (i, v x)) && list_all f (filter p (enumerate_from (i + 1) (map v (drop (i + 1) xs)))))
  all_kept_step p f xs i x below is = ap (λ ys. list_all f (filter p (enumerate_from i (map v ys)))) (drop_step xs i x below is) ∙ go (p (i, v x))
    where
      rest : List (ℕ × Y)
      rest = filter p (enumerate_from (i + 1) (map v (drop (i + 1) xs)))

      go : (b : Bool) → list_all f (cond b ((i, v x) ∷ rest) rest) ≡ ((not b || f (i, v x)) && list_all f rest)
      go true = refl
      go false = refl

  pub any_kept_step : (p f : ℕ × Y → Bool) (xs : List X) (i : ℕ) (x : X) → i < length xs → x ≡ get_or xs i x
      → list_any f (filter p (enumerate_from i (map v (drop i xs)))) ≡ ((p (i, v x) && f (i, v x)) || list_any f (filter p (enumerate_from (i + 1) (map v (drop (i + 1) xs)))))
  any_kept_step p f xs i x below is = ap (λ ys. list_any f (filter p (enumerate_from i (map v ys)))) (drop_step xs i x below is) ∙ go (p (i, v x))
    where
      rest : List (ℕ × Y)
      rest = filter p (enumerate_from (i + 1) (map v (drop (i + 1) xs)))

      go : (b : Bool) → list_any f (cond b ((i, v x) ∷ rest) rest) ≡ ((b && f (i, v x)) || list_any f rest)
      go true = refl
      go false = refl

-- ---- the first of two tests

pub refused : (f rest : Bool) → f ≡ false → false ≡ (f && rest)
refused f rest e = sym (ap (λ b. b && rest) e)

pub passed : (f rest : Bool) → f ≡ true → (f && rest) ≡ rest
passed f rest e = ap (λ b. b && rest) e

pub found : (f rest : Bool) → f ≡ true → (f || rest) ≡ true
found f rest e = ap (λ b. b || rest) e

pub not_found : (f rest : Bool) → f ≡ false → (f || rest) ≡ rest
not_found f rest e = ap (λ b. b || rest) e

-- a truth value at a place in range is the one that is read
pub place_holds : (bs : List Bool) (i : ℕ) (d : Bool) → i < length bs → holds_at bs i ≡ get_or bs i d
place_holds [] i d l = absurd (omega (arith, l))
place_holds (b ∷ bs) zero d l = refl
place_holds (b ∷ bs) (suc i) d l = place_holds bs i d (omega (arith, l))

-- ---- a test of the numbers alone

there_is : {X : Type 0} (xs : List X) (i : ℕ) → i < length xs → (x : X) × (x ≡ get_or xs i x)
there_is [] i below = absurd (omega (arith, below))
there_is (x ∷ xs) zero below = (x, refl)
there_is (x ∷ xs) (suc i) below = there_is xs i (omega (arith, below))

pub number_step : {X Y : Type 0} (v : X → Y) (g : ℕ → Bool) (xs : List X) (i : ℕ) → i < length xs
    → list_all (λ (y : ℕ × Y). g y.0) (enumerate_from i (map v (drop i xs))) ≡ (g i && list_all (λ (y : ℕ × Y). g y.0) (enumerate_from (i + 1) (map v (drop (i + 1) xs))))
number_step v g xs i below = let x = there_is xs i below in all_step v (λ y. g y.0) xs i x.0 below x.1

-- ---- three tests

pub first_false : (a b c : Bool) → a ≡ false → false ≡ (a && b && c)
first_false a b c e = sym (ap (λ x. x && b && c) e)

pub second_false : (a b c : Bool) → a ≡ true → b ≡ false → false ≡ (a && b && c)
second_false a b c e f = sym (ap (λ x. x && b && c) e ∙ ap (λ x. x && c) f)

pub third_is : (a b c d : Bool) → a ≡ true → b ≡ true → d ≡ c → d ≡ (a && b && c)
third_is a b c d e f g = sym (ap (λ x. x && b && c) e ∙ ap (λ x. x && c) f ∙ sym g)
