-- A relation that is closed through one number after another leads wherever a chain of it leads.
use Rattle.std.proofs.Common.{◌≡◌, refl, sym, ap, ◌∙◌, subst, ℕ, zero, suc, ◌<◌, ◌≤◌, ◌⊎◌, inl, inr, Bool, true, false, arith}
use Rattle.std.specs.Prelude.{◌&&◌, ◌||◌}
use Rattle.std.proofs.lemmas.Bool.{false≢true, cases_lt}
use Rattle.path_queries.specs.Relations.{Relation, any_below, through, closed}

-- ---- truth values

pub both_true : (a b : Bool) → (a && b) ≡ true → (a ≡ true) × (b ≡ true)
both_true true b e = (refl, e)
both_true false b e = absurd (false≢true e)

pub and_true : (a b : Bool) → a ≡ true → b ≡ true → (a && b) ≡ true
and_true true b e f = f
and_true false b e f = absurd (false≢true e)

pub one_true : (a b : Bool) → (a || b) ≡ true → (a ≡ true) ⊎ (b ≡ true)
one_true true b e = inl refl
one_true false b e = inr e

pub left_or : (a b : Bool) → a ≡ true → (a || b) ≡ true
left_or true b e = refl
left_or false b e = absurd (false≢true e)

pub right_or : (a b : Bool) → b ≡ true → (a || b) ≡ true
right_or true b e = refl
right_or false b e = e

-- truth values are the same where each follows from the other
pub same_truth : (a b : Bool) → (a ≡ true → b ≡ true) → (b ≡ true → a ≡ true) → a ≡ b
same_truth true true f g = refl
same_truth true false f g = absurd (false≢true (f refl))
same_truth false true f g = absurd (false≢true (g refl))
same_truth false false f g = refl

-- ---- numbers below a bound

pub any_found : (n : ℕ) (p : ℕ → Bool) → any_below n p ≡ true → (k : ℕ) × (k < n) × (p k ≡ true)
any_found zero p e = absurd (false≢true e)
any_found (suc n) p e =
    elim (one_true (any_below n p) (p n) e) [
      | inl before ↦ let k = any_found n p before in (k.0, (let l = k.1 in omega (arith, l)), k.2)
      | inr here ↦ (n, omega arith, here)
    ]

pub any_at : (n : ℕ) (p : ℕ → Bool) (k : ℕ) → k < n → p k ≡ true → any_below n p ≡ true
any_at zero p k l e = absurd (omega (arith, l))
any_at (suc n) p k l e =
    elim (cases_lt k n) [
      | inl before ↦ left_or (any_below n p) (p n) (any_at n p k before e)
      | inr after ↦ let same : k ≡ n = omega (arith, l, after) in right_or (any_below n p) (p n) (ap p (sym same) ∙ e)
    ]

-- ---- chains

-- a chain of the relation whose inner numbers are below a bound
pub data Route (r : Relation) (k : ℕ) : ℕ → ℕ → Type 0 where
  direct : {i j : ℕ} → r i j ≡ true → Route r k i j
  onward : {i j : ℕ} (z : ℕ) → z < k → r i z ≡ true → Route r k z j → Route r k i j

-- a chain below a bound is one below the bound before it, or two of them, to the last number and from it
split : (r : Relation) (k i j : ℕ) → Route r (suc k) i j → Route r k i j ⊎ (Route r k i k × Route r k k j)
split r k _ _ (direct e) = inl (direct e)
split r k _ _ (onward {i} {j} z l e rest) = go (cases_lt z k) (split r k z j rest)
  where
    go : (z < k) ⊎ (k ≤ z) → Route r k z j ⊎ (Route r k z k × Route r k k j) → Route r k i j ⊎ (Route r k i k × Route r k k j)
    go (inl below) (inl on) = inl (onward z below e on)
    go (inl below) (inr two) = inr (onward z below e two.0, two.1)
    go (inr last) (inl on) = let same : z ≡ k = omega (arith, l, last) in
        inr (direct (ap (r i) (sym same) ∙ e), subst (λ y. Route r k y j) same on)
    go (inr last) (inr two) = let same : z ≡ k = omega (arith, l, last) in inr (direct (ap (r i) (sym same) ∙ e), two.1)

closed_by_parts : (r : Relation) (k i j : ℕ) → ((x y : ℕ) → Route r k x y → closed k r x y ≡ true) → Route r k i j ⊎ (Route r k i k × Route r k k j) → closed (suc k) r i j ≡ true
closed_by_parts r k i j before (inl one) = left_or (closed k r i j) (closed k r i k && closed k r k j) (before i j one)
closed_by_parts r k i j before (inr two) =
    right_or (closed k r i j) (closed k r i k && closed k r k j) (and_true (closed k r i k) (closed k r k j) (before i k two.0) (before k j two.1))

pub route_is_closed : (r : Relation) (k i j : ℕ) → Route r k i j → closed k r i j ≡ true
route_is_closed r zero _ _ (direct e) = e
route_is_closed r zero _ _ (onward z l e rest) = absurd (omega (arith, l))
route_is_closed r (suc k) i j route = closed_by_parts r k i j (λ x y. route_is_closed r k x y) (split r k i j route)
