-- Counts of relations that pass a test: equal tests, a test that one relation more passes, a test that passes wherever another does.
use Rattle.std.proofs.Common.{◌≡◌, ℕ, zero, suc, ◌+◌, ◌≤◌, ◌<◌, Bool, true, false, List, [], ◌∷◌, Some, length, get_or, take, add-one, refl, sym, ap, ◌∙◌, arith}
use Rattle.std.specs.Prelude.{slice_index}
use Rattle.std.specs.List.{slice_get}
use Rattle.std.proofs.lemmas.Bool.{false≢true}
use Rattle.gsn.specs.declared.case.CRel.{CRel}
use Rattle.gsn.specs.Incoming.{targets}
use Rattle.gsn.specs.Marks.{one_for, tally, total, supports_node}

pub tally_same : (f g : ℕ → CRel → Bool) (rs : List CRel) → ((k : ℕ) (r : CRel) → slice_get rs k ≡ Some r → f k r ≡ g k r) → tally f rs ≡ tally g rs
tally_same f g [] h = refl
tally_same f g (r ∷ rs) h =
    ap (λ b. one_for b + tally (λ k. f (suc k)) rs) (h 0 r refl)
    ∙ ap (λ n. one_for (g 0 r) + n) (tally_same (λ k. f (suc k)) (λ k. g (suc k)) rs (λ k s e. h (suc k) s e))

pub tally_none : (f : ℕ → CRel → Bool) (rs : List CRel) → ((k : ℕ) (r : CRel) → slice_get rs k ≡ Some r → f k r ≡ false) → tally f rs ≡ 0
tally_none f [] h = refl
tally_none f (r ∷ rs) h = sums_to (f 0 r) (tally (λ k. f (suc k)) rs) (h 0 r refl) (tally_none (λ k. f (suc k)) rs (λ k s e. h (suc k) s e))
  where
    sums_to : (p : Bool) (n : ℕ) → p ≡ false → n ≡ 0 → one_for p + n ≡ 0
    sums_to true n e z = absurd (false≢true (sym e))
    sums_to false n e z = omega (arith, z)

one_here : (p q : Bool) (a b : ℕ) → p ≡ false → q ≡ true → a ≡ b → one_for q + b ≡ suc (one_for p + a)
one_here true q a b e h z = absurd (false≢true (sym e))
one_here false true a b e h z = omega (arith, z)
one_here false false a b e h z = absurd (false≢true h)

one_there : (p q : Bool) (a b : ℕ) → p ≡ q → b ≡ suc a → one_for q + b ≡ suc (one_for p + a)
one_there true true a b e z = omega (arith, z)
one_there false false a b e z = omega (arith, z)
one_there true false a b e z = absurd (false≢true (sym e))
one_there false true a b e z = absurd (false≢true e)

same_value : (x r : CRel) → Some x ≡ Some r → x ≡ r
same_value x r e = cc

pub tally_more : (f g : ℕ → CRel → Bool) (rs : List CRel) (k : ℕ) (r : CRel) → slice_get rs k ≡ Some r → f k r ≡ false → g k r ≡ true
    → ((i : ℕ) (s : CRel) → slice_get rs i ≡ Some s → (i ≡ k → ⊥) → f i s ≡ g i s) → tally g rs ≡ suc (tally f rs)
tally_more f g [] k r e off on other = cc
tally_more f g (x ∷ rs) zero r e off on other =
    one_here (f 0 x) (g 0 x) (tally (λ k. f (suc k)) rs) (tally (λ k. g (suc k)) rs) (ap (f 0) (same_value x r e) ∙ off) (ap (g 0) (same_value x r e) ∙ on)
    (tally_same (λ k. f (suc k)) (λ k. g (suc k)) rs (λ i s p. other (suc i) s p (λ z. absurd (omega (arith, z)))))
tally_more f g (x ∷ rs) (suc k) r e off on other =
    one_there (f 0 x) (g 0 x) (tally (λ k. f (suc k)) rs) (tally (λ k. g (suc k)) rs) (other 0 x refl (λ z. absurd (omega (arith, z))))
    (tally_more (λ k. f (suc k)) (λ k. g (suc k)) rs k r e off on (λ i s p ne. other (suc i) s p (λ z. ne (omega (arith, z)))))

one_grows : (p q : Bool) (a b : ℕ) → (p ≡ true → q ≡ true) → a ≤ b → one_for p + a ≤ one_for q + b
one_grows true true a b h l = omega (arith, l)
one_grows true false a b h l = absurd (false≢true (h refl))
one_grows false true a b h l = omega (arith, l)
one_grows false false a b h l = omega (arith, l)

pub tally_grows : (f g : ℕ → CRel → Bool) (rs : List CRel) → ((k : ℕ) (r : CRel) → slice_get rs k ≡ Some r → f k r ≡ true → g k r ≡ true) → tally f rs ≤ tally g rs
tally_grows f g [] h = omega arith
tally_grows f g (r ∷ rs) h =
    one_grows (f 0 r) (g 0 r) (tally (λ k. f (suc k)) rs) (tally (λ k. g (suc k)) rs) (h 0 r refl) (tally_grows (λ k. f (suc k)) (λ k. g (suc k)) rs (λ k s e. h (suc k) s e))

-- ---- a relation at a place

pub at_place : (rs : List CRel) (k : ℕ) (d : CRel) → k < length rs → slice_get rs k ≡ Some (get_or rs k d)
at_place [] k d h = absurd (omega (arith, h))
at_place (x ∷ rs) zero d h = refl
at_place (x ∷ rs) (suc k) d h = at_place rs k d (omega (arith, h))

pub target_at : (rs : List CRel) (k : ℕ) (r : CRel) → slice_get rs k ≡ Some r → slice_index (targets rs) k ≡ r.to
target_at [] k r e = cc
target_at (x ∷ rs) zero r e = ap (λ y. y.to) (same_value x r e)
target_at (x ∷ rs) (suc k) r e = target_at rs k r e

pub place_in : (rs : List CRel) (k : ℕ) (r : CRel) → slice_get rs k ≡ Some r → k < length rs
place_in [] k r e = cc
place_in (x ∷ rs) zero r e = omega arith
place_in (x ∷ rs) (suc k) r e = omega (arith, place_in rs k r e)

-- ---- the relations so far

tally_more_of : (p : CRel → Bool) (rs : List CRel) (k : ℕ) (d : CRel) → k < length rs
    → tally (λ i. p) (take (suc k) rs) ≡ tally (λ i. p) (take k rs) + one_for (p (get_or rs k d))
tally_more_of p [] k d l = absurd (omega (arith, l))
tally_more_of p (r ∷ rs) zero d l = omega arith
tally_more_of p (r ∷ rs) (suc k) d l = let h = tally_more_of p rs k d (omega (arith, l)) in omega (arith, h)

pub total_more : (rs : List CRel) (x k : ℕ) (d : CRel) → k < length rs → total (take (k + 1) rs) x ≡ total (take k rs) x + one_for (supports_node x (get_or rs k d))
total_more rs x k d l = rw add-one (tally_more_of (supports_node x) rs k d l)
