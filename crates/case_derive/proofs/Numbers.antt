-- The number of a marked item among the marked.
use Rattle.std.proofs.Common.{◌≡◌, ℕ, zero, suc, ◌+◌, ◌<◌, List, [], ◌∷◌, Bool, true, false, Some, None, length, get_or, refl, sym, ap, subst, ◌∙◌, arith}
use Rattle.std.specs.Prelude.{take, count_by, cond, if◌then◌else◌, IfSome}
use Rattle.std.proofs.lemmas.List.{get_or_read}
use Rattle.std.proofs.lemmas.List.Sums.{sum_by-cons}
use Rattle.meaning.specs.Texts.{holds_at}
use Rattle.case_derive.specs.Places.{IsNumbered, marked_before, place_at}

place_is : (marks : List Bool) (i : ℕ) (b : Bool) → holds_at marks i ≡ b → place_at marks i ≡ (if b then Some (marked_before marks i) else None)
place_is marks i b e = ap (λ (x : Bool). if x then Some (marked_before marks i) else None) e

pub place_missing : (marks : List Bool) (i : ℕ) → holds_at marks i ≡ false → place_at marks i ≡ None
place_missing marks i e = place_is marks i false e

pub place_there : (marks : List Bool) (numbers : List ℕ) (i n : ℕ) → IsNumbered marks numbers → i < length marks → holds_at marks i ≡ true → n ≡ get_or numbers i n → Some n ≡ place_at marks i
place_there marks numbers i n h l e at =
    ap Some (get_or_read numbers i n (omega (arith, h.all, l)) at 0 ∙ h.each i l) ∙ sym (place_is marks i true e)

-- how many are marked
abbrev pub marked : List Bool → ℕ
marked marks = count_by (λ b. b) marks

number_below : (marks : List Bool) (i : ℕ) → holds_at marks i ≡ true → marked_before marks i < marked marks
number_below [] i e = absurd (no e)
  where
    no : false ≡ true → ⊥
    no h = cc
number_below (b ∷ bs) zero e = subst (λ n. 0 < n) (sym (sum_by-cons (λ (x : Bool). cond x 1 0) b bs)) (first b e)
  where
    first : (x : Bool) → x ≡ true → 0 < cond x 1 0 + marked bs
    first true h = omega arith
    first false h = absurd (no h)
      where
        no : false ≡ true → ⊥
        no h = cc
number_below (b ∷ bs) (suc i) e =
    omega (arith, sum_by-cons (λ (x : Bool). cond x 1 0) b bs, sum_by-cons (λ (x : Bool). cond x 1 0) b (take i bs), number_below bs i e)

-- so a number is below them
pub place_below : (marks : List Bool) (i : ℕ) → IfSome (place_at marks i) (λ n. n < marked marks)
place_below marks i = go (holds_at marks i) (number_below marks i)
  where
    go : (b : Bool) → (b ≡ true → marked_before marks i < marked marks) → IfSome (if b then Some (marked_before marks i) else None) (λ n. n < marked marks)
    go true h = h refl
    go false h = tt
