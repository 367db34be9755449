-- Numbers with points between them, one more at the end.
use Rattle.std.proofs.Common.{◌≡◌, ℕ, zero, suc, ◌+◌, ◌<◌, ◌==◌, Bool, false, List, [], ◌∷◌, ◌++◌, map, length, take, get_or, refl, sym, ap, ◌∙◌, arith, decimal, add-one}
use Rattle.std.specs.List.{join_with_byte}
use Rattle.std.proofs.lemmas.List.{append_assoc}
use Rattle.lifting.specs.TextParts.{point_before}
use Rattle.meaning.proofs.EqualityTests.{same_number, other_number}

joined_more : (xs : List (List ℕ)) (x y : List ℕ) → join_with_byte 46 ((x ∷ xs) ++ y ∷ []) ≡ join_with_byte 46 (x ∷ xs) ++ 46 ∷ y
joined_more [] x y = refl
joined_more (z ∷ xs) x y = ap (λ s. x ++ 46 ∷ s) (joined_more xs z y) ∙ sym (append_assoc x (46 ∷ join_with_byte 46 (z ∷ xs)) (46 ∷ y))

taken_more : (ns : List ℕ) (i : ℕ) → i < length ns → take (suc i) ns ≡ take i ns ++ get_or ns i 0 ∷ []
taken_more [] i l = absurd (omega (arith, l))
taken_more (m ∷ ns) zero l = refl
taken_more (m ∷ ns) (suc i) l = ap (λ ks. m ∷ ks) (taken_more ns i (omega (arith, l)))

map_more : (ns : List ℕ) (n : ℕ) → map decimal (ns ++ n ∷ []) ≡ map decimal ns ++ decimal n ∷ []
map_more [] n = refl
map_more (m ∷ ns) n = ap (λ ss. decimal m ∷ ss) (map_more ns n)

later : (i : ℕ) → (suc i == 0) ≡ false
later i = other_number (suc i) 0 (λ e. omega (arith, e))

pub no_first : (i : ℕ) → false ≡ (i + 1 == 0)
no_first i = sym (other_number (i + 1) 0 (λ e. omega (arith, e)))

pub next_joined : (ns : List ℕ) (i : ℕ) (first : Bool) → first ≡ (i == 0) → i < length ns
    → (join_with_byte 46 (map decimal (take i ns)) ++ point_before first) ++ decimal (get_or ns i 0) ≡ join_with_byte 46 (map decimal (take (i + 1) ns))
next_joined [] i first f l = absurd (omega (arith, l))
next_joined (m ∷ ns) zero first f l = ap (λ b. point_before b ++ decimal m) (f ∙ same_number 0 0 refl) ∙ sym (ap (λ k. join_with_byte 46 (map decimal (take k (m ∷ ns)))) (add-one 0))
next_joined (m ∷ ns) (suc i) first f l =
    ap (λ b. (join_with_byte 46 (map decimal (take (suc i) (m ∷ ns))) ++ point_before b) ++ decimal (get_or ns i 0)) (f ∙ later i)
    ∙ append_assoc (join_with_byte 46 (map decimal (take (suc i) (m ∷ ns)))) (46 ∷ []) (decimal (get_or ns i 0))
    ∙ sym
    (ap (λ j. join_with_byte 46 (map decimal (take j (m ∷ ns)))) (add-one (suc i))
    ∙ ap (λ ks. join_with_byte 46 (map decimal (m ∷ ks))) (taken_more ns i (omega (arith, l)))
    ∙ ap (λ ss. join_with_byte 46 (decimal m ∷ ss)) (map_more (take i ns) (get_or ns i 0))
    ∙ joined_more (map decimal (take i ns)) (decimal m) (decimal (get_or ns i 0)))
