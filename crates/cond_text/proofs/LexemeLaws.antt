-- What stands at a byte of a text, by its first bytes.
use Rattle.std.proofs.Common.{◌≡◌, ◌∙◌, sym, ap, refl, ℕ, zero, suc, ◌+◌, ◌<◌, List, [], ◌∷◌, length, drop, slice_index, Bool, true, false, add-one, arith}
use Rattle.std.specs.Prelude.{◌==◌, if◌then◌else◌}
use Rattle.std.proofs.lemmas.List.{drop_more}
use Rattle.std.proofs.lemmas.Bool.{eqb-true, true≢false}
use Rattle.meaning.specs.Texts.{is_letter, is_word_byte}
use Rattle.meaning.specs.Expressions.{equals, less, sign_of, longer_run, pieces_of, tokens_of}
use Rattle.meaning.specs.ExpressionFaults.{stray, word_or_stray, placed_tokens, Next, an_operand, after_operand, goes_on}
use Rattle.cond_text.specs.declared.token.Token.TheVariants.{Implies, Same}
use Rattle.cond_text.specs.Lexemes.{begins_with, placed_from, StandsAt, IsStrayAt}
use Rattle.cond_text.proofs.Pieces.{sign_cases, longer}

-- ---- the first byte

pub first_byte : (s : List ℕ) (at c : ℕ) → at < length s → slice_index s at ≡ c → drop at s ≡ c ∷ drop (at + 1) s
first_byte s at c inside is = drop_more s at 0 inside ∙ ap (λ b. b ∷ drop (at + 1) s) is

next_of_list : (s : List ℕ) (at c : ℕ) → begins_with c (drop at s) ≡ true → (at < length s) × (drop at s ≡ c ∷ drop (suc at) s)
next_of_list [] zero c e = absurd cc
next_of_list [] (suc at) c e = absurd cc
next_of_list (x ∷ xs) zero c e = (omega arith, ap (λ b. b ∷ xs) (eqb-true x c e))
next_of_list (x ∷ xs) (suc at) c e = let r = next_of_list xs at c e in (omega arith, r.1)

pub next_byte : (s : List ℕ) (at c : ℕ) → begins_with c (drop at s) ≡ true → (at < length s) × (drop at s ≡ c ∷ drop (at + 1) s)
next_byte s at c e = rw add-one (next_of_list s at c e)

-- ---- strays

stray_stops : (next : Next) → goes_on next stray ≡ false
stray_stops (an_operand k) = refl
stray_stops (after_operand zero) = refl
stray_stops (after_operand (suc k)) = refl

equals_stray : (k : ℕ) (cs : List ℕ) → begins_with 62 cs ≡ false → placed_tokens k (equals ∷ pieces_of cs) ≡ (k, stray) ∷ []
equals_stray k [] e = refl
equals_stray k (c ∷ cs) e = go (is_word_byte c)
  where
    go : (b : Bool) → placed_tokens k (equals ∷ (if b then longer_run c (pieces_of cs) else sign_of c ∷ pieces_of cs)) ≡ (k, stray) ∷ []
    go true = let r = longer c (pieces_of cs) in rw r.2 refl
    go false =
        sign_cases (λ p. placed_tokens k (equals ∷ p ∷ pieces_of cs) ≡ (k, stray) ∷ []) c
        (λ h. refl) (λ h. refl) (λ h. refl) (λ h. refl) (λ h. refl) (λ h. refl) (λ h. absurd (true≢false (sym h ∙ e))) (λ h. refl) (λ h. refl) refl

less_equals_stray : (k : ℕ) (cs : List ℕ) → begins_with 62 cs ≡ false → placed_tokens k (less ∷ equals ∷ pieces_of cs) ≡ (k, stray) ∷ []
less_equals_stray k [] e = refl
less_equals_stray k (c ∷ cs) e = go (is_word_byte c)
  where
    go : (b : Bool) → placed_tokens k (less ∷ equals ∷ (if b then longer_run c (pieces_of cs) else sign_of c ∷ pieces_of cs)) ≡ (k, stray) ∷ []
    go true = let r = longer c (pieces_of cs) in rw r.2 refl
    go false =
        sign_cases (λ p. placed_tokens k (less ∷ equals ∷ p ∷ pieces_of cs) ≡ (k, stray) ∷ []) c
        (λ h. refl) (λ h. refl) (λ h. refl) (λ h. refl) (λ h. refl) (λ h. refl) (λ h. absurd (true≢false (sym h ∙ e))) (λ h. refl) (λ h. refl) refl

less_stray : (k : ℕ) (cs : List ℕ) → begins_with 61 cs ≡ false → placed_tokens k (less ∷ pieces_of cs) ≡ (k, stray) ∷ []
less_stray k [] e = refl
less_stray k (c ∷ cs) e = go (is_word_byte c)
  where
    go : (b : Bool) → placed_tokens k (less ∷ (if b then longer_run c (pieces_of cs) else sign_of c ∷ pieces_of cs)) ≡ (k, stray) ∷ []
    go true = let r = longer c (pieces_of cs) in rw r.2 refl
    go false =
        sign_cases (λ p. placed_tokens k (less ∷ p ∷ pieces_of cs) ≡ (k, stray) ∷ []) c
        (λ h. refl) (λ h. refl) (λ h. refl) (λ h. refl) (λ h. absurd (true≢false (sym h ∙ e))) (λ h. refl) (λ h. refl) (λ h. refl) (λ h. refl) refl

stray_at : (s : List ℕ) (at : ℕ) (cs : List ℕ) → drop at s ≡ cs → placed_tokens at (pieces_of cs) ≡ (at, stray) ∷ [] → IsStrayAt s at
stray_at s at cs e h = record { lexeme = stray; others = []; placed = ap (λ us. placed_tokens at (pieces_of us)) e ∙ h; stray = stray_stops }

-- ---- `=`

pub arrow_stands : (names : List (List ℕ)) (s : List ℕ) (at : ℕ) → at < length s → slice_index s at ≡ 61 → begins_with 62 (drop (at + 1) s) ≡ true
    → StandsAt names s at Implies (at + 2)
arrow_stands names s at inside is next =
    let n = next_byte s (at + 1) 62 next in
    let e : drop at s ≡ 61 ∷ 62 ∷ drop (at + 2) s = first_byte s at 61 inside is ∙ ap (λ cs. 61 ∷ cs) (n.1 ∙ ap (λ k. 62 ∷ drop k s) (let f : at + 1 + 1 ≡ at + 2 = omega arith in f)) in
    record { beyond = omega arith; within = omega arith; stands = tt; placed = ap (λ cs. placed_tokens at (pieces_of cs)) e; tokens = ap (λ cs. tokens_of (pieces_of cs)) e }

pub no_arrow : (s : List ℕ) (at : ℕ) → at < length s → slice_index s at ≡ 61 → begins_with 62 (drop (at + 1) s) ≡ false → IsStrayAt s at
no_arrow s at inside is next = stray_at s at (61 ∷ drop (at + 1) s) (first_byte s at 61 inside is) (equals_stray at (drop (at + 1) s) next)

-- ---- `<`

pub double_arrow_stands : (names : List (List ℕ)) (s : List ℕ) (at : ℕ) → at < length s → slice_index s at ≡ 60 → begins_with 61 (drop (at + 1) s) ≡ true
    → begins_with 62 (drop (at + 2) s) ≡ true → StandsAt names s at Same (at + 3)
double_arrow_stands names s at inside is next last =
    let n = next_byte s (at + 1) 61 next in
    let m = next_byte s (at + 2) 62 last in
    let e : drop at s ≡ 60 ∷ 61 ∷ 62 ∷ drop (at + 3) s =
    first_byte s at 60 inside is ∙ ap (λ cs. 60 ∷ cs) (n.1 ∙ ap (λ cs. 61 ∷ cs) (ap (λ k. drop k s) (let f : at + 1 + 1 ≡ at + 2 = omega arith in f)
    ∙ (m.1 ∙ ap (λ k. 62 ∷ drop k s) (let f : at + 2 + 1 ≡ at + 3 = omega arith in f)))) in
    record { beyond = omega arith; within = omega arith; stands = tt; placed = ap (λ cs. placed_tokens at (pieces_of cs)) e; tokens = ap (λ cs. tokens_of (pieces_of cs)) e }

pub no_equals : (s : List ℕ) (at : ℕ) → at < length s → slice_index s at ≡ 60 → begins_with 61 (drop (at + 1) s) ≡ false → IsStrayAt s at
no_equals s at inside is next = stray_at s at (60 ∷ drop (at + 1) s) (first_byte s at 60 inside is) (less_stray at (drop (at + 1) s) next)

pub no_double_arrow : (s : List ℕ) (at : ℕ) → at < length s → slice_index s at ≡ 60 → begins_with 61 (drop (at + 1) s) ≡ true
    → begins_with 62 (drop (at + 2) s) ≡ false → IsStrayAt s at
no_double_arrow s at inside is next last =
    let n = next_byte s (at + 1) 61 next in
    stray_at s at (60 ∷ 61 ∷ drop (at + 2) s)
    (first_byte s at 60 inside is ∙ ap (λ cs. 60 ∷ cs) (n.1 ∙ ap (λ k. 61 ∷ drop k s) (let f : at + 1 + 1 ≡ at + 2 = omega arith in f)))
    (less_equals_stray at (drop (at + 2) s) last)

-- ---- any other byte

unequal : (c d : ℕ) (P : Type 0) → (c ≡ d → ⊥) → (c == d) ≡ true → P
unequal c d P h e = absurd (h (eqb-true c d e))

pub other_stray : (s : List ℕ) (at c : ℕ) → at < length s → slice_index s at ≡ c → (c ≡ 32 → ⊥) → (c ≡ 33 → ⊥) → (c ≡ 38 → ⊥) → (c ≡ 124 → ⊥) → (c ≡ 61 → ⊥) → (c ≡ 60 → ⊥)
    → (c ≡ 40 → ⊥) → (c ≡ 41 → ⊥) → is_letter c ≡ false → IsStrayAt s at
other_stray s at c inside is n32 n33 n38 n124 n61 n60 n40 n41 no_letter = go (is_word_byte c) refl
  where
    go : (b : Bool) → is_word_byte c ≡ b → IsStrayAt s at
    go true e =
        let r = longer c (pieces_of (drop (at + 1) s)) in
        let front : placed_from s at ≡ (at, word_or_stray (c ∷ r.0)) ∷ placed_tokens (at + length (c ∷ r.0)) r.1 =
        ap (λ us. placed_tokens at (pieces_of us)) (first_byte s at c inside is) ∙ (rw e (ap (placed_tokens at) r.2)) in
        record { lexeme = stray; others = placed_tokens (at + length (c ∷ r.0)) r.1; placed = front ∙ (rw no_letter refl); stray = stray_stops }
    go false e =
        stray_at s at (c ∷ drop (at + 1) s) (first_byte s at c inside is)
        (rw e (sign_cases (λ p. placed_tokens at (p ∷ pieces_of (drop (at + 1) s)) ≡ (at, stray) ∷ []) c
        (unequal c 32 _ n32) (unequal c 33 _ n33) (unequal c 38 _ n38) (unequal c 124 _ n124) (unequal c 61 _ n61) (unequal c 60 _ n60)
        (λ h. refl) (unequal c 40 _ n40) (unequal c 41 _ n41) refl))
