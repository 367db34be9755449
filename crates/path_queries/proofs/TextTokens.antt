-- A text without a fault is a row of tokens, none of them stray.
use Rattle.std.proofs.Common.{◌≡◌, ◌∙◌, sym, ap, subst, refl, ℕ, ◌+◌, List, [], ◌∷◌, ◌++◌, length, Bool, true, false, not, ◌||◌, Option, Some, None}
use Rattle.std.specs.Prelude.{if◌then◌else◌, nat_le, option_and_then, option_map}
use Rattle.std.proofs.lemmas.Bool.{true≢false}
use Rattle.std.proofs.lemmas.List.{append-nil}
use Rattle.meaning.specs.Texts.{begins_with_letter}
use Rattle.meaning.specs.Models.{Model}
use Rattle.meaning.specs.BundlePlaces.{or_else}
use Rattle.meaning.specs.ExpressionFaults.{TextFault, TooMany, Syntax, UnknownName, Repeated}
use Rattle.meaning.specs.QueryTexts.{Token, word, quoted, colon, comma, open_bracket, close_bracket, open_paren, close_paren, dot, equal_sign, exclamation, bar, slash, plus, caret, blank, strange, signs_of, alternate, then_token, proper}
use Rattle.meaning.specs.QueryFaults.{word_or_strange, placed_signs, placed_tokens, Next, a_query, a_new_variable, the_colon, the_type, after_type, a_constraint, a_negated_walk, after_variable, an_attribute, a_comparison, a_quoted_text, a_step, a_step_back, after_step, the_other_end, after_constraint, Progress, goes_on, is_stray, is_known, new_variable, is_variable_too_many, begins_constraint_too_many, stands_in_scope, progress_after, token_fault, fault_from}
use Rattle.path_queries.specs.Tokens.{bare}

-- no token is stray
abbrev pub NoStrays : List (ℕ × Token) → Type 0
NoStrays [] = Unit {0}
NoStrays (q ∷ qs) = (is_stray q.1 ≡ false) × NoStrays qs

none_parts : (a v c g k s : Bool) (at : ℕ) (y : Option TextFault)
    → or_else (if a || v || c then Some (TooMany at) else (if not g then Some (Syntax at) else (if not k then Some (UnknownName at)
    else (if s then Some (Repeated at) else None)))) y ≡ None → (g ≡ true) × (y ≡ None)
none_parts a v c g k s at y e = go (a || v || c) g k s e
  where
    go : (b g k s : Bool) → or_else (if b then Some (TooMany at) else (if not g then Some (Syntax at) else (if not k then Some (UnknownName at)
        else (if s then Some (Repeated at) else None)))) y ≡ None → (g ≡ true) × (y ≡ None)
    go true g k s e = absurd cc
    go false false k s e = absurd cc
    go false true false s e = absurd cc
    go false true true true e = absurd cc
    go false true true false e = (refl, e)

stray_halts : (n : Next) → goes_on n strange ≡ false
stray_halts a_query = refl
stray_halts (after_step opened) = refl
stray_halts n = refl

going_no_stray : (n : Next) (t : Token) → goes_on n t ≡ true → is_stray t ≡ false
going_no_stray n strange e = absurd (true≢false (sym e ∙ stray_halts n))
going_no_stray n t e = refl

pub no_strays : (m : Model) (end : ℕ) (qs : List (ℕ × Token)) (at : ℕ) (p : Progress) → fault_from m end at p qs ≡ None → NoStrays qs
no_strays m end [] at p e = tt
no_strays m end (q ∷ qs) at p e =
    let parts =
    none_parts (nat_le 256 at) (is_variable_too_many p (new_variable p.next q.1 qs)) (begins_constraint_too_many p p.next q.1) (goes_on p.next q.1) (is_known m p p.next q.1)
    (stands_in_scope p (new_variable p.next q.1 qs)) q.0 (fault_from m end (at + 1) (progress_after m p p.next q.1) qs) e in
    (going_no_stray p.next q.1 parts.0, no_strays m end qs (at + 1) (progress_after m p p.next q.1) parts.1)

word_begins : (w : List ℕ) → is_stray (word_or_strange w) ≡ false → begins_with_letter w ≡ true
word_begins w e = go (begins_with_letter w) e
  where
    go : (b : Bool) → is_stray (if b then word w else strange) ≡ false → b ≡ true
    go true e = refl
    go false e = absurd (true≢false e)

-- the tokens behind signs are none of them stray
strays_behind : (at : ℕ) (ts : List Token) (rest : List (ℕ × Token)) → NoStrays (placed_signs at ts rest) → NoStrays rest
strays_behind at [] rest h = h
strays_behind at (word w ∷ ts) rest h = strays_behind (at + length w) ts rest h.1
strays_behind at (blank ∷ ts) rest h = strays_behind (at + 1) ts rest h
strays_behind at (exclamation ∷ equal_sign ∷ ts) rest h = strays_behind (at + 2) ts rest h.1
strays_behind at (exclamation ∷ ts) rest h = absurd (true≢false h.0)
strays_behind at (t ∷ ts) rest h = strays_behind (at + 1) ts rest h.1

-- signs in front of tokens are the tokens that stand there
signs_are_proper : (at : ℕ) (ts : List Token) (rest : List (ℕ × Token)) (us : List Token) → NoStrays (placed_signs at ts rest) → proper us ≡ Some (bare rest)
    → proper (ts ++ us) ≡ Some (bare (placed_signs at ts rest))
signs_are_proper at [] rest us h e = e
signs_are_proper at (word w ∷ ts) rest us h e =
    let letter = word_begins w h.0 in
    ap (λ b. if b then then_token (word w) (proper (ts ++ us)) else None) letter
    ∙ (ap (then_token (word w)) (signs_are_proper (at + length w) ts rest us h.1 e)
    ∙ ap (λ b. Some ((if b then word w else strange) ∷ bare (placed_signs (at + length w) ts rest))) (sym letter))
signs_are_proper at (blank ∷ ts) rest us h e = signs_are_proper (at + 1) ts rest us h e
signs_are_proper at (strange ∷ ts) rest us h e = absurd (true≢false h.0)
signs_are_proper at (exclamation ∷ equal_sign ∷ ts) rest us h e = ap (then_token exclamation) (signs_are_proper (at + 2) ts rest us h.1 e)
signs_are_proper at (exclamation ∷ ts) rest us h e = absurd (true≢false h.0)
signs_are_proper at (t ∷ ts) rest us h e = ap (then_token t) (signs_are_proper (at + 1) ts rest us h.1 e)

pub pieces_are_tokens : (s : List ℕ) (ss : List (List ℕ)) (at : ℕ) → NoStrays (placed_tokens at (s ∷ ss))
    → option_and_then proper (alternate (s ∷ ss)) ≡ Some (bare (placed_tokens at (s ∷ ss)))
pieces_are_tokens s [] at h =
    ap proper (sym (append-nil (signs_of s))) ∙ signs_are_proper at (signs_of s) [] [] h refl
pieces_are_tokens s (q ∷ []) at h =
    let r = strays_behind at (signs_of s) ((at + length s, strange) ∷ []) h in absurd (true≢false r.0)
pieces_are_tokens s (q ∷ r ∷ ss) at h =
    let behind = strays_behind at (signs_of s) ((at + length s, quoted q) ∷ placed_tokens (at + length s + length q + 2) (r ∷ ss)) h in
    go (alternate (r ∷ ss)) (pieces_are_tokens r ss (at + length s + length q + 2) behind.1)
  where
    go : (o : Option (List Token)) → option_and_then proper o ≡ Some (bare (placed_tokens (at + length s + length q + 2) (r ∷ ss)))
        → option_and_then proper (option_map (λ ts. signs_of s ++ quoted q ∷ ts) o) ≡ Some (bare (placed_tokens at (s ∷ q ∷ r ∷ ss)))
    go None e = absurd cc
    go (Some ts) e =
        signs_are_proper at (signs_of s) ((at + length s, quoted q) ∷ placed_tokens (at + length s + length q + 2) (r ∷ ss)) (quoted q ∷ ts) h (ap (then_token (quoted q)) e)
