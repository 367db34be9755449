-- The tokens of a query's text are the placed ones, where none of these is stray.
use Rattle.std.proofs.Common.{◌≡◌, ◌∙◌, sym, ap, refl, ℕ, ◌+◌, List, [], ◌∷◌, ◌++◌, length, Bool, true, false, Option, Some, None}
use Rattle.std.specs.Prelude.{if◌then◌else◌, option_and_then, option_map, ◌==◌}
use Rattle.std.proofs.lemmas.List.{append-nil}
use Rattle.meaning.specs.Texts.{begins_with_letter}
use Rattle.meaning.specs.QueryTexts.{Token, word, quoted, equal_sign, exclamation, blank, strange, in_first, cut_at_quotes, signs_of, alternate, then_token, proper, tokens_of}
use Rattle.meaning.specs.QueryFaults.{word_or_strange, placed_signs, placed_tokens}

-- the token in front of others, unless it is stray
abbrev pub then_proper : Token → Option (List Token) → Option (List Token)
then_proper strange o = None
then_proper t o = then_token t o

-- the tokens without their places, where none is stray
abbrev pub unplaced : List (ℕ × Token) → Option (List Token)
unplaced [] = Some []
unplaced ((at, t) ∷ qs) = then_proper t (unplaced qs)

-- what may stand behind signs: a quoted text, or nothing
abbrev is_behind : List Token → Bool
is_behind [] = true
is_behind (quoted q ∷ ts) = true
is_behind _ = false

nothing_then : (t : Token) → then_proper t None ≡ None
nothing_then strange = refl
nothing_then t = refl

-- a stray token behind signs
stray_behind : (at : ℕ) (us : List Token) (qs : List (ℕ × Token)) → unplaced qs ≡ None → unplaced (placed_signs at us qs) ≡ None
stray_behind at [] qs e = e
stray_behind at (word w ∷ us) qs e = ap (then_proper (word_or_strange w)) (stray_behind (at + length w) us qs e) ∙ nothing_then (word_or_strange w)
stray_behind at (blank ∷ us) qs e = stray_behind (at + 1) us qs e
stray_behind at (exclamation ∷ []) qs e = refl
stray_behind at (exclamation ∷ equal_sign ∷ us) qs e = ap (then_proper exclamation) (stray_behind (at + 2) us qs e)
stray_behind at (exclamation ∷ u ∷ us) qs e = refl
stray_behind at (t ∷ us) qs e = ap (then_proper t) (stray_behind (at + 1) us qs e) ∙ nothing_then t

word_placed : (w : List ℕ) (o : Option (List Token)) → (if begins_with_letter w then then_token (word w) o else None) ≡ then_proper (word_or_strange w) o
word_placed w o = go (begins_with_letter w)
  where
    go : (b : Bool) → (if b then then_token (word w) o else None) ≡ then_proper (if b then word w else strange) o
    go true = refl
    go false = refl

lone_exclamation : (ts : List Token) → is_behind ts ≡ true → proper (exclamation ∷ ts) ≡ None
lone_exclamation [] e = refl
lone_exclamation (quoted q ∷ ts) e = refl
lone_exclamation (t ∷ ts) e = absurd cc

signs_placed : (at : ℕ) (us ts : List Token) (qs : List (ℕ × Token)) → is_behind ts ≡ true → proper ts ≡ unplaced qs
    → proper (us ++ ts) ≡ unplaced (placed_signs at us qs)
signs_placed at [] ts qs behind e = e
signs_placed at (word w ∷ us) ts qs behind e =
    word_placed w (proper (us ++ ts)) ∙ ap (then_proper (word_or_strange w)) (signs_placed (at + length w) us ts qs behind e)
signs_placed at (blank ∷ us) ts qs behind e = signs_placed (at + 1) us ts qs behind e
signs_placed at (strange ∷ us) ts qs behind e = refl
signs_placed at (exclamation ∷ []) ts qs behind e = lone_exclamation ts behind
signs_placed at (exclamation ∷ equal_sign ∷ us) ts qs behind e = ap (then_token exclamation) (signs_placed (at + 2) us ts qs behind e)
signs_placed at (exclamation ∷ u ∷ us) ts qs behind e = refl
signs_placed at (t ∷ us) ts qs behind e = ap (then_token t) (signs_placed (at + 1) us ts qs behind e)

-- quotes in turn
turns_placed : (h : List ℕ) (hs : List (List ℕ)) (at : ℕ) → option_and_then proper (alternate (h ∷ hs)) ≡ unplaced (placed_tokens at (h ∷ hs))
turns_placed h [] at = ap proper (sym (append-nil (signs_of h))) ∙ signs_placed at (signs_of h) [] [] refl refl
turns_placed h (q ∷ []) at = sym (stray_behind at (signs_of h) ((at + length h, strange) ∷ []) refl)
turns_placed h (q ∷ s ∷ ss) at = go (alternate (s ∷ ss)) (turns_placed s ss (at + length h + length q + 2))
  where
    go : (o : Option (List Token)) → option_and_then proper o ≡ unplaced (placed_tokens (at + length h + length q + 2) (s ∷ ss))
        → option_and_then proper (option_map (λ ts. signs_of h ++ quoted q ∷ ts) o)
        ≡ unplaced (placed_signs at (signs_of h) ((at + length h, quoted q) ∷ placed_tokens (at + length h + length q + 2) (s ∷ ss)))
    go None e = sym (stray_behind at (signs_of h) _ (ap (then_token (quoted q)) (sym e)))
    go (Some ts) e = signs_placed at (signs_of h) (quoted q ∷ ts) _ refl (ap (then_token (quoted q)) e)

cut_shape : (s : List ℕ) → (h : List ℕ) × (hs : List (List ℕ)) × (cut_at_quotes s ≡ h ∷ hs)
cut_shape [] = ([], [], refl)
cut_shape (c ∷ cs) = go (c == 39) (cut_at_quotes cs) (cut_shape cs)
  where
    go : (b : Bool) (ss : List (List ℕ)) → (h : List ℕ) × (hs : List (List ℕ)) × (ss ≡ h ∷ hs)
        → (h : List ℕ) × (hs : List (List ℕ)) × ((if b then [] ∷ ss else in_first c ss) ≡ h ∷ hs)
    go true ss r = ([], ss, refl)
    go false ss (h, hs, e) = (c ∷ h, hs, ap (in_first c) e)

pub tokens_are_placed : (s : List ℕ) → tokens_of s ≡ unplaced (placed_tokens 0 (cut_at_quotes s))
tokens_are_placed s =
    let r = cut_shape s in
    ap (λ ss. option_and_then proper (alternate ss)) r.2 ∙ (turns_placed r.0 r.1 0 ∙ ap (λ ss. unplaced (placed_tokens 0 ss)) (sym r.2))
