-- The fault of a text stands in the text or at its end.
use Rattle.std.proofs.Common.{◌≡◌, ◌∙◌, refl, ap, subst, ℕ, suc, ◌+◌, ◌≤◌, List, [], ◌∷◌, length, Bool, true, false, Option, Some, None, arith}
use Rattle.std.specs.Prelude.{if◌then◌else◌, nat_le, ◌==◌, All}
use Rattle.std.proofs.lemmas.List.Elements.{All-nil, All-cons, All-head, All-tail}
use Rattle.std.proofs.lemmas.Option.{same_Some}
use Rattle.meaning.specs.Expressions.{Piece, run, blank, exclamation, ampersand, pipe, equals, less, greater, opening, closing, strange, pieces_of, longer_run, sign_of}
use Rattle.meaning.specs.Texts.{is_word_byte}
use Rattle.meaning.specs.BundlePlaces.{or_else}
use Rattle.meaning.specs.ExpressionFaults.{TextFault, TooMany, Syntax, UnknownName, Lexeme, word_or_stray, negation, operator, left_paren, right_paren, stray, placed_tokens, Next, an_operand, next_after, may_end, goes_on, is_known, token_fault, fault_from, expression_fault, place_in_text}

-- ---- places of tokens

abbrev piece_length : Piece → ℕ
piece_length (run w) = length w
piece_length p = 1

abbrev pieces_length : List Piece → ℕ
pieces_length [] = 0
pieces_length (p ∷ ps) = piece_length p + pieces_length ps

longer_length : (c : ℕ) (ps : List Piece) → pieces_length (longer_run c ps) ≡ suc (pieces_length ps)
longer_length c [] = omega arith
longer_length c (run w ∷ ps) = omega arith
longer_length c (p ∷ ps) = omega arith

one_of : (b : Bool) (p q : Piece) → piece_length p ≡ 1 → piece_length q ≡ 1 → piece_length (if b then p else q) ≡ 1
one_of true p q e f = e
one_of false p q e f = f

sign_length : (c : ℕ) → piece_length (sign_of c) ≡ 1
sign_length c =
    one_of (c == 32) blank _ refl
    (one_of (c == 33) exclamation _ refl
    (one_of (c == 38) ampersand _ refl
    (one_of (c == 124) pipe _ refl
    (one_of (c == 61) equals _ refl
    (one_of (c == 60) less _ refl
    (one_of (c == 62) greater _ refl
    (one_of (c == 40) opening _ refl
    (one_of (c == 41) closing strange refl refl))))))))

text_length : (s : List ℕ) → pieces_length (pieces_of s) ≡ length s
text_length [] = refl
text_length (c ∷ cs) = go (is_word_byte c) (text_length cs)
  where
    go : (b : Bool) → pieces_length (pieces_of cs) ≡ length cs → pieces_length (if b then longer_run c (pieces_of cs) else sign_of c ∷ pieces_of cs) ≡ suc (length cs)
    go true later = longer_length c (pieces_of cs) ∙ ap suc later
    go false later = let one = sign_length c in omega arith

-- each token stands at a byte of the pieces
module _ (end : ℕ) where
  abbrev Inside : ℕ × Lexeme → Type 0
  Inside t = t.0 ≤ end

  placed_inside : (at : ℕ) (ps : List Piece) → at + pieces_length ps ≤ end → All Inside (placed_tokens at ps)
  placed_inside at [] h = All-nil Inside
  placed_inside at (run w ∷ ps) h = All-cons Inside (at, word_or_stray w) (placed_tokens (at + length w) ps) (omega arith) (placed_inside (at + length w) ps (omega arith))
  placed_inside at (blank ∷ ps) h = placed_inside (at + 1) ps (omega arith)
  placed_inside at (exclamation ∷ ps) h = All-cons Inside (at, negation) (placed_tokens (at + 1) ps) (omega arith) (placed_inside (at + 1) ps (omega arith))
  placed_inside at (ampersand ∷ ps) h = All-cons Inside (at, operator) (placed_tokens (at + 1) ps) (omega arith) (placed_inside (at + 1) ps (omega arith))
  placed_inside at (pipe ∷ ps) h = All-cons Inside (at, operator) (placed_tokens (at + 1) ps) (omega arith) (placed_inside (at + 1) ps (omega arith))
  placed_inside at (opening ∷ ps) h = All-cons Inside (at, left_paren) (placed_tokens (at + 1) ps) (omega arith) (placed_inside (at + 1) ps (omega arith))
  placed_inside at (closing ∷ ps) h = All-cons Inside (at, right_paren) (placed_tokens (at + 1) ps) (omega arith) (placed_inside (at + 1) ps (omega arith))
  placed_inside at (equals ∷ greater ∷ ps) h = All-cons Inside (at, operator) (placed_tokens (at + 2) ps) (omega arith) (placed_inside (at + 2) ps (omega arith))
  placed_inside at (less ∷ equals ∷ greater ∷ ps) h = All-cons Inside (at, operator) (placed_tokens (at + 3) ps) (omega arith) (placed_inside (at + 3) ps (omega arith))
  placed_inside at (p ∷ ps) h = All-cons Inside (at, stray) [] (omega arith) (All-nil Inside)

  -- ---- the fault at a token

  token_inside : (names : List (List ℕ)) (count : ℕ) (next : Next) (t : ℕ × Lexeme) (f : TextFault) → Inside t → token_fault names count next t ≡ Some f → place_in_text f ≤ end
  token_inside names count next t f h e = go (nat_le 512 count) (goes_on next t.1) (is_known names t.1) e
    where
      place_is : (g f : TextFault) → Some g ≡ Some f → place_in_text g ≤ end → place_in_text f ≤ end
      place_is g f e h = subst (λ f. place_in_text f ≤ end) (same_Some g f e) h

      go : (a b c : Bool) → (if a then Some (TooMany t.0) else (if b then (if c then None else Some (UnknownName t.0)) else Some (Syntax t.0))) ≡ Some f → place_in_text f ≤ end
      go true b c e = place_is (TooMany t.0) f e h
      go false true true e = absurd cc
      go false true false e = place_is (UnknownName t.0) f e h
      go false false c e = place_is (Syntax t.0) f e h

  fault_inside : (names : List (List ℕ)) (count : ℕ) (next : Next) (ts : List (ℕ × Lexeme)) (f : TextFault) → All Inside ts → fault_from names end count next ts ≡ Some f → place_in_text f ≤ end
  fault_inside names count next [] f all e = go (may_end next) e
    where
      go : (b : Bool) → (if b then None else Some (Syntax end)) ≡ Some f → place_in_text f ≤ end
      go true e = absurd cc
      go false e = subst (λ f. place_in_text f ≤ end) (same_Some (Syntax end) f e) (omega arith)
  fault_inside names count next (t ∷ ts) f all e =
      go (token_fault names count next t) refl e (fault_inside names (count + 1) (next_after next t.1) ts f (All-tail Inside t ts all))
    where
      go : (o : Option TextFault) → token_fault names count next t ≡ o → or_else o (fault_from names end (count + 1) (next_after next t.1) ts) ≡ Some f
          → (fault_from names end (count + 1) (next_after next t.1) ts ≡ Some f → place_in_text f ≤ end) → place_in_text f ≤ end
      go None is e later = later e
      go (Some g) is e later = token_inside names count next t f (All-head Inside t ts all) (is ∙ e)

pub fault_place : (names : List (List ℕ)) (s : List ℕ) (f : TextFault) → expression_fault names s ≡ Some f → place_in_text f ≤ length s
unfolding expression_fault
fault_place names s f e =
    let n = text_length s in
    fault_inside (length s) names 0 (an_operand 0) (placed_tokens 0 (pieces_of s)) f (placed_inside (length s) 0 (pieces_of s) (omega arith)) e
