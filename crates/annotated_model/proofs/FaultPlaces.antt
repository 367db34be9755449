-- The fault of a text stands at one of its bytes, or at its end.
use Rattle.std.proofs.Common.{◌≡◌, refl, ap, ◌∙◌, subst, ℕ, suc, ◌+◌, ◌≤◌, List, [], ◌∷◌, length, Bool, true, false, Option, Some, None, arith}
use Rattle.std.specs.Prelude.{if◌then◌else◌, ◌==◌, nat_le}
use Rattle.meaning.specs.Texts.{is_word_byte}
use Rattle.meaning.specs.Expressions.{Piece, run, blank, exclamation, ampersand, pipe, equals, less, greater, opening, closing, strange, sign_of, longer_run, pieces_of}
use Rattle.meaning.specs.BundlePlaces.{or_else}
use Rattle.meaning.specs.ExpressionFaults.{TextFault, TooMany, Syntax, UnknownName, place_in_text, Lexeme, negation, operator, left_paren, right_paren, stray, word_or_stray, placed_tokens, Next, an_operand, goes_on, next_after, is_known, may_end, fault_from, expression_fault}

-- ---- the pieces of a text have as many bytes as the text

piece_size : Piece → ℕ
piece_size (run w) = length w
piece_size p = 1

size : List Piece → ℕ
size [] = 0
size (p ∷ ps) = piece_size p + size ps

if_one : (b : Bool) (p q : Piece) → piece_size p ≡ 1 → piece_size q ≡ 1 → piece_size (if b then p else q) ≡ 1
if_one true p q e f = e
if_one false p q e f = f

sign_is_one : (c : ℕ) → piece_size (sign_of c) ≡ 1
unfolding piece_size
sign_is_one c =
    if_one (c == 32) blank _ refl (if_one (c == 33) exclamation _ refl (if_one (c == 38) ampersand _ refl (if_one (c == 124) pipe _ refl
    (if_one (c == 61) equals _ refl (if_one (c == 60) less _ refl (if_one (c == 62) greater _ refl (if_one (c == 40) opening _ refl
    (if_one (c == 41) closing strange refl refl))))))))

run_is_one_longer : (c : ℕ) (ps : List Piece) → size (longer_run c ps) ≡ suc (size ps)
unfolding piece_size size
run_is_one_longer c [] = refl
run_is_one_longer c (run w ∷ ps) = omega arith
run_is_one_longer c (blank ∷ ps) = omega arith
run_is_one_longer c (exclamation ∷ ps) = omega arith
run_is_one_longer c (ampersand ∷ ps) = omega arith
run_is_one_longer c (pipe ∷ ps) = omega arith
run_is_one_longer c (equals ∷ ps) = omega arith
run_is_one_longer c (less ∷ ps) = omega arith
run_is_one_longer c (greater ∷ ps) = omega arith
run_is_one_longer c (opening ∷ ps) = omega arith
run_is_one_longer c (closing ∷ ps) = omega arith
run_is_one_longer c (strange ∷ ps) = omega arith

pieces_size : (s : List ℕ) → size (pieces_of s) ≡ length s
unfolding size
pieces_size [] = refl
pieces_size (c ∷ cs) = go (is_word_byte c) (pieces_size cs)
  where
    go : (b : Bool) → size (pieces_of cs) ≡ length cs
        → size (if b then longer_run c (pieces_of cs) else sign_of c ∷ pieces_of cs) ≡ suc (length cs)
    go true e = run_is_one_longer c (pieces_of cs) ∙ ap suc e
    go false e = omega (arith, sign_is_one c, e)

-- ---- each place is within

module _ (names : List (List ℕ)) (end : ℕ) where
  Within : List (ℕ × Lexeme) → Type 0
  Within ts = (count : ℕ) (next : Next) (f : TextFault) → fault_from names end count next ts ≡ Some f → place_in_text f ≤ end

  ends_within : Within []
  unfolding Within
  ends_within count next f e = go (may_end next) e
    where
      go : (b : Bool) → (if b then None else Some (Syntax end)) ≡ Some f → place_in_text f ≤ end
      go true e = absurd cc
      go false e = let same : Syntax end ≡ f = cc in subst (λ g. place_in_text g ≤ end) same (omega arith)

  here : (at : ℕ) (l : Lexeme) (ts : List (ℕ × Lexeme)) → at ≤ end → Within ts → Within ((at, l) ∷ ts)
  unfolding Within
  here at l ts le later count next f e =
      go (nat_le 512 count) (goes_on next l) (is_known names l) (fault_from names end (count + 1) (next_after next l) ts) (later (count + 1) (next_after next l) f) e
    where
      go : (a b c : Bool) (y : Option TextFault) → (y ≡ Some f → place_in_text f ≤ end)
          → or_else (if a then Some (TooMany at) else (if b then (if c then None else Some (UnknownName at)) else Some (Syntax at))) y ≡ Some f
          → place_in_text f ≤ end
      go true b c y after e = let same : TooMany at ≡ f = cc in subst (λ g. place_in_text g ≤ end) same le
      go false true true y after e = after e
      go false true false y after e = let same : UnknownName at ≡ f = cc in subst (λ g. place_in_text g ≤ end) same le
      go false false c y after e = let same : Syntax at ≡ f = cc in subst (λ g. place_in_text g ≤ end) same le

  tokens_within : (ps : List Piece) (at : ℕ) → at + size ps ≤ end → Within (placed_tokens at ps)
  unfolding piece_size size
  tokens_within [] at le = ends_within
  tokens_within (run w ∷ ps) at le = here at (word_or_stray w) (placed_tokens (at + length w) ps) (omega arith) (tokens_within ps (at + length w) (omega arith))
  tokens_within (blank ∷ ps) at le = tokens_within ps (at + 1) (omega arith)
  tokens_within (exclamation ∷ ps) at le = here at negation (placed_tokens (at + 1) ps) (omega arith) (tokens_within ps (at + 1) (omega arith))
  tokens_within (ampersand ∷ ps) at le = here at operator (placed_tokens (at + 1) ps) (omega arith) (tokens_within ps (at + 1) (omega arith))
  tokens_within (pipe ∷ ps) at le = here at operator (placed_tokens (at + 1) ps) (omega arith) (tokens_within ps (at + 1) (omega arith))
  tokens_within (opening ∷ ps) at le = here at left_paren (placed_tokens (at + 1) ps) (omega arith) (tokens_within ps (at + 1) (omega arith))
  tokens_within (closing ∷ ps) at le = here at right_paren (placed_tokens (at + 1) ps) (omega arith) (tokens_within ps (at + 1) (omega arith))
  tokens_within (equals ∷ greater ∷ ps) at le = here at operator (placed_tokens (at + 2) ps) (omega arith) (tokens_within ps (at + 2) (omega arith))
  tokens_within (less ∷ equals ∷ greater ∷ ps) at le = here at operator (placed_tokens (at + 3) ps) (omega arith) (tokens_within ps (at + 3) (omega arith))
  tokens_within (p ∷ ps) at le = here at stray [] (omega arith) ends_within

-- a fault stands at a byte of the text or at its end
pub fault_is_within : (names : List (List ℕ)) (s : List ℕ) (f : TextFault) → expression_fault names s ≡ Some f → place_in_text f ≤ length s
unfolding expression_fault Within
fault_is_within names s f e =
    tokens_within names (length s) (pieces_of s) 0 (let all = pieces_size s in omega arith) 0 (an_operand 0) f e
