-- A syntax fault of an expression's text stands where its tokens first begin no expression.
use Rattle.std.proofs.Common.{◌≡◌, ◌∙◌, sym, ap, subst, refl, ℕ, zero, suc, ◌+◌, List, [], ◌∷◌, ◌++◌, length, map, Bool, true, false, append_assoc, Option, Some, None}
use Rattle.std.specs.Prelude.{codes, if◌then◌else◌, nat_le}
use Rattle.std.proofs.lemmas.Bool.{true≢false}
use Rattle.std.proofs.lemmas.List.{append-nil}
use Rattle.meaning.specs.Texts.{begins_with_letter}
use Rattle.meaning.specs.Expressions.{Expression, Piece, run, blank, exclamation, ampersand, pipe, equals, less, greater, opening, closing, pieces_of, Token, word, close_paren, not_sign, and_sign, or_sign, implies_sign, same_sign, open_paren, IsSame}
use Rattle.meaning.specs.BundlePlaces.{or_else}
use Rattle.meaning.specs.ExpressionFaults.{TextFault, TooMany, Syntax, UnknownName, Lexeme, word as word_lexeme, stray, placed_tokens, Next, an_operand, after_operand, goes_on, next_after, is_known, may_end, fault_from, expression_fault}
use Rattle.meaning.specs.FaultPlaces.{word_or_none, expression_tokens, BeginsExpression, BeginsNoExpression, IsNoExpression, found_tokens, without_places, ExpressionStopsAt, at_token, at_stray, at_end, SyntaxStandsInExpression}
use Rattle.meaning.proofs.ExpressionTexts.{lexeme, Passes, tokens_have_tree}
use Rattle.meaning.proofs.ExpressionsPass.{same_passes}

-- ---- tokens that go on

-- the tokens lead from here to there without a fault
abbrev Leads : List (List ℕ) → Next → List Token → Next → Type 0
Leads names next [] last = next ≡ last
Leads names next (t ∷ ts) last = (goes_on next (lexeme t) ≡ true) × (is_known names (lexeme t) ≡ true) × Leads names (next_after next (lexeme t)) ts last

-- so many closing parentheses
abbrev closings : ℕ → List Token
closings zero = []
closings (suc k) = close_paren ∷ closings k

-- an operand where one is due, and a closing parenthesis for each unfinished one
abbrev completion : Next → List Token
completion (an_operand k) = word (codes "true") ∷ closings k
completion (after_operand k) = closings k

closings_pass : (names : List (List ℕ)) (k : ℕ) → Passes names (after_operand k) (closings k)
closings_pass names zero = refl
closings_pass names (suc k) = (refl, refl, closings_pass names k)

completes : (names : List (List ℕ)) (next : Next) → Passes names next (completion next)
completes names (an_operand k) = (refl, refl, closings_pass names k)
completes names (after_operand k) = closings_pass names k

leads_on : (names : List (List ℕ)) (ts us : List Token) (next last : Next) → Leads names next ts last → Passes names last us → Passes names next (ts ++ us)
leads_on names [] us next last l p = subst (λ n. Passes names n us) (sym l) p
leads_on names (t ∷ ts) us next last l p = (l.0, l.1, leads_on names ts us (next_after next (lexeme t)) last l.2 p)

-- the run is the same over other names
left_over : (names others : List (List ℕ)) (ts us : List Token) (next last : Next) → Leads names next ts last → Passes others next (ts ++ us) → Passes others last us
left_over names others [] us next last l p = subst (λ n. Passes others n us) l p
left_over names others (t ∷ ts) us next last l p = left_over names others ts us (next_after next (lexeme t)) last l.2 p.2

module _ (names : List (List ℕ)) (ts : List Token) (last : Next) (leads : Leads names (an_operand 0) ts last) where
  begins : BeginsExpression names ts
  begins =
      let r = tokens_have_tree names (ts ++ completion last) (leads_on names ts (completion last) (an_operand 0) last leads (completes names last)) in
      (completion last, r.0, r.1)

  passing : (others : List (List ℕ)) (us : List Token) (e : Expression) → IsSame others (ts ++ us) e → Passes others last us
  passing others us e h =
      left_over names others ts us (an_operand 0) last leads
      (subst (Passes others (an_operand 0)) (append-nil (ts ++ us)) (same_passes others h 0 [] refl))

  begins_none : (t : Token) → goes_on last (lexeme t) ≡ false → BeginsNoExpression (ts ++ t ∷ [])
  begins_none t halts others b =
      let p = passing others (t ∷ b.0) b.1 (subst (λ vs. IsSame others vs b.1) (append_assoc ts (t ∷ []) b.0) b.2) in
      true≢false (sym p.0 ∙ halts)

  is_none : may_end last ≡ false → IsNoExpression ts
  is_none unfinished others e h = true≢false (sym (passing others [] e (subst (λ vs. IsSame others vs e) (sym (append-nil ts)) h)) ∙ unfinished)

-- ---- the scan

-- what the scan sees of a token
abbrev seen : ℕ × Option Token → ℕ × Lexeme
seen (at, Some t) = (at, lexeme t)
seen (at, None) = (at, stray)

module _ (names : List (List ℕ)) (end : ℕ) where
  -- the tokens lead to a place where they halt
  data Halts (next : Next) (all : List (ℕ × Option Token)) (at : ℕ) : Type 0 where
    by_token : (before : List (ℕ × Token)) (t : Token) (behind : List (ℕ × Option Token)) (last : Next) → all ≡ found_tokens before ++ (at, Some t) ∷ behind
        → Leads names next (without_places before) last → goes_on last (lexeme t) ≡ false → Halts next all at
    by_stray : (before : List (ℕ × Token)) (behind : List (ℕ × Option Token)) (last : Next) → all ≡ found_tokens before ++ (at, None) ∷ behind
        → Leads names next (without_places before) last → Halts next all at
    by_end : (before : List (ℕ × Token)) (last : Next) → all ≡ found_tokens before → at ≡ end
        → Leads names next (without_places before) last → may_end last ≡ false → Halts next all at

  later : (next : Next) (place : ℕ) (t : Token) (all : List (ℕ × Option Token)) (at : ℕ) → goes_on next (lexeme t) ≡ true → is_known names (lexeme t) ≡ true
      → Halts (next_after next (lexeme t)) all at → Halts next ((place, Some t) ∷ all) at
  later next place t all at goes known (by_token before u behind last front leads halts) =
      by_token ((place, t) ∷ before) u behind last (ap (λ qs. (place, Some t) ∷ qs) front) (goes, known, leads) halts
  later next place t all at goes known (by_stray before behind last front leads) =
      by_stray ((place, t) ∷ before) behind last (ap (λ qs. (place, Some t) ∷ qs) front) (goes, known, leads)
  later next place t all at goes known (by_end before last front is leads unfinished) =
      by_end ((place, t) ∷ before) last (ap (λ qs. (place, Some t) ∷ qs) front) is (goes, known, leads) unfinished

  abbrev place_of_fault : Option TextFault → ℕ → ℕ
  place_of_fault (Some (Syntax at)) other = at
  place_of_fault o other = other

  -- the first fault is one of syntax: it is that of the token, or the token has none
  fault_parts : (a b c : Bool) (place at : ℕ) (y : Option TextFault)
      → or_else (if a then Some (TooMany place) else (if b then (if c then None else Some (UnknownName place)) else Some (Syntax place))) y ≡ Some (Syntax at)
      → (P : Type 0) → (b ≡ false → place ≡ at → P) → (b ≡ true → c ≡ true → y ≡ Some (Syntax at) → P) → P
  fault_parts true b c place at y e P here there = absurd cc
  fault_parts false true true place at y e P here there = there refl refl e
  fault_parts false true false place at y e P here there = absurd cc
  fault_parts false false c place at y e P here there = here refl (ap (λ o. place_of_fault o 0) e)

  stray_stays : (next : Next) → goes_on next stray ≡ false
  stray_stays (an_operand k) = refl
  stray_stays (after_operand zero) = refl
  stray_stays (after_operand (suc k)) = refl

  halted : (qs : List (ℕ × Option Token)) (count : ℕ) (next : Next) (at : ℕ) → fault_from names end count next (map seen qs) ≡ Some (Syntax at) → Halts next qs at
  halted [] count next at e = ends (may_end next) refl e
    where
      ends : (b : Bool) → may_end next ≡ b → (if b then None else Some (Syntax end)) ≡ Some (Syntax at) → Halts next [] at
      ends true is e = absurd cc
      ends false is e = by_end [] next refl (sym (ap (λ o. place_of_fault o 0) e)) refl is
  halted ((place, Some t) ∷ qs) count next at e =
      fault_parts (nat_le 512 count) (goes_on next (lexeme t)) (is_known names (lexeme t)) place at
      (fault_from names end (count + 1) (next_after next (lexeme t)) (map seen qs)) e (Halts next ((place, Some t) ∷ qs) at)
      (λ halts is. by_token [] t qs next (ap (λ p. (p, Some t) ∷ qs) is) refl halts)
      (λ goes known rest. later next place t qs at goes known (halted qs (count + 1) (next_after next (lexeme t)) at rest))
  halted ((place, None) ∷ qs) count next at e =
      fault_parts (nat_le 512 count) (goes_on next stray) (is_known names stray) place at
      (fault_from names end (count + 1) (next_after next stray) (map seen qs)) e (Halts next ((place, None) ∷ qs) at)
      (λ halts is. by_stray [] qs next (ap (λ p. (p, None) ∷ qs) is) refl)
      (λ goes known rest. absurd (true≢false (sym goes ∙ stray_stays next)))

  stops_at : (all : List (ℕ × Option Token)) (at : ℕ) → Halts (an_operand 0) all at → ExpressionStopsAt names end all at
  stops_at all at (by_token before t behind last front leads halts) =
      at_token before t behind front (begins names (without_places before) last leads) (begins_none names (without_places before) last leads t halts)
  stops_at all at (by_stray before behind last front leads) = at_stray before behind front (begins names (without_places before) last leads)
  stops_at all at (by_end before last front is leads unfinished) =
      at_end before front is (begins names (without_places before) last leads) (is_none names (without_places before) last leads unfinished)

-- the scan sees the tokens of the text
word_seen : (at : ℕ) (w : List ℕ) (b : Bool) → (at, (if b then word_lexeme w else stray)) ≡ seen (at, (if b then Some (word w) else None))
word_seen at w true = refl
word_seen at w false = refl

tokens_seen : (ps : List Piece) (at : ℕ) → placed_tokens at ps ≡ map seen (expression_tokens at ps)
tokens_seen [] at = refl
tokens_seen (run w ∷ ps) at =
    ap (λ q. q ∷ placed_tokens (at + length w) ps) (word_seen at w (begins_with_letter w))
    ∙ ap (λ qs. seen (at, word_or_none w) ∷ qs) (tokens_seen ps (at + length w))
tokens_seen (blank ∷ ps) at = tokens_seen ps (at + 1)
tokens_seen (exclamation ∷ ps) at = ap (λ qs. (at, lexeme not_sign) ∷ qs) (tokens_seen ps (at + 1))
tokens_seen (ampersand ∷ ps) at = ap (λ qs. (at, lexeme and_sign) ∷ qs) (tokens_seen ps (at + 1))
tokens_seen (pipe ∷ ps) at = ap (λ qs. (at, lexeme or_sign) ∷ qs) (tokens_seen ps (at + 1))
tokens_seen (opening ∷ ps) at = ap (λ qs. (at, lexeme open_paren) ∷ qs) (tokens_seen ps (at + 1))
tokens_seen (closing ∷ ps) at = ap (λ qs. (at, lexeme close_paren) ∷ qs) (tokens_seen ps (at + 1))
tokens_seen (equals ∷ greater ∷ ps) at = ap (λ qs. (at, lexeme implies_sign) ∷ qs) (tokens_seen ps (at + 2))
tokens_seen (less ∷ equals ∷ greater ∷ ps) at = ap (λ qs. (at, lexeme same_sign) ∷ qs) (tokens_seen ps (at + 3))
tokens_seen (p ∷ ps) at = refl

pub syntax_stands_in_expression : SyntaxStandsInExpression
unfolding expression_fault
syntax_stands_in_expression names s at e =
    stops_at names (length s) (expression_tokens 0 (pieces_of s)) at
    (halted names (length s) (expression_tokens 0 (pieces_of s)) 0 (an_operand 0) at
    (sym (ap (fault_from names (length s) 0 (an_operand 0)) (tokens_seen (pieces_of s) 0)) ∙ e))
