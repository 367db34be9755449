-- What the place of a syntax fault is to mean: the tokens before it begin a text of the grammar, and with what stands there they begin none.
use Rattle.std.specs.Prelude.{◌≡◌, ℕ, ◌+◌, List, [], ◌∷◌, ◌++◌, length, map, false, if◌then◌else◌, Option, Some, None}
use Rattle.meaning.specs.Texts.{begins_with_letter}
use Rattle.meaning.specs.Expressions.{Expression, Piece, run, blank, exclamation, ampersand, pipe, equals, less, greater, opening, closing, pieces_of, Token, word, not_sign, and_sign, or_sign, implies_sign, same_sign, open_paren, close_paren, IsSame}
use Rattle.meaning.specs.ExpressionFaults.{Syntax, expression_fault}
use Rattle.meaning.specs.Models.{Model}
use Rattle.meaning.specs.Queries.{Query}
use Rattle.meaning.specs.QueryTexts.{Token as QueryToken, strange, cut_at_quotes, Scope}
use Rattle.meaning.specs.QueryFaults.{placed_tokens as query_tokens, is_stray, query_fault}
use Rattle.meaning.specs.QueryGrammar.{IsQuery}

-- ---- the tokens of an expression with their places

-- a run of letters and digits is a word where it begins with a letter, and else no token
abbrev pub word_or_none : List ℕ → Option Token
word_or_none w = if begins_with_letter w then Some (word w) else None

-- the tokens of a text that begins at a byte, each with its place; `None` at a byte that starts no token
abbrev pub expression_tokens : ℕ → List Piece → List (ℕ × Option Token)
expression_tokens at [] = []
expression_tokens at (run w ∷ ps) = (at, word_or_none w) ∷ expression_tokens (at + length w) ps
expression_tokens at (blank ∷ ps) = expression_tokens (at + 1) ps
expression_tokens at (exclamation ∷ ps) = (at, Some not_sign) ∷ expression_tokens (at + 1) ps
expression_tokens at (ampersand ∷ ps) = (at, Some and_sign) ∷ expression_tokens (at + 1) ps
expression_tokens at (pipe ∷ ps) = (at, Some or_sign) ∷ expression_tokens (at + 1) ps
expression_tokens at (opening ∷ ps) = (at, Some open_paren) ∷ expression_tokens (at + 1) ps
expression_tokens at (closing ∷ ps) = (at, Some close_paren) ∷ expression_tokens (at + 1) ps
expression_tokens at (equals ∷ greater ∷ ps) = (at, Some implies_sign) ∷ expression_tokens (at + 2) ps
expression_tokens at (less ∷ equals ∷ greater ∷ ps) = (at, Some same_sign) ∷ expression_tokens (at + 3) ps
expression_tokens at (_ ∷ ps) = (at, None) ∷ []

-- ---- what begins an expression

-- some tokens go on from these to an expression over the names
abbrev pub BeginsExpression : List (List ℕ) → List Token → Type 0
BeginsExpression names ts = (us : List Token) × (e : Expression) × IsSame names (ts ++ us) e

-- whatever the names are, no tokens go on from these to an expression
abbrev pub BeginsNoExpression : List Token → Type 0
BeginsNoExpression ts = (names : List (List ℕ)) → BeginsExpression names ts → ⊥

-- whatever the names are, the tokens are no expression
abbrev pub IsNoExpression : List Token → Type 0
IsNoExpression ts = (names : List (List ℕ)) (e : Expression) → IsSame names ts e → ⊥

-- tokens that stand in the text, each with its place
abbrev pub found_tokens : List (ℕ × Token) → List (ℕ × Option Token)
found_tokens qs = map (λ q. (q.0, Some q.1)) qs

-- the tokens without their places
abbrev pub without_places : List (ℕ × Token) → List Token
without_places qs = map (λ q. q.1) qs

-- a syntax fault at this byte of a text that has so many bytes and these tokens
pub data ExpressionStopsAt (names : List (List ℕ)) (end : ℕ) (all : List (ℕ × Option Token)) (at : ℕ) : Type 0 where
  -- the tokens before this one begin an expression, and with it they begin none
  at_token : (before : List (ℕ × Token)) (t : Token) (behind : List (ℕ × Option Token)) → all ≡ found_tokens before ++ (at, Some t) ∷ behind
      → BeginsExpression names (without_places before) → BeginsNoExpression (without_places before ++ t ∷ []) → ExpressionStopsAt names end all at
  -- the byte starts no token, and the tokens before it begin an expression
  at_stray : (before : List (ℕ × Token)) (behind : List (ℕ × Option Token)) → all ≡ found_tokens before ++ (at, None) ∷ behind
      → BeginsExpression names (without_places before) → ExpressionStopsAt names end all at
  -- all tokens begin an expression and are none
  at_end : (before : List (ℕ × Token)) → all ≡ found_tokens before → at ≡ end
      → BeginsExpression names (without_places before) → IsNoExpression (without_places before) → ExpressionStopsAt names end all at

-- a syntax fault of an expression's text stands where its tokens first begin no expression
abbrev pub SyntaxStandsInExpression : Type 0
SyntaxStandsInExpression = (names : List (List ℕ)) (s : List ℕ) (at : ℕ) → expression_fault names s ≡ Some (Syntax at)
    → ExpressionStopsAt names (length s) (expression_tokens 0 (pieces_of s)) at

-- ---- what begins a query

-- over some model and some variables in scope, some tokens go on from these to a query
abbrev pub BeginsQuery : List QueryToken → Type 0
BeginsQuery ts = (m : Model) × (scope : Scope) × (us : List QueryToken) × (q : Scope × Query) × IsQuery m scope (ts ++ us) q

-- whatever the model and the variables are, no tokens go on from these to a query
abbrev pub BeginsNoQuery : List QueryToken → Type 0
BeginsNoQuery ts = BeginsQuery ts → ⊥

-- whatever the model and the variables are, the tokens are no query
abbrev pub IsNoQuery : List QueryToken → Type 0
IsNoQuery ts = (m : Model) (scope : Scope) (q : Scope × Query) → IsQuery m scope ts q → ⊥

-- tokens of a query without their places
abbrev pub bare_tokens : List (ℕ × QueryToken) → List QueryToken
bare_tokens qs = map (λ q. q.1) qs

-- a syntax fault at this byte of a text that has so many bytes and these tokens
pub data QueryStopsAt (end : ℕ) (all : List (ℕ × QueryToken)) (at : ℕ) : Type 0 where
  -- the tokens before this one begin a query, and with it they begin none
  at_query_token : (before : List (ℕ × QueryToken)) (t : QueryToken) (behind : List (ℕ × QueryToken)) → all ≡ before ++ (at, t) ∷ behind
      → is_stray t ≡ false → BeginsQuery (bare_tokens before) → BeginsNoQuery (bare_tokens before ++ t ∷ []) → QueryStopsAt end all at
  -- the byte starts no token, and the tokens before it begin a query
  at_query_stray : (before : List (ℕ × QueryToken)) (behind : List (ℕ × QueryToken)) → all ≡ before ++ (at, strange) ∷ behind
      → BeginsQuery (bare_tokens before) → QueryStopsAt end all at
  -- all tokens begin a query and are none
  at_query_end : at ≡ end → BeginsQuery (bare_tokens all) → IsNoQuery (bare_tokens all) → QueryStopsAt end all at

-- a syntax fault of a query's text stands where its tokens first begin no query
abbrev pub SyntaxStandsInQuery : Type 0
SyntaxStandsInQuery = (m : Model) (scope : Scope) (s : List ℕ) (at : ℕ) → query_fault m scope s ≡ Some (Syntax at)
    → QueryStopsAt (length s) (query_tokens 0 (cut_at_quotes s)) at

-- ---- one place

-- an expression's text has one such byte at most
abbrev pub OneStopOfExpression : Type 0
OneStopOfExpression = (names : List (List ℕ)) (end : ℕ) (all : List (ℕ × Option Token)) (a b : ℕ)
    → ExpressionStopsAt names end all a → ExpressionStopsAt names end all b → a ≡ b

-- and so has a query's
abbrev pub OneStopOfQuery : Type 0
OneStopOfQuery = (end : ℕ) (all : List (ℕ × QueryToken)) (a b : ℕ) → QueryStopsAt end all a → QueryStopsAt end all b → a ≡ b
