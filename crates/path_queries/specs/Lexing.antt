-- For private clauses: what stands at a byte of a text.
use Rattle.std.specs.Prelude.{◌≡◌, ℕ, ◌+◌, ◌<◌, ◌≤◌, ◌==◌, List, [], ◌∷◌, length, drop, Bool, true, false, not}
use Rattle.meaning.specs.QueryTexts.{exclamation, strange, cut_at_quotes}
use Rattle.meaning.specs.QueryTexts as meaning
use Rattle.meaning.specs.QueryFaults.{placed_tokens}
use Rattle.path_queries.specs.declared.token_text.Piece.{Piece}
use Rattle.path_queries.specs.declared.token_text.Piece.TheVariants.{Blank, Token}
use Rattle.path_queries.specs.Tokens.{token}

abbrev pub is_no_quote : ℕ → Bool
is_no_quote c = not (c == 39)

-- an exclamation mark alone starts no token
abbrev pub alone : meaning.Token → meaning.Token
alone exclamation = strange
alone t = t

-- the tokens from a byte on, with their places
abbrev pub placed_from : List ℕ → ℕ → List (ℕ × meaning.Token)
placed_from s at = placed_tokens at (cut_at_quotes (drop at s))

-- the token stands at a byte, and the next ones follow from another byte on
pub record StandsAt (s : List ℕ) (at : ℕ) (t : meaning.Token) (end : ℕ) : Type 0 where
  pub beyond : at < end
  pub within : end ≤ length s
  pub placed : placed_from s at ≡ (at, t) ∷ placed_from s end

abbrev pub Stands : List ℕ → ℕ → Piece → Type 0
Stands s at Blank = placed_from s at ≡ placed_from s (at + 1)
Stands s at (Token t end) = StandsAt s at (token t) end
