-- What stands at a byte of a text, in the words of the definitions.
use Rattle.std.specs.Prelude.{◌≡◌, ℕ, ◌+◌, ◌<◌, ◌≤◌, ◌==◌, List, [], ◌∷◌, length, drop, Bool, true, false, Option}
use Rattle.meaning.specs.Texts.{is_name}
use Rattle.meaning.specs.Expressions.{pieces_of, then_tokens, tokens_of}
use Rattle.meaning.specs.Expressions as meaning
use Rattle.meaning.specs.BundlePlaces.{is_among}
use Rattle.meaning.specs.ExpressionFaults.{word, placed_tokens, Next, goes_on, is_truth_word}
use Rattle.meaning.specs.ExpressionFaults as faults
use Rattle.meaning.proofs.ExpressionTexts.{lexeme}
use Rattle.cond_text.specs.declared.token.Token as code
use Rattle.cond_text.specs.declared.lexeme.Lexeme.{Lexeme}
use Rattle.cond_text.specs.declared.lexeme.Lexeme.TheVariants.{Blank, Token, Unknown, Stray}
use Rattle.cond_text.specs.Tokens.{with_word, Stands}

-- the byte is the first of the list
abbrev pub begins_with : ℕ → List ℕ → Bool
begins_with byte [] = false
begins_with byte (c ∷ cs) = c == byte

-- the tokens from a byte on, with their places, and without
abbrev pub placed_from : List ℕ → ℕ → List (ℕ × faults.Lexeme)
placed_from s at = placed_tokens at (pieces_of (drop at s))

abbrev pub tokens_from : List ℕ → ℕ → Option (List meaning.Token)
tokens_from s at = tokens_of (pieces_of (drop at s))

-- the token stands at a byte, and the next ones follow from another byte on
pub record StandsAt (names : List (List ℕ)) (s : List ℕ) (at : ℕ) (token : code.Token) (end : ℕ) : Type 0 where
  pub beyond : at < end
  pub within : end ≤ length s
  pub stands : Stands names token
  pub placed : placed_from s at ≡ (at, lexeme (with_word names token)) ∷ placed_from s end
  pub tokens : tokens_from s at ≡ then_tokens (with_word names token) (tokens_from s end)

-- only a space stands at a byte
pub record IsBlankAt (s : List ℕ) (at : ℕ) : Type 0 where
  pub placed : (n : ℕ) → placed_tokens n (pieces_of (drop at s)) ≡ placed_tokens (n + 1) (pieces_of (drop (at + 1) s))
  pub tokens : tokens_from s at ≡ tokens_from s (at + 1)

-- a name that isn't in the list stands at a byte
pub record IsUnknownAt (names : List (List ℕ)) (s : List ℕ) (at : ℕ) : Type 0 where
  pub name : List ℕ
  pub others : List (ℕ × faults.Lexeme)
  pub placed : placed_from s at ≡ (at, word name) ∷ others
  pub no_truth_word : is_truth_word name ≡ false
  pub proper : is_name name ≡ true
  pub unknown : is_among names name ≡ false

-- what stands at a byte goes on after nothing
pub record IsStrayAt (s : List ℕ) (at : ℕ) : Type 0 where
  pub lexeme : faults.Lexeme
  pub others : List (ℕ × faults.Lexeme)
  pub placed : placed_from s at ≡ (at, lexeme) ∷ others
  pub stray : (next : Next) → goes_on next lexeme ≡ false

abbrev pub Lexes : List (List ℕ) → List ℕ → ℕ → Lexeme → Type 0
Lexes names s at Blank = IsBlankAt s at
Lexes names s at (Token token end) = StandsAt names s at token end
Lexes names s at Unknown = IsUnknownAt names s at
Lexes names s at Stray = IsStrayAt s at
