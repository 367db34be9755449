-- What a text reads as.
use Rattle.std.specs.Prelude.{◌≡◌, ℕ, ◌≤◌, List, length, true, Some, None}
use Rattle.std.specs.List.{list_all}
use Rattle.meaning.specs.Texts.{is_name}
use Rattle.meaning.specs.Expressions.{Expression, Token, pieces_of, tokens_of, IsSame, expression_of}
use Rattle.meaning.specs.ExpressionFaults.{expression_fault}

-- the tokens of the text are an expression of the grammar, with this tree
abbrev pub IsPhrase : List (List ℕ) → List ℕ → Expression → Type 0
IsPhrase names s e = (tokens : List Token) × (tokens_of (pieces_of s) ≡ Some tokens) × IsSame names tokens e

-- the tokens of the text are the expression in the grammar, the text is read as it, and it has no fault if the tokens are few enough
pub record IsReadAs (names : List (List ℕ)) (s : List ℕ) (e : Expression) : Type 0 where
  pub tokens : List Token
  pub tokens_of_text : tokens_of (pieces_of s) ≡ Some tokens
  pub phrase : IsSame names tokens e
  pub read : expression_of names s ≡ Some e
  pub no_fault : length tokens ≤ 512 → expression_fault names s ≡ None

-- the text reads back as the expression, where each text of the list is a name
abbrev pub ReadsBack : List (List ℕ) → List ℕ → Expression → Type 0
ReadsBack names s e = list_all is_name names ≡ true → IsReadAs names s e
