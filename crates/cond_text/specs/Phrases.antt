-- Phrases of the grammar in tokens of the code.
use Rattle.std.specs.Prelude.{ℕ, ◌<◌, List, [], ◌∷◌, drop}
use Rattle.meaning.specs.Expressions.{Expression}
use Rattle.meaning.specs.Expressions as meaning
use Rattle.meaning.specs.ExpressionFaults.{an_operand, after_operand}
use Rattle.meaning.proofs.GrammarLaw.{Begins}
use Rattle.cond_text.specs.declared.token.Token.{Token}
use Rattle.cond_text.specs.declared.token.Token.TheVariants.{And, Or, Implies, Same, End}
use Rattle.cond_text.specs.Tokens.{with_words, Runs}

abbrev pub first_token : List Token → Token
first_token [] = End
first_token (t ∷ ts) = t

-- how strongly an operator binds
abbrev pub binding : Token → ℕ
binding And = 4
binding Or = 3
binding Implies = 2
binding Same = 1
binding t = 0

-- a phrase of the kind, then tokens that go on behind an operand, with no operator that binds so strongly
pub record Reads (K : List meaning.Token → Expression → Type 0) (level : ℕ) (names : List (List ℕ)) (opened : ℕ) (before left : List Token) (e : Expression) : Type 0 where
  pub phrase : Begins K (with_words names before) (e, with_words names left)
  pub runs : Runs names (after_operand opened) left
  pub weaker : binding (first_token left) < level

-- from a place on, the tokens go on to an end
abbrev pub CanRead : List Token → ℕ → Type 0
CanRead tokens at = (names : List (List ℕ)) × (opened : ℕ) × Runs names (an_operand opened) (drop at tokens)

-- from one place to another, the tokens are a phrase of the kind, over each list of names for which they go on to an end
abbrev pub ReadsFrom : (List (List ℕ) → List meaning.Token → Expression → Type 0) → ℕ → List Token → ℕ → ℕ → Expression → Type 0
ReadsFrom K level tokens at next e =
    (names : List (List ℕ)) (opened : ℕ) → Runs names (an_operand opened) (drop at tokens) → Reads (K names) level names opened (drop at tokens) (drop next tokens) e
