-- The tokens of the code in the words of the definitions.
use Rattle.std.specs.Prelude.{◌≡◌, ℕ, suc, ◌+◌, List, [], ◌∷◌, map, true, Option, Some, None, codes}
use Rattle.meaning.specs.Texts.{is_name, place_of}
use Rattle.meaning.specs.Expressions.{name_at, word, not_sign, and_sign, or_sign, implies_sign, same_sign, open_paren, close_paren}
use Rattle.meaning.specs.Expressions as meaning
use Rattle.meaning.specs.ExpressionFaults.{Next, an_operand, after_operand, may_end}
use Rattle.cond_text.specs.declared.token.Token.{Token}
use Rattle.cond_text.specs.declared.token.Token.TheVariants.{True, False, Name, Not, And, Or, Implies, Same, Open, Close, End}

-- the token with its word; nothing is asked about `End`
abbrev pub with_word : List (List ℕ) → Token → meaning.Token
with_word names True = word (codes "true")
with_word names False = word (codes "false")
with_word names (Name n) = word (name_at names n)
with_word names Not = not_sign
with_word names And = and_sign
with_word names Or = or_sign
with_word names Implies = implies_sign
with_word names Same = same_sign
with_word names Open = open_paren
with_word names Close = close_paren
with_word names End = close_paren

abbrev pub with_words : List (List ℕ) → List Token → List meaning.Token
with_words names ts = map (with_word names) ts

-- the token stands for something: a number for a name of the list, at its own place
abbrev pub Stands : List (List ℕ) → Token → Type 0
Stands names (Name n) = (is_name (name_at names n) ≡ true) × (place_of (name_at names n) names ≡ Some n)
Stands names End = ⊥
Stands names t = Unit {0}

-- what may come after a token, where it may stand
abbrev pub follow : Next → Token → Option Next
follow (an_operand k) True = Some (after_operand k)
follow (an_operand k) False = Some (after_operand k)
follow (an_operand k) (Name n) = Some (after_operand k)
follow (an_operand k) Not = Some (an_operand k)
follow (an_operand k) Open = Some (an_operand (k + 1))
follow (after_operand k) And = Some (an_operand k)
follow (after_operand k) Or = Some (an_operand k)
follow (after_operand k) Implies = Some (an_operand k)
follow (after_operand k) Same = Some (an_operand k)
follow (after_operand (suc k)) Close = Some (after_operand k)
follow _ _ = None

-- the tokens go on from here to an end, and each stands for something
abbrev pub Runs : List (List ℕ) → Next → List Token → Type 0
Runs names next [] = may_end next ≡ true
Runs names (an_operand k) (True ∷ ts) = Runs names (after_operand k) ts
Runs names (an_operand k) (False ∷ ts) = Runs names (after_operand k) ts
Runs names (an_operand k) (Name n ∷ ts) = Stands names (Name n) × Runs names (after_operand k) ts
Runs names (an_operand k) (Not ∷ ts) = Runs names (an_operand k) ts
Runs names (an_operand k) (Open ∷ ts) = Runs names (an_operand (k + 1)) ts
Runs names (after_operand k) (And ∷ ts) = Runs names (an_operand k) ts
Runs names (after_operand k) (Or ∷ ts) = Runs names (an_operand k) ts
Runs names (after_operand k) (Implies ∷ ts) = Runs names (an_operand k) ts
Runs names (after_operand k) (Same ∷ ts) = Runs names (an_operand k) ts
Runs names (after_operand (suc k)) (Close ∷ ts) = Runs names (after_operand k) ts
Runs names next (t ∷ ts) = ⊥
