-- What stands in front of a list of tokens, which has so many before it. From the 257th token on nothing is told.
use Rattle.std.specs.Prelude.{ℕ, nat_le, List, [], ◌∷◌, Bool, true, false, if◌then◌else◌, Option, Some, None, option_and_then}
use Rattle.meaning.specs.Texts.{is_name}
use Rattle.meaning.specs.QueryTexts.{Token, word, quoted, colon, comma, open_bracket, close_bracket, open_paren, close_paren, dot, equal_sign, exclamation, bar, slash, plus, caret, blank, strange}
use Rattle.path_queries.specs.declared.token_at.Sign.{Sign}
use Rattle.path_queries.specs.declared.token_at.Sign.TheVariants.{Word, Quoted, Colon, Comma, OpenBracket, CloseBracket, OpenParen, CloseParen, Dot, Equals, Differs, Bar, Slash, Plus, Caret, Stray, Excess, End}

abbrev pub sign : Token → Sign
sign (word w) = Word
sign (quoted s) = Quoted
sign colon = Colon
sign comma = Comma
sign open_bracket = OpenBracket
sign close_bracket = CloseBracket
sign open_paren = OpenParen
sign close_paren = CloseParen
sign dot = Dot
sign equal_sign = Equals
sign exclamation = Differs
sign bar = Bar
sign slash = Slash
sign plus = Plus
sign caret = Caret
sign strange = Stray
-- a space is no token, and nothing is told of it
sign blank = Excess

abbrev pub shown : ℕ → List (ℕ × Token) → Sign
shown at [] = End
shown at (q ∷ ts) = if nat_le 256 at then Excess else sign q.1

abbrev pub word_in : Token → Option (List ℕ)
word_in (word w) = Some w
word_in t = None

abbrev pub word_first : ℕ → List (ℕ × Token) → Option (List ℕ)
word_first at [] = None
word_first at (q ∷ ts) = if nat_le 256 at then None else word_in q.1

abbrev pub name_first : ℕ → List (ℕ × Token) → Option (List ℕ)
name_first at ts = option_and_then (λ w. if is_name w then Some w else None) (word_first at ts)

abbrev pub quoted_in : Token → Option (List ℕ)
quoted_in (quoted s) = Some s
quoted_in t = None

abbrev pub quoted_first : ℕ → List (ℕ × Token) → Option (List ℕ)
quoted_first at [] = None
quoted_first at (q ∷ ts) = if nat_le 256 at then None else quoted_in q.1

-- the comparison is `=`, or `!=`
abbrev pub compared_in : Token → Option Bool
compared_in equal_sign = Some true
compared_in exclamation = Some false
compared_in t = None

abbrev pub compared : ℕ → List (ℕ × Token) → Option Bool
compared at [] = None
compared at (q ∷ ts) = if nat_le 256 at then None else compared_in q.1
