-- The tokens of the code in the words of the definitions.
use Rattle.std.specs.Prelude.{ℕ, List, map, drop}
use Rattle.meaning.specs.QueryTexts as meaning
use Rattle.path_queries.specs.declared.token.Token.{Token}
use Rattle.path_queries.specs.declared.token.Token.TheVariants.{Word, Quoted, Colon, Comma, OpenBracket, CloseBracket, OpenParen, CloseParen, Dot, Equals, Differs, Bar, Slash, Plus, Caret, Stray}
use Rattle.path_queries.specs.declared.token.Placed.{Placed}
use Rattle.path_queries.specs.declared.token.Tokens.{Tokens}

abbrev pub token : Token → meaning.Token
token (Word w) = meaning.word w
token (Quoted s) = meaning.quoted s
token Colon = meaning.colon
token Comma = meaning.comma
token OpenBracket = meaning.open_bracket
token CloseBracket = meaning.close_bracket
token OpenParen = meaning.open_paren
token CloseParen = meaning.close_paren
token Dot = meaning.dot
token Equals = meaning.equal_sign
token Differs = meaning.exclamation
token Bar = meaning.bar
token Slash = meaning.slash
token Plus = meaning.plus
token Caret = meaning.caret
token Stray = meaning.strange

-- with its place
abbrev pub placed : Placed → ℕ × meaning.Token
placed p = (p.place, token p.token)

abbrev pub placed_all : List Placed → List (ℕ × meaning.Token)
placed_all ps = map placed ps

-- the tokens from a number on, with their places, and without
abbrev pub rest_at : Tokens → ℕ → List (ℕ × meaning.Token)
rest_at ts at = placed_all (drop at ts.list)

abbrev pub bare : List (ℕ × meaning.Token) → List meaning.Token
bare ts = map (λ t. t.1) ts

abbrev pub left_at : Tokens → ℕ → List meaning.Token
left_at ts at = bare (rest_at ts at)
