-- The names of a printed expression.
use Rattle.std.specs.Prelude.{◌≡◌, ℕ, List, Some}
use Rattle.meaning.specs.Texts.{place_of}
use Rattle.meaning.specs.Expressions.{Expression, Top, Bottom, Name, Not, Both, Either, Implies, Same, name_at}

-- each name of the expression is found at its own place
abbrev pub AllPlaced : List (List ℕ) → Expression → Type 0
AllPlaced names Top = Unit {0}
AllPlaced names Bottom = Unit {0}
AllPlaced names (Name n) = place_of (name_at names n) names ≡ Some n
AllPlaced names (Not a) = AllPlaced names a
AllPlaced names (Both a b) = AllPlaced names a × AllPlaced names b
AllPlaced names (Either a b) = AllPlaced names a × AllPlaced names b
AllPlaced names (Implies a b) = AllPlaced names a × AllPlaced names b
AllPlaced names (Same a b) = AllPlaced names a × AllPlaced names b
