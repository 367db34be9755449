-- For private clauses: what is read of a use.
use Rattle.std.specs.Prelude.{ℕ, List, [], ◌∷◌, map, Bool, true, false, ◌&&◌, codes}
use Rattle.meaning.specs.Documents.{Document, list_at, texts_in}
use Rattle.meaning.specs.Models.{Model, is_a}
use Rattle.meaning.specs.QueryTexts.{Scope}
use Rattle.meaning.specs.TemplateTexts.{variable_of}
use Rattle.meaning.specs.TemplateRules.{holds_for_some, type_of_variable}

-- the type of a variable is this one or below it
abbrev pub fits_type : Model → Scope → List ℕ → ℕ → Bool
fits_type m scope x t = holds_for_some (λ u. is_a m.types u t) (type_of_variable scope x)

-- one variable for each type, and each fits
abbrev pub all_fit : Model → Scope → List (List ℕ) → List ℕ → Bool
all_fit m scope [] [] = true
all_fit m scope (x ∷ xs) (t ∷ ts) = fits_type m scope x t && all_fit m scope xs ts
all_fit m scope _ _ = false

-- the variables that a node gives as arguments
abbrev pub arguments_in : Scope → Document → List ℕ
arguments_in scope d = map (variable_of scope) (texts_in (list_at (codes "args") d))
