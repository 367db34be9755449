-- For private clauses: the pieces of a text, and the points of a key.
use Rattle.std.specs.Prelude.{ℕ, List, [], ◌∷◌, map, Bool, cond}
use Rattle.meaning.specs.Models.{Model}
use Rattle.meaning.specs.CaseFiles.{CasePart}
use Rattle.meaning.specs.Templates.{left_open, joined_parts}
use Rattle.meaning.specs.Tidy.{whole_model}
use Rattle.templates.specs.declared.data.Piece.{Piece}
use Rattle.templates.specs.View.{piece_view}

-- the parts of a text, with names and attributes of the whole model
abbrev pub parts_of : Model → List ℕ → List Piece → List CasePart
parts_of m bound pieces = joined_parts (map (left_open (whole_model m) bound) (map piece_view pieces))

-- numbers are separated by points
abbrev pub point_before : Bool → List ℕ
point_before first = cond first [] (46 ∷ [])
