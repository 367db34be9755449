-- For private clauses: a list of marks.
use Rattle.std.specs.Prelude.{ℕ, List, Bool, true, Option, Some, None, slice_set}

-- the mark at a place is set, if there is one
abbrev pub marked : Option ℕ → List Bool → List Bool
marked None marks = marks
marked (Some number) marks = slice_set marks number true
