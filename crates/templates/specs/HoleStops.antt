-- Which fault of a text is told.
use Rattle.std.specs.Prelude.{◌≡◌, ⊤, ℕ, Option, Some}
use Rattle.templates.specs.declared.holes.HoleStop.{HoleStop}
use Rattle.templates.specs.declared.holes.HoleStop.TheVariants.{Fault, NoMemory}

-- the fault is the one that is told; want of memory tells nothing of the text
abbrev pub TellsHole : Option ℕ → HoleStop → Type 0
TellsHole fault (Fault at) = fault ≡ Some at
TellsHole fault NoMemory = ⊤
