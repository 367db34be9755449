-- The fault of a text as it is told.
use Rattle.std.specs.Prelude.{◌≡◌, ℕ, nat_le, List, [], ◌∷◌, if◌then◌else◌, Option, Some}
use Rattle.meaning.specs.ExpressionFaults.{TextFault}
use Rattle.meaning.specs.ExpressionFaults as faults
use Rattle.meaning.specs.QueryTexts as meaning
use Rattle.cond_text.specs.Stops.{capped}
use Rattle.path_queries.specs.declared.fault.QueryStop.{QueryStop}
use Rattle.path_queries.specs.declared.fault.QueryStop.TheVariants.{Syntax, UnknownName, Repeated, TooMany, NoMemory}

-- the fault is of the kind that is told, at the place that is told; want of memory tells nothing of the text
abbrev pub Tells : QueryStop → Option TextFault → Type 0
Tells (Syntax told) fault = (at : ℕ) × (fault ≡ Some (faults.Syntax at)) × (told ≡ capped at)
Tells (UnknownName told) fault = (at : ℕ) × (fault ≡ Some (faults.UnknownName at)) × (told ≡ capped at)
Tells (Repeated told) fault = (at : ℕ) × (fault ≡ Some (faults.Repeated at)) × (told ≡ capped at)
Tells (TooMany told) fault = (at : ℕ) × (fault ≡ Some (faults.TooMany at)) × (told ≡ capped at)
Tells NoMemory fault = Unit {0}

-- the place of the first token, or the end of the text, as it is told
abbrev pub place_told : ℕ → List (ℕ × meaning.Token) → ℕ
place_told end [] = capped end
place_told end (q ∷ ts) = capped q.0

-- the fault at a token that may not stand there, which has so many before it, or at the end
abbrev pub refusal : ℕ → ℕ → List (ℕ × meaning.Token) → QueryStop
refusal end at [] = Syntax (capped end)
refusal end at (q ∷ ts) = if nat_le 256 at then TooMany (capped q.0) else Syntax (capped q.0)
