-- The fault of a text as it is told.
use Rattle.std.specs.Prelude.{◌≡◌, ℕ, Option, Some}
pub use Rattle.meaning.specs.Counts.{capped}
use Rattle.meaning.specs.ExpressionFaults.{TextFault}
use Rattle.meaning.specs.ExpressionFaults as faults
use Rattle.cond_text.specs.declared.scan.ExprStop.{ExprStop}
use Rattle.cond_text.specs.declared.scan.ExprStop.TheVariants.{Syntax, UnknownName, TooMany, NoMemory}

-- the fault is of the kind that is told, at the place that is told; want of memory tells nothing of the text
abbrev pub Tells : ExprStop → Option TextFault → Type 0
Tells (Syntax told) fault = (at : ℕ) × (fault ≡ Some (faults.Syntax at)) × (told ≡ capped at)
Tells (UnknownName told) fault = (at : ℕ) × (fault ≡ Some (faults.UnknownName at)) × (told ≡ capped at)
Tells (TooMany told) fault = (at : ℕ) × (fault ≡ Some (faults.TooMany at)) × (told ≡ capped at)
Tells NoMemory fault = Unit {0}
