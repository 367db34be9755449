-- One step of the scan of a text, in the words of the definitions.
use Rattle.std.specs.Prelude.{◌≡◌, ℕ, ◌<◌, List, Some}
use Rattle.meaning.specs.ExpressionFaults.{Next, an_operand, after_operand, fault_from}
use Rattle.cond_text.specs.declared.scan.Next.{Next as CodeNext}
use Rattle.cond_text.specs.declared.scan.Next.TheVariants.{Operand, AfterOperand}
use Rattle.cond_text.specs.declared.scan.Step.{Step}
use Rattle.cond_text.specs.declared.scan.Step.TheVariants.{Blank, Token}
use Rattle.cond_text.specs.declared.scan.ExprStop.{ExprStop}
use Rattle.cond_text.specs.declared.scan.ExprStop.TheVariants.{Syntax, UnknownName}
use Rattle.cond_text.specs.Tokens.{follow}
use Rattle.cond_text.specs.Lexemes.{placed_from, StandsAt, IsBlankAt}
use Rattle.meaning.specs.Counts.{capped}
use Rattle.cond_text.specs.Stops.{Tells}

abbrev pub next_of : CodeNext → Next
next_of (Operand k) = an_operand k
next_of (AfterOperand k) = after_operand k

abbrev pub opened_in : Next → ℕ
opened_in (an_operand k) = k
opened_in (after_operand k) = k

-- the byte has no fault: what stands there, and what may come then
abbrev pub Steps : List (List ℕ) → List ℕ → ℕ → ℕ → Next → Step → Type 0
Steps names s at count next Blank = IsBlankAt s at
Steps names s at count next (Token token end then) = StandsAt names s at token end × (count < 512) × (follow next token ≡ Some (next_of then))

-- the first fault of what is left is at the byte
abbrev pub StopsAt : List (List ℕ) → List ℕ → ℕ → ℕ → Next → ExprStop → Type 0
StopsAt names s at count next stop = (end : ℕ) → Tells stop (fault_from names end count next (placed_from s at))

-- the fault at a name that isn't in the list
abbrev pub unknown_stop : Next → ℕ → ExprStop
unknown_stop (an_operand k) at = UnknownName (capped at)
unknown_stop (after_operand k) at = Syntax (capped at)
