-- For private clauses: how far a template text is read.
use Rattle.std.specs.Prelude.{◌≡◌, ℕ, ◌+◌, ◌-◌, ◌≤◌, List, ◌++◌, length, Bool, option_map}
use Rattle.meaning.specs.Models.{Model}
use Rattle.meaning.specs.QueryTexts.{Scope}
use Rattle.meaning.specs.Templates.{TextPart}
use Rattle.meaning.specs.HoleFaults.{text_hole_fault}
use Rattle.templates.specs.TextReading.{in_front, parts_left, fault_left}

-- parts and words behind them are read, with so many holes; what is left goes on from there
pub record TextSoFar (m : Model) (scope : Scope) (counts : Bool) (text : List ℕ) (holes : ℕ) (rest : List ℕ) (done : List TextPart) (words : List ℕ) : Type 0 where
  pub parts : parts_left m scope text ≡ option_map (λ ps. done ++ in_front words ps) (parts_left m scope rest)
  pub fault : text_hole_fault m scope counts text ≡ fault_left m scope counts (length text - length rest) holes rest
  pub within : length rest ≤ length text
  pub counted : holes + length rest ≤ length text
