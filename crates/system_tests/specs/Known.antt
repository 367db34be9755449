-- Runs whose numbers are those of a model's first system.
use Rattle.std.specs.Prelude.{◌≡◌, ℕ, ◌<◌, List, length, Some}
use Rattle.std.specs.List.{All, slice_get}
use Rattle.meaning.specs.Models.{Model, System}

pub record HasRun (m : Model) (start : ℕ) (steps : List ℕ) : Type 0 where
  pub starts : (s : System) → slice_get m.systems 0 ≡ Some s → start < length s.states
  pub goes : (s : System) → slice_get m.systems 0 ≡ Some s → All (λ t. t < length s.transitions) steps
