-- The walk from a type up to those above it.
use Rattle.std.specs.Prelude.{ℕ, List, Bool, false, ◌==◌, Option, Some, None}
use Rattle.std.specs.List.{list_any}
use Rattle.meaning.specs.Models.{TypeDef, type_and_above}

-- the type is among these: the type reached, if there is one, and those above it, so many steps at most
abbrev pub is_met_from : ℕ → List TypeDef → Option ℕ → ℕ → Bool
is_met_from n types None u = false
is_met_from n types (Some t) u = list_any (λ x. x == u) (type_and_above n types t)
