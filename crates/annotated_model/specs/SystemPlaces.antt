-- Which system an element has.
use Rattle.std.specs.Prelude.{◌≡◌, ℕ, List, Option, Some, option_map, option_and_then, slice_get}
use Rattle.meaning.specs.Models as meaning
use Rattle.annotated_model.specs.declared.data.Element.{Element}

-- the place of an element's system, as the element tells it
abbrev pub system_told : List Element → ℕ → Option ℕ
system_told elements e = option_and_then (λ x. x.system) (slice_get elements e)

-- the element that a system belongs to
abbrev pub owner_at : List meaning.System → ℕ → Option ℕ
owner_at systems s = option_map (λ x. x.element) (slice_get systems s)

-- an element tells the place of a system exactly where that system belongs to it
pub record TellSystems (elements : List Element) (systems : List meaning.System) : Type 0 where
  pub belongs : (e s : ℕ) → system_told elements e ≡ Some s → owner_at systems s ≡ Some e
  pub told : (e s : ℕ) → owner_at systems s ≡ Some e → system_told elements e ≡ Some s
