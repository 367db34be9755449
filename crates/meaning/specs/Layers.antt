-- The states of a system by their distance, and over which transitions the shortest runs go, in a product that may lack the element of the system.
use Rattle.std.specs.Prelude.{ℕ, List, [], map, length, Bool, false, ◌&&◌, if◌then◌else◌, nat_le, Option, Some, None, filter}
use Rattle.meaning.specs.Texts.{flat, numbered, numbers_from}
use Rattle.meaning.specs.Expressions.{truth}
use Rattle.meaning.specs.Models.{Model, System, PlainSystem, projection, has_element}
use Rattle.meaning.specs.Systems.{distance, is_number, is_reachable}
use Rattle.meaning.specs.Tidy.{is_step_back}

-- there is a distance, and it is at most so great
abbrev pub is_within : ℕ → Option ℕ → Bool
is_within n None = false
is_within n (Some k) = nat_le k n

-- the states at a distance, in their order, each with it
abbrev pub states_at_distance : PlainSystem → ℕ → List (ℕ × ℕ)
states_at_distance s n = map (λ x. (n, x)) (filter (λ x. is_number n (distance s x)) (numbers_from 0 (length s.states)))

-- each reachable state with its distance, by distance, then number
abbrev pub states_by_distance : PlainSystem → List (ℕ × ℕ)
states_by_distance s = flat (states_at_distance s) (numbers_from 0 (length s.states))

-- ---- of a featured system at one world: nothing of it is there where its element isn't

abbrev pub is_system_there : Model → System → List Bool → Bool
is_system_there m s w = has_element m.elements w s.element

-- of each transition, whether it is present
abbrev pub steps_there : Model → System → List Bool → List Bool
steps_there m s w = map (λ t. is_system_there m s w && truth t.presence w) s.transitions

-- of each state, whether a run ends there
abbrev pub reached_there : Model → System → List Bool → List Bool
reached_there m s w = map (λ x. is_system_there m s w && is_reachable (projection w s) x) (numbers_from 0 (length s.states))

-- of each transition, whether the shortest runs to its end, found backwards, go back over it
abbrev pub parents_there : Model → System → List Bool → List Bool
parents_there m s w =
    map (λ t. is_system_there m s w && is_step_back (projection w s) t.0 t.1.target (distance (projection w s) t.1.target)) (numbered s.transitions)

abbrev pub layers_there : Model → System → List Bool → List (ℕ × ℕ)
layers_there m s w = if is_system_there m s w then states_by_distance (projection w s) else []
