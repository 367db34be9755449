-- Runs that are told back from their ends, over conditions that mark the transitions.
use Rattle.std.specs.Prelude.{ℕ, List, map, Bool, ◌&&◌, ◌==◌, Option, option_map, find}
use Rattle.meaning.specs.Texts.{numbered, holds_at}
use Rattle.meaning.specs.Models.{Transition, PlainSystem}
use Rattle.meaning.specs.Systems.{distance}
use Rattle.meaning.specs.Tidy.{is_step_back}
use Rattle.worlds.specs.Algebra.{Algebra, has}

-- ---- of one product

-- the first marked transition into a state, with its number
abbrev pub marked_into : List Transition → List Bool → ℕ → Option (ℕ × Transition)
marked_into ts marks y = find (λ t. (t.1.target == y) && holds_at marks t.0) (numbered ts)

-- of each transition, whether the shortest runs to its end go back over it
abbrev pub steps_back : PlainSystem → List Transition → List Bool
steps_back s ts = map (λ t. is_step_back s t.0 t.1.target (distance s t.1.target)) (numbered ts)

-- ---- of the conditions

-- of each condition, whether the list is a world at which it holds
abbrev pub all_has : {C : Type 0} → Algebra C → List C → List Bool → List Bool
all_has a cs x = map (λ c. has a c x) cs

-- the first target that holds, where the list is a world
abbrev pub first_target : {C : Type 0} → Algebra C → List (ℕ × C) → List Bool → Option ℕ
first_target a targets x = option_map (λ t. t.0) (find (λ t. has a t.1 x) targets)
