-- Between a system and its finding: where each state violates, and the first that does.
use Rattle.std.specs.Prelude.{◌≡◌, ℕ, List, map, length, Bool, true, ◌&&◌, is_none, Option, option_map, option_to_list, find}
use Rattle.meaning.specs.Texts.{numbers_from, holds_at}
use Rattle.meaning.specs.Models.{Model, System, projection}
use Rattle.meaning.specs.Layers.{is_system_there}
use Rattle.meaning.specs.Systems.{Property, violates, is_number, last_state}
use Rattle.worlds.specs.Algebra.{Algebra}
use Rattle.worlds.specs.Rows.{AllLive, row_at}
use Rattle.invariant_check.specs.Findings.{targets_at}

-- one condition for each state, which holds where the state violates, at the worlds that have the element
pub record Violating {C : Type 0} (a : Algebra C) (m : Model) (s : System) (p : Property) (cs : List C) : Type 0 where
  pub live : AllLive a cs
  pub size : length cs ≡ length s.states
  pub holds : (x : List Bool) → a.is_world x ≡ true → is_system_there m s x ≡ true
      → row_at a cs x ≡ map (violates (length m.labels) (projection x s) p) (numbers_from 0 (length s.states))

-- the first state at a list whose layer holds and that violates
abbrev pub first_met : {C : Type 0} → Algebra C → List C → List (ℕ × ℕ × C) → List Bool → Option ℕ
first_met {C} a violating layers x = option_map (λ (l : ℕ × ℕ × C). l.1) (find (λ l. a.holds l.2 x && holds_at (row_at a violating x) l.1) layers)

-- where none of the layers leads to a violation
abbrev pub is_open : {C : Type 0} → Algebra C → C → List C → List (ℕ × ℕ × C) → List Bool → Bool
is_open a under violating layers x = a.holds under x && is_none (first_met a violating layers x)

-- for each state, where it is the first
abbrev pub firsts_at : {C : Type 0} → Algebra C → C → List C → List (ℕ × ℕ × C) → List Bool → List Bool
firsts_at a under violating layers x =
    map (λ i. a.holds under x && is_number i (first_met a violating layers x)) (numbers_from 0 (length violating))

-- at each world where a condition holds, the one target that holds is the last state of the run of the refuted check
abbrev pub TargetsLead : {C : Type 0} → Algebra C → ℕ → System → Property → C → List (ℕ × C) → Type 0
TargetsLead a labels s p c targets =
    (x : List Bool) → a.is_world x ≡ true → a.holds c x ≡ true → targets_at a targets x ≡ option_to_list (last_state labels (projection x s) p)
