-- What a check finds of a featured transition system, over any algebra of conditions.
use Rattle.std.specs.Prelude.{◌≡◌, ℕ, ◌<◌, List, [], ◌∷◌, map, length, Bool, true, not, ◌&&◌, ⊤, if◌then◌else◌, Option, Some, None, option_map, option_to_list, filter}
use Rattle.std.specs.List.{All}
use Rattle.meaning.specs.Models.{Model, System, PlainSystem, projection}
use Rattle.meaning.specs.Layers.{is_system_there}
use Rattle.meaning.specs.Reports.{IsLeast}
use Rattle.meaning.specs.Systems.{Property, is_refuted, last_state, run_to}
use Rattle.worlds.specs.Algebra.{Algebra, HoldsWhere, HoldsNowhere, has}
use Rattle.invariant_check.specs.declared.data.Finding.{Finding}
use Rattle.invariant_check.specs.declared.data.Run.{Run}
use Rattle.invariant_check.specs.View.{run_view}

-- ---- at one world, of the system in its product

-- the run of a refuted check
abbrev pub last_run : ℕ → PlainSystem → Property → Option (ℕ × List ℕ)
last_run labels s p = option_map (run_to s) (last_state labels s p)

-- the last state of that run, where the check is asked for
abbrev pub last_there : ℕ → System → Property → Bool → List Bool → List ℕ
last_there labels s p asked x = if asked then option_to_list (last_state labels (projection x s) p) else []

-- ---- of the conditions

-- the targets that hold at a list
abbrev pub targets_at : {C : Type 0} → Algebra C → List (ℕ × C) → List Bool → List ℕ
targets_at a targets x = map (λ t. t.0) (filter (λ t. a.holds t.1 x) targets)

-- a target is live, and holds at some world
pub record IsTarget {C : Type 0} (a : Algebra C) (t : ℕ × C) : Type 0 where
  pub live : a.live t.1
  pub somewhere : HoldsNowhere a t.1 → ⊥

abbrev pub Ascend : List ℕ → Type 0
Ascend [] = ⊤
Ascend (x ∷ []) = ⊤
Ascend (x ∷ y ∷ ys) = (x < y) × Ascend (y ∷ ys)

-- the least world that has the condition with the run there, and none where there is no such world
abbrev pub IsSample : {C : Type 0} → Algebra C → ℕ → System → Property → C → Option (List Bool × Run) → Type 0
IsSample a labels s p refuted None = HoldsNowhere a refuted
IsSample a labels s p refuted (Some sample) =
    IsLeast a.count (has a refuted) sample.0 × (Some (run_view sample.1) ≡ last_run labels (projection sample.0 s) p)

-- at every world where the condition holds: whether the check is refuted of the system in the product of that world, and in which state its run
-- ends; and the least world where it is refuted with the run there
pub record IsFinding {C : Type 0} (a : Algebra C) (m : Model) (s : System) (p : Property) (under : C) (f : Finding C) : Type 0 where
  pub supported : HoldsWhere a f.supported (λ x. a.holds under x && not (is_refuted (length m.labels) (projection x s) p))
  pub refuted : HoldsWhere a f.refuted (λ x. a.holds under x && is_refuted (length m.labels) (projection x s) p)
  pub each : All (IsTarget a) f.targets
  pub ascend : Ascend (map (λ t. t.0) f.targets)
  pub targets : (x : List Bool) → a.is_world x ≡ true → targets_at a f.targets x ≡ last_there (length m.labels) s p (a.holds under x) x
  pub sample : IsSample a (length m.labels) s p f.refuted f.sample

-- what is found of some property under some condition, which holds only where the element of the system is there
pub record IsSomeFinding {C : Type 0} (a : Algebra C) (m : Model) (s : System) (f : Finding C) : Type 0 where
  pub property : Property
  pub under : C
  pub live : a.live under
  pub within : (x : List Bool) → a.is_world x ≡ true → a.holds under x ≡ true → is_system_there m s x ≡ true
  pub is : IsFinding a m s property under f
