-- The list of the states to which shortest runs to violations lead.
use Rattle.std.specs.Prelude.{ℕ, ◌<◌, List, map, length, Bool, not, ◌&&◌}
use Rattle.std.specs.List.{All}
use Rattle.meaning.specs.Texts.{numbers_from}
use Rattle.meaning.specs.Models.{System, projection}
use Rattle.meaning.specs.Systems.{Property, is_number, is_refuted, last_state}
use Rattle.worlds.specs.Algebra.{Algebra, HoldsWhere}
use Rattle.worlds.specs.Rows.{RowWhere}
use Rattle.invariant_check.specs.Findings.{IsTarget, Ascend}

-- the targets that are listed, by state, all below a number
pub record AreTargets {C : Type 0} (a : Algebra C) (targets : List (ℕ × C)) (n : ℕ) : Type 0 where
  pub each : All (IsTarget a) targets
  pub ascend : Ascend (map (λ t. t.0) targets)
  pub below : All (λ t. t.0 < n) targets

-- for each state, where the condition holds and the run of the refuted check ends there
abbrev pub ends_at : {C : Type 0} → Algebra C → C → ℕ → System → Property → List Bool → List Bool
ends_at a under labels s p x = map (λ i. a.holds under x && is_number i (last_state labels (projection x s) p)) (numbers_from 0 (length s.states))

-- where the check is supported under a condition, where it is refuted, and for each state where its run ends there
pub record IsJudged {C : Type 0} (a : Algebra C) (labels : ℕ) (s : System) (p : Property) (under supported refuted : C) (ends : List C) : Type 0 where
  pub where_supported : HoldsWhere a supported (λ x. a.holds under x && not (is_refuted labels (projection x s) p))
  pub where_refuted : HoldsWhere a refuted (λ x. a.holds under x && is_refuted labels (projection x s) p)
  pub where_ends : RowWhere a ends (ends_at a under labels s p)
