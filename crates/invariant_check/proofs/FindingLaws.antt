-- What a finding shows at a world: where its check is not refuted the reached states are an invariant that shows it, and where it is refuted
-- the run to its target is a shortest run to a violation.
use Rattle.std.proofs.Common.{◌≡◌, ◌∙◌, sym, ap, refl, List, Bool, true, false, map, length, ℕ, Option, Some, None}
use Rattle.std.specs.Prelude.{◌&&◌, not, is_none}
use Rattle.std.proofs.lemmas.Bool.{false≢true}
use Rattle.meaning.specs.Texts.{numbers_from}
use Rattle.meaning.specs.Models.{Model, System, projection}
use Rattle.meaning.specs.Layers.{is_system_there}
use Rattle.meaning.specs.Systems.{Property, is_reachable, is_refuted, is_closed, last_state}
use Rattle.meaning.specs.Verdicts.{IsShortestViolation}
use Rattle.meaning.proofs.VerdictLaws.{supported_is_closed, refuted_has_shortest}
use Rattle.annotated_model.specs.ModelFacts.{SystemFits}
use Rattle.annotated_model.proofs.ProperProducts.{projection_is_proper}
use Rattle.worlds.specs.Algebra.{Algebra}
use Rattle.worlds.specs.Rows.{row_at}
use Rattle.featured_systems.specs.Exploring.{IsExplored}
use Rattle.featured_systems.specs.declared.explored.Explored.{Explored}
use Rattle.invariant_check.specs.declared.data.Finding.{Finding}
use Rattle.invariant_check.specs.Findings.{IsFinding}
use Rattle.invariant_check.proofs.FirstViolations.{refuted_has_last}

module _ {C : Type 0} (a : Algebra C) (m : Model) (s : System) (p : Property) (under : C) (f : Finding C) (fits : SystemFits m s) (finding : IsFinding a m s p under f) (x : List Bool) (world : a.is_world x ≡ true) (asked : a.holds under x ≡ true) where
  -- what `accepts` is asked of the reached states, it answers with yes
  pub supported_is_accepted : (e : Explored C) → IsExplored a m s e → is_system_there m s x ≡ true → a.holds f.refuted x ≡ false
      → is_closed (length m.labels) (projection x s) p (row_at a e.reached x) ≡ true
  supported_is_accepted e explored there kept =
      ap (is_closed (length m.labels) (projection x s) p)
      (explored.reached.holds x world ∙ ap (λ b. map (λ y. b && is_reachable (projection x s) y) (numbers_from 0 (length s.states))) there)
      ∙ supported_is_closed (length m.labels) (projection x s) p (projection_is_proper m s fits x) unrefuted
    where
      unrefuted : is_refuted (length m.labels) (projection x s) p ≡ false
      unrefuted = sym (ap (λ b. b && is_refuted (length m.labels) (projection x s) p) asked) ∙ sym (finding.refuted.holds x world) ∙ kept

  -- the last state of the run is told, and the run is a shortest one to a violation
  pub refuted_has_run : a.holds f.refuted x ≡ true
      → (last : ℕ) × (last_state (length m.labels) (projection x s) p ≡ Some last) × IsShortestViolation (length m.labels) (projection x s) p last
  refuted_has_run lost = go (last_state (length m.labels) (projection x s) p) refl
    where
      refuted : is_refuted (length m.labels) (projection x s) p ≡ true
      refuted = sym (ap (λ b. b && is_refuted (length m.labels) (projection x s) p) asked) ∙ sym (finding.refuted.holds x world) ∙ lost

      go : (o : Option ℕ) → last_state (length m.labels) (projection x s) p ≡ o
          → (last : ℕ) × (last_state (length m.labels) (projection x s) p ≡ Some last) × IsShortestViolation (length m.labels) (projection x s) p last
      go (Some last) is = (last, is, refuted_has_shortest (length m.labels) (projection x s) p (projection_is_proper m s fits x) last is)
      go None none =
          absurd (false≢true (sym (ap (λ o. not (is_none o)) none) ∙ sym (refuted_has_last (length m.labels) (projection x s) p) ∙ refuted))
