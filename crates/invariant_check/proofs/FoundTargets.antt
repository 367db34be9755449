-- The targets that are listed, and the finding.
use Rattle.std.proofs.Common.{◌≡◌, ◌∙◌, refl, sym, ap, subst, ℕ, List, map, length, get_or, Bool, true, false}
use Rattle.std.specs.Prelude.{◌&&◌, not, filter}
use Rattle.std.specs.List.{All}
use Rattle.std.proofs.lemmas.Bool.{false≢true}
use Rattle.meaning.specs.Texts.{numbers_from}
use Rattle.meaning.specs.Models.{Model, System, projection}
use Rattle.meaning.specs.Systems.{Property, is_refuted}
use Rattle.worlds.specs.Algebra.{Algebra, HoldsWhere}
use Rattle.worlds.specs.Rows.{row_at}
use Rattle.invariant_check.specs.declared.data.Finding.{Finding}
use Rattle.invariant_check.specs.Findings.{IsTarget, Ascend, IsSample, IsFinding, targets_at, last_there}
use Rattle.invariant_check.specs.Searching.{TargetsLead}
use Rattle.invariant_check.specs.Targets.{AreTargets, IsJudged}
use Rattle.invariant_check.proofs.FoundStates.{ends_listed}

both_true : (u r : Bool) → (u && r) ≡ true → (u ≡ true) × (r ≡ true)
both_true true true e = (refl, refl)
both_true true false e = absurd (false≢true e)
both_true false r e = absurd (false≢true e)

module _ {C : Type 0} (a : Algebra C) (m : Model) (s : System) (p : Property) (under supported refuted : C) (ends : List C) (judged : IsJudged a (length m.labels) s p under supported refuted ends)
    (size : length ends ≡ length s.states) (targets : List (ℕ × C))
    (listed : (x : List Bool) → a.is_world x ≡ true → targets_at a targets x ≡ filter (λ i. get_or (row_at a ends x) i false) (numbers_from 0 (length ends))) where
  pub targets_are : (x : List Bool) → a.is_world x ≡ true → targets_at a targets x ≡ last_there (length m.labels) s p (a.holds under x) x
  targets_are x w =
      listed x w
      ∙ ap (λ n. filter (λ i. get_or (row_at a ends x) i false) (numbers_from 0 n)) size
      ∙ ap (λ row. filter (λ i. get_or row i false) (numbers_from 0 (length s.states))) (judged.where_ends.holds x w)
      ∙ ends_listed a under (length m.labels) s p x

  refuted_there : (x : List Bool) → a.is_world x ≡ true → a.holds refuted x ≡ true → (a.holds under x ≡ true) × (is_refuted (length m.labels) (projection x s) p ≡ true)
  refuted_there x w held = both_true (a.holds under x) (is_refuted (length m.labels) (projection x s) p) (sym (judged.where_refuted.holds x w) ∙ held)

  pub is_refuted_there : (x : List Bool) → a.is_world x ≡ true → a.holds refuted x ≡ true → is_refuted (length m.labels) (projection x s) p ≡ true
  is_refuted_there x w held = (refuted_there x w held).1

  pub targets_lead : TargetsLead a (length m.labels) s p refuted targets
  targets_lead x w held = targets_are x w ∙ ap (λ u. last_there (length m.labels) s p u x) ((refuted_there x w held).0)

  pub found_is : (f : Finding C) → f.supported ≡ supported → f.refuted ≡ refuted → f.targets ≡ targets → AreTargets a targets (length ends)
      → IsSample a (length m.labels) s p refuted f.sample → IsFinding a m s p under f
  found_is f same_supported same_refuted same are sample = record {
    supported = subst (λ k. HoldsWhere a k (λ x. a.holds under x && not (is_refuted (length m.labels) (projection x s) p))) (sym same_supported) judged.where_supported;
    refuted = subst (λ k. HoldsWhere a k (λ x. a.holds under x && is_refuted (length m.labels) (projection x s) p)) (sym same_refuted) judged.where_refuted;
    each = subst (All (IsTarget a)) (sym same) are.each;
    ascend = subst (λ (ts : List (ℕ × C)). Ascend (map (λ t. t.0) ts)) (sym same) are.ascend;
    targets = λ x w. ap (λ ts. targets_at a ts x) same ∙ targets_are x w;
    sample = subst (λ k. IsSample a (length m.labels) s p k f.sample) (sym same_refuted) sample;
  }
