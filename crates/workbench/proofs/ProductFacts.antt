-- What is known of a bundle's case over one world: its text is the product's, and too many entries are too many of that world.
use Rattle.std.proofs.Common.{◌≡◌, refl, sym, ap, ap₂, ◌∙◌, subst, ℕ, List, [], Bool, true}
use Rattle.meaning.specs.Features.{feature_names, is_valid}
use Rattle.meaning.specs.Templates.{Template}
use Rattle.meaning.specs.Cases.{Case, text_of_case}
use Rattle.meaning.specs.CaseFiles.{cut}
use Rattle.meaning.specs.Answers.{Prints, product_answer}
use Rattle.worlds.specs.Algebra.{Algebra, Kept}
use Rattle.worlds.specs.OneWorld.{HasOnlyWorld}
use Rattle.worlds.proofs.Kept.{no_refusal}
use Rattle.feature_model.specs.Contents.{line_view}
use Rattle.lifted_case.specs.declared.lifted.Lifted.{Lifted}
use Rattle.case_derive.specs.Keys.{unkeyed}
use Rattle.case_derive.specs.OneWorld.{document_at_one}
use Rattle.case_derive.proofs.Keys.{text_of_unkeyed}
use Rattle.lifting.specs.Stops.{Halts}
use Rattle.lifting.specs.LiftedInstances.{IsLiftedInstance}
use Rattle.lifting.specs.Overflows.{TooManyEntries}
use Rattle.lifting.specs.declared.stop.LiftStop.{LiftStop}
use Rattle.lifting.specs.declared.stop.LiftStop.TheVariants as lift
use Rattle.workbench.specs.declared.bundle.Bundle as code
use Rattle.workbench.specs.BuildingStage.{building_cases}
use Rattle.workbench.specs.BundleView.{bundle_view}
use Rattle.workbench.specs.Run.{Refuses}
use Rattle.workbench.specs.Stopped.{status_of_lift_stop}
use Rattle.lifting.proofs.InstanceAtOne.{product_prints, product_is_big}

-- the one world stays the one
pub only_later : (w : List Bool) (a b : Algebra Bool) → HasOnlyWorld w a → Kept a b → b.refused ≡ 0 → HasOnlyWorld w b
only_later w a b only k none = record {
  count = k.count ∙ only.count;
  worlds = λ x. (λ h. (only.worlds x).0 (sym (k.worlds x) ∙ h), λ e. k.worlds x ∙ (only.worlds x).1 e);
  live = λ c. k.live c (only.live c);
  holds = λ c x. k.holds c (only.live c) x ∙ only.holds c x;
  refused = none;
  limit = k.limit ∙ only.limit;
  taken = k.taken ∙ only.taken;
}

module _ (b : code.Bundle) (w : List Bool) (a : Algebra Bool) (only : HasOnlyWorld w a) where
  pub lifting_refuses : (before : Algebra Bool) (ts : List Template) → ts ≡ b.templates → (stop : LiftStop) → Halts before a (TooManyEntries a b.model ts) stop
      → Refuses (λ x. product_answer building_cases (bundle_view b) w ≡ x) (status_of_lift_stop stop)
  lifting_refuses before ts same (lift.NodeLimit stop) h = no_refusal only.refused h
  lifting_refuses before ts same lift.BigCase h = product_is_big (bundle_view b) w a only building_cases refl (subst (TooManyEntries a b.model) same h)
  lifting_refuses before ts same lift.NoMemory h = tt

  pub printed_here : (case : Lifted Bool) → IsLiftedInstance a b.title (feature_names (line_view b.line)) b.model b.templates case → is_valid (line_view b.line) w ≡ true
      → (p : Case) (title : List ℕ) (features : List (List ℕ)) (bytes : List ℕ) → bytes ≡ text_of_case p title features w
      → p ≡ unkeyed (cut (document_at_one case) []) → title ≡ case.title → features ≡ case.features
      → product_answer building_cases (bundle_view b) w ≡ Prints bytes
  printed_here case h valid p title features bytes written is same_title same_features =
      product_prints (bundle_view b) w a only case h building_cases valid
      ∙ ap Prints
      (sym (text_of_unkeyed (cut (document_at_one case) []) b.title (feature_names (line_view b.line)) w)
      ∙ ap (λ x. text_of_case x b.title (feature_names (line_view b.line)) w) (sym is)
      ∙ ap₂ (λ t fs. text_of_case p t fs w) (sym (same_title ∙ h.title)) (sym (same_features ∙ h.features))
      ∙ sym written)
