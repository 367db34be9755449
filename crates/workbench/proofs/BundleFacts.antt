-- What is known of a bundle that was read: it fits what lifting asks, and so its lifted case is written and built.
use Rattle.std.proofs.Common.{◌≡◌, refl, sym, ap, ◌∙◌, subst, ℕ, ◌<◌, ◌≤◌, List, [], ◌++◌, length, true}
use Rattle.std.specs.Prelude.{if◌then◌else◌, Some}
use Rattle.std.specs.List.{All}
use Rattle.std.proofs.lemmas.List.{length-map}
use Rattle.meaning.specs.Documents.{Document, Json, document_of, of_json}
use Rattle.meaning.specs.Features.{line_of, feature_names}
use Rattle.meaning.specs.Models.{Model, model_of}
use Rattle.meaning.specs.Templates.{Template}
use Rattle.meaning.specs.BundlePlaces.{is_table_value}
use Rattle.meaning.specs.LineRules.{line_faults, feature_names_in}
use Rattle.meaning.specs.ModelRules.{model_faults}
use Rattle.meaning.specs.TemplateRules.{template_faults}
use Rattle.meaning.specs.BundleRules.{top_faults, faults_of_readers, bundle_faults}
use Rattle.meaning.specs.Derivation.{Bundle, bundle_of}
use Rattle.meaning.specs.Statuses.{BigCase}
use Rattle.meaning.specs.CaseFiles.{CaseDocument}
use Rattle.meaning.specs.CaseBytes.{case_bytes, case_data}
use Rattle.meaning.specs.CaseReading.{Is, read_case}
use Rattle.meaning.specs.Answers.{Prints, refusal, IsBuildAnswer, ShowsCase, too_many_entries, most_bytes}
use Rattle.meaning.proofs.FirstFaults.{nothing_left}
use Rattle.meaning.proofs.LineNames.{names_of_line}
use Rattle.feature_model.specs.Contents.{line_view}
use Rattle.annotated_model.specs.ModelFacts.{NamesFeatures}
use Rattle.worlds.specs.Algebra.{Algebra, Kept}
use Rattle.node_pool.specs.declared.node.NodeNo.{NodeNo}
use Rattle.node_pool.specs.Regions.{IsRegion}
use Rattle.conditions.specs.Diagrams.{State, algebra_of}
use Rattle.lifted_case.specs.declared.lifted.Lifted.{Lifted}
use Rattle.lifted_case.specs.CaseContents.{BreaksNoRule, TextsAreJoined}
use Rattle.lifted_case.specs.CaseWritten.{IsWrittenFrom, conditions_in}
use Rattle.lifted_case.specs.declared.case_bytes.CaseStop.{CaseStop}
use Rattle.lifted_case.specs.declared.case_bytes.CaseStop.TheVariants as write
use Rattle.lifting.specs.Stops.{Halts}
use Rattle.lifting.specs.FittingTemplates.{TemplatesFit, HaveNoSolutions}
use Rattle.lifting.specs.FittingBundles.{BundleFits}
use Rattle.lifting.specs.LiftedInstances.{IsLiftedInstance}
use Rattle.lifting.specs.Overflows.{TooManyEntries}
use Rattle.lifting.specs.declared.stop.LiftStop.{LiftStop}
use Rattle.lifting.specs.declared.stop.LiftStop.TheVariants as lift
use Rattle.workbench.specs.declared.bundle.Bundle as code
use Rattle.workbench.specs.Stopped.{status_of_lift_stop, status_of_write_stop}
use Rattle.workbench.specs.BuildingStage.{building_cases}
use Rattle.workbench.specs.BundleView.{bundle_view, IsReadBundle}
use Rattle.workbench.specs.Products.{HasProducts, StopsOver}
use Rattle.workbench.proofs.BundleReadings.{is_table}
use Rattle.lifting.proofs.InstanceBuilt.{features_of_case, case_is_live, case_keeps_rules, case_is_joined, case_prints, case_is_big}
use Rattle.lifting.proofs.OverflowEntries.{too_many_is_many}
use Rattle.lifting.proofs.ReadBundles.{read_bundle_fits}
use Rattle.lifting.proofs.ReadTemplates.{read_templates_fit}

-- ---- the templates fit

module _ (d : Document) (none : bundle_faults d ≡ []) where
  in_parts : (top_faults d ≡ []) × ((if is_table_value d then faults_of_readers d else []) ≡ [])
  unfolding bundle_faults
  in_parts = nothing_left (top_faults d) (if is_table_value d then faults_of_readers d else []) none

  of_readers : faults_of_readers d ≡ []
  of_readers = sym (ap (λ b. if b then faults_of_readers d else []) (is_table d in_parts.0)) ∙ in_parts.1

  no_template_fault : template_faults (model_of (feature_names_in d) d) d ≡ []
  no_template_fault =
      (nothing_left (line_faults d ++ model_faults (feature_names_in d) d) (template_faults (model_of (feature_names_in d) d) d) of_readers).1

module _ (b : code.Bundle) (h : IsReadBundle b) where
  templates_fit : TemplatesFit (bundle_of h.document).templates
  unfolding bundle_of
  templates_fit =
      read_templates_fit (model_of (feature_names (line_of h.document)) h.document) h.document
      (ap (λ ns. template_faults (model_of ns h.document) h.document) (names_of_line h.document) ∙ no_template_fault h.document h.rules) h.form

  pub bundle_fits : BundleFits (bundle_view b)
  bundle_fits = subst BundleFits (sym h.of_document.is) (read_bundle_fits h.document h.rules templates_fit)

  pub without_solutions : HaveNoSolutions b.templates
  without_solutions = record { no_solution = bundle_fits.templates.no_solution; unchecked = bundle_fits.templates.unchecked }

  pub names_features : (count : ℕ) → count ≡ length (feature_names (line_view b.line)) → NamesFeatures count b.model
  names_features count e = subst (λ n. NamesFeatures n b.model) (sym e) h.of_document.names

  pub names_features_of : (count : ℕ) → count ≡ length b.line.features → NamesFeatures count b.model
  names_features_of count e = names_features count (e ∙ sym (length-map b.line.features (λ f. f.name)))

-- the parts that were handed on are those of the bundle
pub instance_of : {C : Type 0} (a : Algebra C) (case : Lifted C) (m : Model) (s t : List ℕ) (ns ms : List (List ℕ)) (ts us : List Template)
    → s ≡ t → ns ≡ ms → ts ≡ us → IsLiftedInstance a s ns m ts case → IsLiftedInstance a t ms m us case
instance_of a case m s t ns ms ts us e f g h =
    subst (λ x. IsLiftedInstance a x ms m us case) e (subst (λ x. IsLiftedInstance a s x m us case) f (subst (λ x. IsLiftedInstance a s ns m x case) g h))

-- ---- diagrams

-- growing diagrams go on having the products
pub products_later : (b : Bundle) (s t : State) → Kept (algebra_of s) (algebra_of t) → HasProducts b s → HasProducts b t
products_later b s t k h = record { count = k.count ∙ h.count; worlds = λ w. k.worlds w ∙ h.worlds w; product = h.product }

module _ (b : Bundle) (old new : State) (products : HasProducts b new) (ts : List Template) (same : ts ≡ b.templates) where
  is_many : TooManyEntries (algebra_of new) b.model ts → IsBuildAnswer building_cases b ShowsCase (refusal (BigCase true))
  is_many many =
      too_many_entries refl products.product
      (too_many_is_many (algebra_of new) b (λ w world. sym (products.worlds w) ∙ world) (subst (TooManyEntries (algebra_of new) b.model) same many))

  pub lifting_stops : (stop : LiftStop) → Halts (algebra_of old) (algebra_of new) (TooManyEntries (algebra_of new) b.model ts) stop → StopsOver b old new (status_of_lift_stop stop)
  lifting_stops (lift.NodeLimit stop) h = (h.used, h.rose)
  lifting_stops lift.BigCase h = is_many h
  lifting_stops lift.NoMemory h = tt

-- ---- what is written

module _ (b : code.Bundle) (read : IsReadBundle b) (s : State) (products : HasProducts (bundle_view b) s) (case : Lifted NodeNo)
    (h : IsLiftedInstance (algebra_of s) b.title (feature_names (line_view b.line)) b.model b.templates case) where
  pub features_here : s.region.vars ≡ length case.features
  features_here = features_of_case s (bundle_view b) case products.product products.worlds (bundle_fits b read) h

  pub live_here : All (algebra_of s).live (conditions_in case)
  live_here = case_is_live s (bundle_view b) case products.product products.worlds (bundle_fits b read) h

  pub keeps_rules_here : BreaksNoRule case
  keeps_rules_here = case_keeps_rules s (bundle_view b) case products.product products.worlds (bundle_fits b read) h

  pub joined_here : TextsAreJoined case
  joined_here = case_is_joined s (bundle_view b) case products.product products.worlds (bundle_fits b read) h

  pub prints_here : (bytes : List ℕ) → (k : CaseDocument) × IsWrittenFrom s.region case k × (bytes ≡ case_bytes k) × (length bytes ≤ most_bytes) × (read_case bytes ≡ Is k)
      → IsBuildAnswer building_cases (bundle_view b) ShowsCase (Prints bytes)
  prints_here bytes written = case_prints s (bundle_view b) case products.product products.worlds (bundle_fits b read) h building_cases bytes written

  pub writing_stops : IsRegion s.region → (old : State) (stop : CaseStop)
      → (stop ≡ write.BigCase → (k : CaseDocument) × IsWrittenFrom s.region case k × (most_bytes < length (case_bytes k)) × (document_of Json (case_bytes k) ≡ Some (of_json (case_data k))))
      → StopsOver (bundle_view b) old s (status_of_write_stop stop)
  writing_stops region old write.BigCase big = case_is_big s (bundle_view b) case products.product products.worlds (bundle_fits b read) h region building_cases refl (big refl)
  writing_stops region old write.NoMemory big = tt
