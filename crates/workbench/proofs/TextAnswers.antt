-- The answers of `derive` and `product`, from what was read of their files.
use Rattle.std.proofs.Common.{lit<, ◌≡◌, refl, sym, ap, ap₂, ◌∙◌, subst, ℕ, List, [], ◌∷◌, Bool, true, false}
use Rattle.std.specs.Prelude.{Contains, Result, Err}
use Rattle.meaning.specs.Features.{feature_names, is_valid}
use Rattle.meaning.specs.BundlePlaces.{BundleFault}
use Rattle.meaning.specs.Cases.{Case, text_of_case}
use Rattle.meaning.specs.CaseFiles.{CaseDocument, holds, cut}
use Rattle.meaning.specs.CaseReading.{CaseFault, CaseReading, Is, Broken, read_case}
use Rattle.meaning.specs.Configurations.{Configuration, Refused, World, ConfigurationFault}
use Rattle.meaning.specs.Derivation.{Bundle, bundle_of, derived_at, if_valid}
use Rattle.meaning.specs.Words.{Product}
use Rattle.meaning.specs.Statuses.{BadBundle, BadCase, BadConfig, NotValid, Unsupported, of_configuration}
use Rattle.meaning.specs.Stages.{fault_of_case}
use Rattle.meaning.specs.Answers.{Answer, Prints, refusal, BundleReading, Faulty, NotBuilt, Good, AfterBundle, AfterCase, AfterConfiguration, AfterValid, IsAnswer, bundle_in, is_unread, configured, of_derivation, product_answer}
use Rattle.meaning.proofs.FirstFaults.{first_is_contained}
use Rattle.case_derive.specs.Keys.{unkeyed}
use Rattle.case_derive.proofs.Keys.{text_of_unkeyed}
use Rattle.doc_tree.specs.Places.{fault_of}
use Rattle.lifted_case.specs.CaseView.{fault_view}
use Rattle.lifted_case.specs.declared.lifted.ReadCase.{ReadCase}
use Rattle.lifted_case.specs.declared.lifted.CaseFault as code
use Rattle.lifted_case.specs.declared.stop.ReadCaseStop.{ReadCaseStop}
use Rattle.lifted_case.specs.declared.stop.ReadCaseStop.TheVariants as case_stop
use Rattle.workbench.specs.declared.bundle.Bundle as bundle_code
use Rattle.workbench.specs.declared.status.Status.{Status}
use Rattle.workbench.specs.declared.status.Status.TheVariants as status
use Rattle.workbench.specs.BuildingStage.{building_cases}
use Rattle.workbench.specs.BundleView.{bundle_view}
use Rattle.workbench.specs.Run.{Refuses}
use Rattle.workbench.specs.Stopped.{status_of_case_stop}
use Rattle.workbench.specs.Readings.{IsGoodBundle, StopsBundle, StopsConfiguration, AnswersDerive, AnswersProduct}
use Rattle.workbench.proofs.BundleReadings.{is_read}

-- ---- refusals

-- what is a refusal of one kind is one of another
pub refuses_by : (P Q : Answer → Type 0) → ((a : Answer) → P a → Q a) → (s : Status) → Refuses P s → Refuses Q s
refuses_by P Q f status.Done h = absurd h
refuses_by P Q f status.BadWords h = absurd h
refuses_by P Q f (status.BadBundle fault) h = f _ h
refuses_by P Q f (status.BadConfig rule at) h = f _ h
refuses_by P Q f status.NotValid h = f _ h
refuses_by P Q f (status.BadCase fault) h = f _ h
refuses_by P Q f (status.NodeLimit used) h = absurd h
refuses_by P Q f (status.BigCase entries) h = f _ h
refuses_by P Q f (status.TooLong k) h = absurd h
refuses_by P Q f (status.ReadFault k) h = absurd h
refuses_by P Q f status.WriteFault h = absurd h
refuses_by P Q f status.NoMemory h = tt
refuses_by P Q f status.Unsupported h = f _ h

-- ---- configurations

module _ (next : Answer → List Bool → Type 0) (name : List ℕ) where
  abbrev Configured : Configuration → Answer → Type 0
  Configured c a = AfterConfiguration (is_unread building_cases name) c a (next a)

  configured_by : (c : Configuration) (a : Answer) (is : Configuration) → c ≡ is → AfterConfiguration false is a (next a) → Configured c a
  configured_by c a is f h = subst (λ u. AfterConfiguration u c a (next a)) (sym (is_read name)) (subst (λ x. AfterConfiguration false x a (next a)) (sym f) h)

  world_answers : (c : Configuration) (w : List Bool) (a : Answer) → c ≡ World w → next a w → Configured c a
  world_answers c w a i h = configured_by c a (World w) i h

  bad_config : (c : Configuration) (rule at : ℕ) (f : ConfigurationFault) → c ≡ Refused f → of_configuration f ≡ BadConfig rule at → Configured c (refusal (BadConfig rule at))
  bad_config c rule at f is told = configured_by c (refusal (BadConfig rule at)) (Refused f) is (ap refusal (sym told))

  config_refuses : (c : Configuration) (s : Status) → StopsConfiguration c s → Refuses (Configured c) s
  config_refuses c status.Done h = absurd h
  config_refuses c status.BadWords h = absurd h
  config_refuses c (status.BadBundle fault) h = absurd h
  config_refuses c (status.BadConfig rule at) h = bad_config c rule at h.0 h.1 h.2
  config_refuses c status.NotValid h = absurd h
  config_refuses c (status.BadCase fault) h = absurd h
  config_refuses c (status.NodeLimit used) h = absurd h
  config_refuses c (status.BigCase entries) h = absurd h
  config_refuses c (status.TooLong k) h = absurd h
  config_refuses c (status.ReadFault k) h = absurd h
  config_refuses c status.WriteFault h = absurd h
  config_refuses c status.NoMemory h = tt
  config_refuses c status.Unsupported h = absurd h

-- ---- derive

module _ (k : CaseDocument) (w : List Bool) where
  -- a case that derives at the world to this plain case without keys has this text
  pub derived_is : (c : Case) (title : List ℕ) (features : List (List ℕ)) (bytes : List ℕ) → holds k w k.valid ≡ true → c ≡ unkeyed (cut k w)
      → title ≡ k.title → features ≡ k.features → bytes ≡ text_of_case c title features w → of_derivation (derived_at k w) ≡ Prints bytes
  derived_is c title features bytes valid is same_title same_features text =
      ap (λ v. of_derivation (if_valid v (text_of_case (cut k w) k.title k.features w))) valid
      ∙ ap Prints (sym (text ∙ ap₂ (λ t fs. text_of_case c t fs w) same_title same_features ∙ ap (λ x. text_of_case x k.title k.features w) is
      ∙ text_of_unkeyed (cut k w) k.title k.features w))

  pub not_derived : holds k w k.valid ≡ false → of_derivation (derived_at k w) ≡ refusal NotValid
  not_derived e = ap (λ v. of_derivation (if_valid v (text_of_case (cut k w) k.title k.features w))) e

module _ (bytes name chosen : List ℕ) where
  abbrev derives_at : CaseDocument → Answer → List Bool → Type 0
  derives_at k a w = a ≡ of_derivation (derived_at k w)

  abbrev after_case : CaseReading → Answer → Type 0
  after_case r a = AfterCase (fault_of_case r) r a (λ k. Configured (derives_at k) name (configured k.features name chosen) a)

  derives_from : (r : CaseReading) (a : Answer) → read_case bytes ≡ r → after_case r a → AnswersDerive bytes name chosen a
  unfolding IsAnswer
  derives_from r a e h case = subst (λ x. after_case x a) (sym e) h

  case_broken : (f : CaseFault) → read_case bytes ≡ Broken f → AnswersDerive bytes name chosen (refusal (BadCase f))
  case_broken f e = derives_from (Broken f) (refusal (BadCase f)) e (f, (0, lit< tt, refl), refl)

  -- the fault that the reader told is the case's
  pub case_refuses : (r : Result ReadCase ReadCaseStop) (s : ReadCaseStop) → r ≡ Err s
      → ((f : code.CaseFault) → r ≡ Err (case_stop.Fault f) → read_case bytes ≡ Broken (fault_view f)) → Refuses (AnswersDerive bytes name chosen) (status_of_case_stop s)
  case_refuses r (case_stop.Fault f) e h = case_broken (fault_view f) (h f e)
  case_refuses r case_stop.NoMemory e h = tt

  pub derive_answered : (k : CaseDocument) (w : List Bool) (a : Answer) → read_case bytes ≡ Is k
      → configured k.features name chosen ≡ World w → of_derivation (derived_at k w) ≡ a → AnswersDerive bytes name chosen a
  derive_answered k w a e i h =
      derives_from (Is k) a e (world_answers (derives_at k) name (configured k.features name chosen) w a i (sym h))

  pub derive_refused : (k : CaseDocument) (w : List Bool) (s : Status) → read_case bytes ≡ Is k
      → configured k.features name chosen ≡ World w
      → Refuses (λ a. of_derivation (derived_at k w) ≡ a) s → Refuses (AnswersDerive bytes name chosen) s
  derive_refused k w s e i h = refuses_by (λ a. of_derivation (derived_at k w) ≡ a) (AnswersDerive bytes name chosen) (λ a. derive_answered k w a e i) s h

  pub derive_stops : (k : CaseDocument) (s : Status) → read_case bytes ≡ Is k
      → StopsConfiguration (configured k.features name chosen) s → Refuses (AnswersDerive bytes name chosen) s
  derive_stops k s e h =
      refuses_by (Configured (derives_at k) name (configured k.features name chosen)) (AnswersDerive bytes name chosen)
      (λ a. derives_from (Is k) a e) s (config_refuses (derives_at k) name (configured k.features name chosen) s h)

-- ---- product

module _ (b : Bundle) where
  -- what a product answers at a world
  abbrev products_at : Answer → List Bool → Type 0
  products_at a w = AfterValid (is_valid b.line w) a (a ≡ product_answer building_cases b w)

  at_valid : (v : Bool) (a x : Answer) → v ≡ true → a ≡ x → AfterValid v a (a ≡ x)
  at_valid true a x valid e = e
  at_valid false a x valid e = absurd (let n : false ≡ true = valid in cc)

  at_other : (v : Bool) (x : Answer) → v ≡ false → AfterValid v (refusal NotValid) (refusal NotValid ≡ x)
  at_other true x other = absurd (let n : true ≡ false = other in cc)
  at_other false x other = refl

  module _ (name chosen : List ℕ) (w : List Bool) (names : configured (feature_names b.line) name chosen ≡ World w) where
    pub text_answered : is_valid b.line w ≡ true → (a : Answer) → product_answer building_cases b w ≡ a → AnswersProduct b name chosen a
    text_answered valid a h =
        world_answers products_at name (configured (feature_names b.line) name chosen) w a names (at_valid (is_valid b.line w) a (product_answer building_cases b w) valid (sym h))

    pub text_refused : is_valid b.line w ≡ true → (s : Status) → Refuses (λ a. product_answer building_cases b w ≡ a) s → Refuses (AnswersProduct b name chosen) s
    text_refused valid s h = refuses_by (λ a. product_answer building_cases b w ≡ a) (AnswersProduct b name chosen) (text_answered valid) s h

    pub not_valid : is_valid b.line w ≡ false → AnswersProduct b name chosen (refusal NotValid)
    not_valid other =
        world_answers products_at name (configured (feature_names b.line) name chosen) w (refusal NotValid) names
        (at_other (is_valid b.line w) (product_answer building_cases b w) other)

  pub text_stops : (name chosen : List ℕ) (s : Status) → StopsConfiguration (configured (feature_names b.line) name chosen) s → Refuses (AnswersProduct b name chosen) s
  text_stops name chosen s h = config_refuses products_at name (configured (feature_names b.line) name chosen) s h

module _ (bundle_name bytes name chosen : List ℕ) where
  abbrev after_bundle : BundleReading → Answer → Type 0
  after_bundle r a = AfterBundle r a (λ d b.
      AfterConfiguration (is_unread building_cases name) (configured (feature_names b.line) name chosen) a (λ w.
      AfterValid (is_valid b.line w) a (a ≡ product_answer building_cases b w)))

  product_from : (r : BundleReading) (a : Answer) → bundle_in building_cases bundle_name bytes ≡ r → after_bundle r a
      → IsAnswer building_cases (Product bundle_name name) (bytes ∷ chosen ∷ []) a
  unfolding IsAnswer
  product_from r a e h = subst (λ x. after_bundle x a) (sym e) h

  pub product_answered : (b : bundle_code.Bundle) (a : Answer) → IsGoodBundle (bundle_in building_cases bundle_name bytes) b → AnswersProduct (bundle_view b) name chosen a
      → IsAnswer building_cases (Product bundle_name name) (bytes ∷ chosen ∷ []) a
  product_answered b a i h =
      product_from (Good i.read.document (bundle_of i.read.document)) a i.good (subst (λ x. AnswersProduct x name chosen a) i.read.of_document.is h)

  pub product_refused : (b : bundle_code.Bundle) (s : Status) → IsGoodBundle (bundle_in building_cases bundle_name bytes) b
      → Refuses (AnswersProduct (bundle_view b) name chosen) s → Refuses (IsAnswer building_cases (Product bundle_name name) (bytes ∷ chosen ∷ [])) s
  product_refused b s i h =
      refuses_by (AnswersProduct (bundle_view b) name chosen) (IsAnswer building_cases (Product bundle_name name) (bytes ∷ chosen ∷ [])) (λ a. product_answered b a i) s h

  bundle_faulty : (fs : List BundleFault) (f : BundleFault) → bundle_in building_cases bundle_name bytes ≡ Faulty fs → Contains fs f
      → IsAnswer building_cases (Product bundle_name name) (bytes ∷ chosen ∷ []) (refusal (BadBundle f))
  bundle_faulty fs f e h = product_from (Faulty fs) (refusal (BadBundle f)) e (f, h, refl)

  pub product_stops : (s : Status) → StopsBundle (bundle_in building_cases bundle_name bytes) s
      → Refuses (IsAnswer building_cases (Product bundle_name name) (bytes ∷ chosen ∷ [])) s
  product_stops status.Done h = absurd h
  product_stops status.BadWords h = absurd h
  product_stops (status.BadBundle f) h = bundle_faulty h.0 (fault_of f) h.1 (first_is_contained h.0 (fault_of f) h.2)
  product_stops (status.BadConfig rule at) h = absurd h
  product_stops status.NotValid h = absurd h
  product_stops (status.BadCase fault) h = absurd h
  product_stops (status.NodeLimit used) h = absurd h
  product_stops (status.BigCase entries) h = absurd h
  product_stops (status.TooLong k) h = absurd h
  product_stops (status.ReadFault k) h = absurd h
  product_stops status.WriteFault h = absurd h
  product_stops status.NoMemory h = tt
  product_stops status.Unsupported h = product_from NotBuilt (refusal Unsupported) h refl
