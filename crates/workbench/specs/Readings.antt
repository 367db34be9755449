-- What the readers of bundles, cases and configurations tell, and why they stop.
use Rattle.std.specs.Prelude.{◌≡◌, ℕ, ⊤, List, [], ◌∷◌, true, false, Some, is_none}
use Rattle.meaning.specs.Texts.{first_of_list}
use Rattle.meaning.specs.Documents.{Document, document_of, as_table}
use Rattle.meaning.specs.Features.{feature_names, is_valid}
use Rattle.meaning.specs.BundlePlaces.{BundleFault}
use Rattle.meaning.specs.BundleRules.{bundle_faults, first_fault}
use Rattle.meaning.specs.BuiltForms.{has_no_solutions}
use Rattle.meaning.specs.Configurations.{Configuration, ConfigurationFault, NoTable, Refused, of_table}
use Rattle.meaning.specs.Derivation.{bundle_of}
use Rattle.meaning.specs.Derivation as meaning_bundle
use Rattle.meaning.specs.Statuses as meaning
use Rattle.meaning.specs.Statuses.{of_configuration}
use Rattle.meaning.specs.Words.{Derive, form_named}
use Rattle.meaning.specs.Answers.{Answer, BundleReading, Faulty, NotBuilt, Good, AfterConfiguration, AfterValid, is_unread, configured, product_answer, IsAnswer}
use Rattle.doc_tree.specs.Places.{fault_of}
use Rattle.workbench.specs.declared.bundle.Bundle.{Bundle}
use Rattle.workbench.specs.declared.status.Status.{Status}
use Rattle.workbench.specs.declared.status.Status.TheVariants as status
use Rattle.workbench.specs.BundleView.{IsBundleOf, IsReadBundle}
use Rattle.workbench.specs.BuildingStage.{building_cases}

-- ---- bundles

-- the bundle is that of this document, which breaks no rule, and no template of it has a solution
pub record IsReadFrom (d : Document) (b : Bundle) : Type 0 where
  pub is : IsBundleOf d b
  pub rules : bundle_faults d ≡ []
  pub form : has_no_solutions d ≡ true

-- the bytes are a document that breaks no rule and is of the built form, and the bundle is its
pub record IsGoodBundle (r : BundleReading) (b : Bundle) : Type 0 where
  pub read : IsReadBundle b
  pub good : r ≡ Good read.document (bundle_of read.document)

-- why a bundle is not gone on with: the first of its faults, or a form that isn't built
abbrev pub StopsBundle : BundleReading → Status → Type 0
StopsBundle r (status.BadBundle f) = (fs : List BundleFault) × (r ≡ Faulty fs) × (first_of_list fs ≡ Some (fault_of f))
StopsBundle r status.Unsupported = r ≡ NotBuilt
StopsBundle r status.NoMemory = ⊤
StopsBundle r s = ⊥

-- the same of a document
abbrev pub StopsDocument : Document → Status → Type 0
StopsDocument d (status.BadBundle f) = first_fault d ≡ Some (fault_of f)
StopsDocument d status.Unsupported = (bundle_faults d ≡ []) × (has_no_solutions d ≡ false)
StopsDocument d status.NoMemory = ⊤
StopsDocument d s = ⊥

-- the status tells the first of these faults
abbrev pub TellsFirst : List BundleFault → Status → Type 0
TellsFirst fs (status.BadBundle f) = first_of_list fs ≡ Some (fault_of f)
TellsFirst fs status.NoMemory = ⊤
TellsFirst fs s = ⊥

-- ---- configurations

-- why there is no world: the configuration breaks a rule
abbrev pub StopsConfiguration : Configuration → Status → Type 0
StopsConfiguration c (status.BadConfig rule at) = (f : ConfigurationFault) × (c ≡ Refused f) × (of_configuration f ≡ meaning.BadConfig rule at)
StopsConfiguration c status.NoMemory = ⊤
StopsConfiguration c s = ⊥

-- a table, in the format that the file's name tells
pub record IsTableOf (name bytes : List ℕ) (d : Document) : Type 0 where
  pub is : document_of (form_named name) bytes ≡ Some d
  pub table : is_none (as_table d) ≡ false

-- why bytes are no table
abbrev pub StopsTable : (name bytes : List ℕ) → Status → Type 0
StopsTable name bytes (status.BadConfig rule at) =
    ((rule ≡ 1) × (at ≡ 0)) × ((features : List (List ℕ)) → of_table features (document_of (form_named name) bytes) ≡ Refused NoTable)
StopsTable name bytes status.NoMemory = ⊤
StopsTable name bytes s = ⊥

-- ---- texts

-- the answer of a derivation to the bytes of a case and of a configuration; the case's name counts for nothing
abbrev pub AnswersDerive : (bytes name chosen : List ℕ) → Answer → Type 0
AnswersDerive bytes name chosen a = (case : List ℕ) → IsAnswer building_cases (Derive case name) (bytes ∷ chosen ∷ []) a

-- the answer of a product to a bundle that is built
abbrev pub AnswersProduct : meaning_bundle.Bundle → (name chosen : List ℕ) → Answer → Type 0
AnswersProduct b name chosen a =
    AfterConfiguration (is_unread building_cases name) (configured (feature_names b.line) name chosen) a (λ w.
    AfterValid (is_valid b.line w) a (a ≡ product_answer building_cases b w))
