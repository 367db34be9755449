-- The readings of the bytes of a bundle, one for each way in which it goes.
use Rattle.std.proofs.Common.{◌≡◌, refl, sym, ap, ◌∙◌, ℕ, List, [], ◌∷◌, ◌++◌, Bool, true, false}
use Rattle.std.specs.Prelude.{Some, None, is_none, is_some, if◌then◌else◌, ◌&&◌, Option, option_map}
use Rattle.std.proofs.lemmas.Bool.{true≢false}
use Rattle.meaning.specs.Texts.{first_of_list}
use Rattle.meaning.specs.Documents.{Document, document_of}
use Rattle.meaning.specs.BundlePlaces as meaning
use Rattle.meaning.specs.BundlePlaces.{Bundle, is_table_value, faults_at}
use Rattle.meaning.specs.BundleRules.{no_table, bundle_rules, top_faults, faults_of_readers, bundle_faults, first_fault}
use Rattle.meaning.specs.BuiltForms.{has_no_solutions}
use Rattle.meaning.specs.Words.{is_toml, form_named}
use Rattle.meaning.specs.Answers.{BundleReading, Faulty, NotBuilt, Good, bundle_in, is_unread, unless_faulty, if_built}
use Rattle.meaning.specs.Stages.{faults_of_bytes, faults_if_read}
use Rattle.meaning.specs.Derivation.{bundle_of}
use Rattle.meaning.proofs.FirstFaults.{nothing_first}
use Rattle.doc_tree.specs.Places.{fault_of}
use Rattle.doc_tree.specs.declared.fault.BundleFault.{BundleFault}
use Rattle.workbench.specs.declared.bundle.Bundle as code
use Rattle.workbench.specs.declared.status.Status.{Status}
use Rattle.workbench.specs.declared.status.Status.TheVariants as status
use Rattle.workbench.specs.BuildingStage.{building_cases}
use Rattle.workbench.specs.Readings.{IsReadFrom, IsGoodBundle, StopsBundle, StopsDocument, TellsFirst}

-- ---- files of every name are read

never_both : (b : Bool) → (b && false) ≡ false
never_both true = refl
never_both false = refl

pub is_read : (name : List ℕ) → is_unread building_cases name ≡ false
is_read name = never_both (is_toml name)

module _ (name bytes : List ℕ) where
  pub reading : bundle_in building_cases name bytes
      ≡ unless_faulty (faults_of_bytes bundle_faults (form_named name) bytes) (if_built building_cases (document_of (form_named name) bytes))
  unfolding bundle_in
  reading =
      ap (λ b. if b then NotBuilt else unless_faulty (faults_of_bytes bundle_faults (form_named name) bytes) (if_built building_cases (document_of (form_named name) bytes)))
      (is_read name)

  pub no_document_is_faulty : document_of (form_named name) bytes ≡ None → bundle_in building_cases name bytes ≡ Faulty (no_table ∷ [])
  no_document_is_faulty none = reading ∙ ap (λ o. unless_faulty (faults_if_read bundle_faults o) (if_built building_cases o)) none

unless_first : (fs : List meaning.BundleFault) (f : meaning.BundleFault) (r : BundleReading) → first_of_list fs ≡ Some f → unless_faulty fs r ≡ Faulty fs
unless_first [] f r e = absurd (true≢false (sym (ap is_some e)))
unless_first (x ∷ fs) f r e = refl

module _ (d : Document) where
  keeps : bundle_faults d ≡ [] → is_none (first_fault d) ≡ true
  unfolding first_fault
  keeps none = ap (λ fs. is_none (first_of_list fs)) none

  first_is : (f : meaning.BundleFault) → first_fault d ≡ Some f → first_of_list (bundle_faults d) ≡ Some f
  unfolding first_fault
  first_is f e = e

  built_or_not : (b : Bool) → bundle_faults d ≡ [] → has_no_solutions d ≡ b → if_built building_cases (Some d) ≡ (if b then Good d (bundle_of d) else NotBuilt)
  built_or_not b none form =
      ap (λ k. if k && has_no_solutions d then Good d (bundle_of d) else NotBuilt) (keeps none) ∙ ap (λ k. if k then Good d (bundle_of d) else NotBuilt) form

module _ (name bytes : List ℕ) (d : Document) (is : document_of (form_named name) bytes ≡ Some d) where
  read_document : bundle_in building_cases name bytes ≡ unless_faulty (bundle_faults d) (if_built building_cases (Some d))
  read_document = reading name bytes ∙ ap (λ o. unless_faulty (faults_if_read bundle_faults o) (if_built building_cases o)) is

  without_fault : (b : Bool) → bundle_faults d ≡ [] → has_no_solutions d ≡ b → bundle_in building_cases name bytes ≡ (if b then Good d (bundle_of d) else NotBuilt)
  without_fault b none form =
      read_document ∙ ap (λ fs. unless_faulty fs (if_built building_cases (Some d))) none ∙ built_or_not d b none form

  pub good_bundle : (b : code.Bundle) → IsReadFrom d b → IsGoodBundle (bundle_in building_cases name bytes) b
  good_bundle b h = record {
    read = record { document = d; of_document = h.is; rules = h.rules; form = h.form };
    good = without_fault true h.rules h.form;
  }

  first_is_told : (f : meaning.BundleFault) → first_fault d ≡ Some f → bundle_in building_cases name bytes ≡ Faulty (bundle_faults d)
  first_is_told f e = read_document ∙ unless_first (bundle_faults d) f (if_built building_cases (Some d)) (first_is d f e)

  pub stops_document : (s : Status) → StopsDocument d s → StopsBundle (bundle_in building_cases name bytes) s
  stops_document status.Done h = absurd h
  stops_document status.BadWords h = absurd h
  stops_document (status.BadBundle f) h = (bundle_faults d, first_is_told (fault_of f) h, first_is d (fault_of f) h)
  stops_document (status.BadConfig rule at) h = absurd h
  stops_document status.NotValid h = absurd h
  stops_document (status.BadCase fault) h = absurd h
  stops_document (status.NodeLimit used) h = absurd h
  stops_document (status.BigCase entries) h = absurd h
  stops_document (status.TooLong k) h = absurd h
  stops_document (status.ReadFault k) h = absurd h
  stops_document status.WriteFault h = absurd h
  stops_document status.NoMemory h = tt
  stops_document status.Unsupported h = without_fault false h.0 h.1

-- ---- the document itself before its parts

module _ (d : Document) where
  has_table : (b : Bool) → (if b then faults_at Bundle 0 0 (bundle_rules d) else no_table ∷ []) ≡ [] → b ≡ true
  has_table true e = refl
  has_table false e = absurd (let n : no_table ∷ [] ≡ [] = e in cc)

  pub is_table : top_faults d ≡ [] → is_table_value d ≡ true
  unfolding top_faults
  is_table e = has_table (is_table_value d) e

  pub no_top_fault : (o : Option BundleFault) → option_map fault_of o ≡ first_of_list (top_faults d) → o ≡ None → top_faults d ≡ []
  no_top_fault o e none = nothing_first (top_faults d) (sym e ∙ ap (option_map fault_of) none)

  first_of_both : (xs ys : List meaning.BundleFault) (f : meaning.BundleFault) → first_of_list xs ≡ Some f → first_of_list (xs ++ ys) ≡ Some f
  first_of_both [] ys f e = absurd (true≢false (sym (ap is_some e)))
  first_of_both (x ∷ xs) ys f e = e

  pub top_is_first : (o : Option BundleFault) (f : BundleFault) → option_map fault_of o ≡ first_of_list (top_faults d) → o ≡ Some f → first_fault d ≡ Some (fault_of f)
  unfolding first_fault bundle_faults
  top_is_first o f e there =
      first_of_both (top_faults d) (if is_table_value d then faults_of_readers d else []) (fault_of f) (sym e ∙ ap (option_map fault_of) there)

  module _ (top : top_faults d ≡ []) where
    pub those_of_readers : bundle_faults d ≡ faults_of_readers d
    unfolding bundle_faults
    those_of_readers =
        ap (λ fs. fs ++ (if is_table_value d then faults_of_readers d else [])) top
        ∙ ap (λ b. if b then faults_of_readers d else []) (is_table top)

    -- a reader's first fault is the document's
    pub stops_readers : (s : Status) → TellsFirst (faults_of_readers d) s → StopsDocument d s
    unfolding first_fault
    stops_readers status.Done h = absurd h
    stops_readers status.BadWords h = absurd h
    stops_readers (status.BadBundle f) h = ap first_of_list those_of_readers ∙ h
    stops_readers (status.BadConfig rule at) h = absurd h
    stops_readers status.NotValid h = absurd h
    stops_readers (status.BadCase fault) h = absurd h
    stops_readers (status.NodeLimit used) h = absurd h
    stops_readers (status.BigCase entries) h = absurd h
    stops_readers (status.TooLong k) h = absurd h
    stops_readers (status.ReadFault k) h = absurd h
    stops_readers status.WriteFault h = absurd h
    stops_readers status.NoMemory h = tt
    stops_readers status.Unsupported h = absurd h
