-- Two builds of one bundle print the same bytes, whatever node limit each had.
use Rattle.std.proofs.Common.{◌≡◌, refl, sym, ap, ◌∙◌, List, [], ◌∷◌, Option, Some, None, Bool, true, false, ℕ}
use Rattle.std.specs.Prelude.{◌&&◌, if◌then◌else◌, is_none}
use Rattle.meaning.specs.Documents.{Document, document_of}
use Rattle.meaning.specs.BundlePlaces.{BundleFault}
use Rattle.meaning.specs.BundleRules.{bundle_faults, first_fault}
use Rattle.meaning.specs.BuiltForms.{has_no_solutions}
use Rattle.meaning.specs.Stages.{built_form, faults_of_bytes}
use Rattle.meaning.specs.Derivation.{Bundle, bundle_of}
use Rattle.meaning.specs.Words.{Build, is_toml, form_named}
use Rattle.meaning.specs.Answers.{BundleReading, Faulty, NotBuilt, Good, if_built, unless_faulty, AfterBundle, Prints, IsAnswer, IsBuildAnswer, ShowsCase, bundle_in, is_unread}
use Rattle.meaning.proofs.SameBuilds.{two_builds_agree}
use Rattle.workbench.specs.BuildingStage.{building_cases}
use Rattle.workbench.proofs.DerivedProducts.{is_built}

-- the bundle is that of a document that breaks no rule
record IsSound (b : Bundle) : Type 0 where
  pub document : Document
  pub of_document : b ≡ bundle_of document
  pub sound : first_fault document ≡ None

none_there : {A : Type 0} (o : Option A) → is_none o ≡ true → o ≡ None
none_there None e = refl
none_there (Some x) e = absurd (let n = e in cc)

first_true : (a b : Bool) → (a && b) ≡ true → a ≡ true
first_true true b e = refl
first_true false b e = absurd (let n = e in cc)

good_one : (b : Bundle) (d : Document) (form : Bool) → built_form has_no_solutions d ≡ form → (d' : Document)
    → (if form then Good d (bundle_of d) else NotBuilt) ≡ Good d' b → IsSound b
good_one b d true builds d' e = record {
  document = d;
  of_document = let n = e in cc;
  sound = none_there (first_fault d) (first_true (is_none (first_fault d)) (has_no_solutions d) builds);
}
good_one b d false builds d' e = absurd (let n = e in cc)

of_document : (b : Bundle) (o : Option Document) (d' : Document) → if_built building_cases o ≡ Good d' b → IsSound b
of_document b None d' e = absurd (let n = e in cc)
of_document b (Some d) d' e = good_one b d (built_form has_no_solutions d) refl d' e

of_faults : (b : Bundle) (fs : List BundleFault) (o : Option Document) (d' : Document) → unless_faulty fs (if_built building_cases o) ≡ Good d' b → IsSound b
of_faults b [] o d' e = of_document b o d' e
of_faults b (f ∷ fs) o d' e = absurd (let n = e in cc)

of_unread : (b : Bundle) (unread : Bool) (fs : List BundleFault) (o : Option Document) (d' : Document)
    → (if unread then NotBuilt else unless_faulty fs (if_built building_cases o)) ≡ Good d' b → IsSound b
of_unread b true fs o d' e = absurd (let n = e in cc)
of_unread b false fs o d' e = of_faults b fs o d' e

read_soundly : (name bytes : List ℕ) (d : Document) (b : Bundle) → bundle_in building_cases name bytes ≡ Good d b → IsSound b
unfolding bundle_in
read_soundly name bytes d b e =
    of_unread b (is_unread building_cases name) (faults_of_bytes bundle_faults (form_named name) bytes) (document_of (form_named name) bytes) d e

same_after : (name bytes : List ℕ) (r : BundleReading) → bundle_in building_cases name bytes ≡ r → (one other : List ℕ)
    → AfterBundle r (Prints one) (λ d b. IsBuildAnswer building_cases b ShowsCase (Prints one))
    → AfterBundle r (Prints other) (λ d b. IsBuildAnswer building_cases b ShowsCase (Prints other)) → one ≡ other
same_after name bytes (Faulty fs) good one other h i = absurd (let x = h.2 in cc)
same_after name bytes NotBuilt good one other h i = absurd (let x = h in cc)
same_after name bytes (Good d b) good one other h i =
    let s = read_soundly name bytes d b good in
    two_builds_agree b s.document s.of_document s.sound one other
    (is_built b (Prints one) one h refl).build (is_built b (Prints other) other i refl).build

-- what two builds of one file print is the same; a file is read by its name and its bytes alone
pub builds_print_the_same : (name bytes one other : List ℕ) → IsAnswer building_cases (Build name) (bytes ∷ []) (Prints one)
    → IsAnswer building_cases (Build name) (bytes ∷ []) (Prints other) → one ≡ other
unfolding IsAnswer
builds_print_the_same name bytes one other h i = same_after name bytes (bundle_in building_cases name bytes) refl one other h i
