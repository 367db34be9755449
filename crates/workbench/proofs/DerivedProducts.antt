-- What `derive` answers to a case that `build` wrote is what `product` answers to its bundle, for every configuration file of any name.
use Rattle.std.proofs.Common.{◌≡◌, refl, sym, ap, ◌∙◌, subst, ℕ, ◌≤◌, List, [], ◌∷◌, length, Bool, true, false, arith}
use Rattle.std.specs.Prelude.{nat_lt, if◌then◌else◌}
use Rattle.std.proofs.lemmas.Bool.Decides.{nat_tests}
use Rattle.meaning.specs.Documents.{Document}
use Rattle.meaning.specs.Features.{feature_names, is_valid}
use Rattle.meaning.specs.CaseReading.{CaseReading, Is, read_case}
use Rattle.meaning.specs.Configurations.{Configuration, Refused, World}
use Rattle.meaning.specs.Derivation.{Bundle, direct_at}
use Rattle.meaning.specs.Entries.{entries_at, most_entries}
use Rattle.meaning.specs.Statuses.{BigCase}
use Rattle.meaning.specs.Words.{Build, Derive, Product}
use Rattle.meaning.specs.Stages.{fault_of_case}
use Rattle.meaning.specs.Answers.{Answer, Stage, Prints, refusal, of_derivation, BundleReading, Faulty, NotBuilt, Good, AfterBundle, AfterConfiguration, AfterValid, IsBuilt, IsBuildAnswer, no_world, too_many_entries, too_many_bytes, built, ShowsCase, IsAnswer, bundle_in, is_unread, configured, product_answer}
use Rattle.meaning.proofs.AnswerLaws.{derive_is_product}
use Rattle.workbench.specs.BuildingStage.{building_cases}
use Rattle.lifting.proofs.ProductEntries.{few_at_each}

-- ---- a product has one answer

valid_once : (v : Bool) (x a p : Answer) → AfterValid v a (a ≡ x) → AfterValid v p (p ≡ x) → a ≡ p
valid_once true x a p e f = e ∙ sym f
valid_once false x a p e f = e ∙ sym f

configured_once : (unread : Bool) (c : Configuration) (b : Bundle) (a p : Answer)
    → AfterConfiguration unread c a (λ w. AfterValid (is_valid b.line w) a (a ≡ product_answer building_cases b w))
    → AfterConfiguration unread c p (λ w. AfterValid (is_valid b.line w) p (p ≡ product_answer building_cases b w)) → a ≡ p
configured_once true c b a p e f = e ∙ sym f
configured_once false (Refused fault) b a p e f = e ∙ sym f
configured_once false (World w) b a p e f = valid_once (is_valid b.line w) (product_answer building_cases b w) a p e f

module _ (bundle bytes name chosen : List ℕ) (d : Document) (b : Bundle) (good : bundle_in building_cases bundle bytes ≡ Good d b) where
  abbrev after_bundle : BundleReading → Answer → Type 0
  after_bundle r a = AfterBundle r a (λ d' b'.
      AfterConfiguration (is_unread building_cases name) (configured (feature_names b'.line) name chosen) a (λ w.
      AfterValid (is_valid b'.line w) a (a ≡ product_answer building_cases b' w)))

  good_answer : (a : Answer) → IsAnswer building_cases (Product bundle name) (bytes ∷ chosen ∷ []) a → after_bundle (Good d b) a
  unfolding IsAnswer
  good_answer a h = subst (λ r. after_bundle r a) good h

  one_answer : (a p : Answer) → IsAnswer building_cases (Product bundle name) (bytes ∷ chosen ∷ []) a
      → IsAnswer building_cases (Product bundle name) (bytes ∷ chosen ∷ []) p → a ≡ p
  one_answer a p h i =
      configured_once (is_unread building_cases name) (configured (feature_names b.line) name chosen) b a p (good_answer a h) (good_answer p i)

-- ---- the entries of one product of a built bundle are few

-- the stage without its count of entries
abbrev uncounted : Stage
uncounted = record building_cases { counts_entries = false }

module _ (b : Bundle) (few : (w : List Bool) → is_valid b.line w ≡ true → length (entries_at b w) ≤ most_entries) where
  not_more : (n : ℕ) → n ≤ most_entries → nat_lt most_entries n ≡ false
  not_more n h = grind (arith, nat_tests)

  no_count : (w : List Bool) → is_valid b.line w ≡ true → product_answer building_cases b w ≡ of_derivation (direct_at b w)
  no_count w valid = ap (λ t. if t then refusal (BigCase true) else of_derivation (direct_at b w)) (not_more (length (entries_at b w)) (few w valid))

  counted_at : (w : List Bool) (a : Answer) (v : Bool) → is_valid b.line w ≡ v → AfterValid v a (a ≡ product_answer uncounted b w) → AfterValid v a (a ≡ product_answer building_cases b w)
  counted_at w a true valid h = h ∙ sym (no_count w valid)
  counted_at w a false other h = h

  counted : (unread : Bool) (c : Configuration) (a : Answer) → AfterConfiguration unread c a (λ w. AfterValid (is_valid b.line w) a (a ≡ product_answer uncounted b w))
      → AfterConfiguration unread c a (λ w. AfterValid (is_valid b.line w) a (a ≡ product_answer building_cases b w))
  counted true c a h = h
  counted false (Refused fault) a h = h
  counted false (World w) a h = counted_at w a (is_valid b.line w) refl h

  module _ (bundle bytes name chosen : List ℕ) (d : Document) (good : bundle_in building_cases bundle bytes ≡ Good d b) (a : Answer) where
    abbrev without_count : BundleReading → Type 0
    without_count r = AfterBundle r a (λ d' b'.
        AfterConfiguration (is_unread uncounted name) (configured (feature_names b'.line) name chosen) a (λ w.
        AfterValid (is_valid b'.line w) a (a ≡ product_answer uncounted b' w)))

    good_uncounted : bundle_in uncounted bundle bytes ≡ Good d b
    unfolding bundle_in
    good_uncounted = good

    product_counted : IsAnswer uncounted (Product bundle name) (bytes ∷ chosen ∷ []) a → IsAnswer building_cases (Product bundle name) (bytes ∷ chosen ∷ []) a
    unfolding IsAnswer
    product_counted h =
        let here : without_count (Good d b) = subst (λ r. without_count r) good_uncounted h in
        subst (λ r. after_bundle bundle bytes name chosen d b good r a) (sym good)
        (counted (is_unread building_cases name) (configured (feature_names b.line) name chosen) a here)

    derive_uncounted : (case built_case : List ℕ) → IsAnswer building_cases (Derive case name) (built_case ∷ chosen ∷ []) a → IsAnswer uncounted (Derive case name) (built_case ∷ chosen ∷ []) a
    unfolding IsAnswer
    derive_uncounted case built_case h = h

built_uncounted : (b : Bundle) (case : List ℕ) → IsBuilt building_cases b case → IsBuilt uncounted b case
built_uncounted b case i = record { product = i.product; few = λ h. absurd (let n : false ≡ true = h in cc); build = i.build; short = i.short }

-- ---- a case that was built

pub is_built : (b : Bundle) (a : Answer) (case : List ℕ) → IsBuildAnswer building_cases b ShowsCase a → a ≡ Prints case → IsBuilt building_cases b case
is_built b a case (no_world n) e = absurd (let x = e in cc)
is_built b a case (too_many_entries c v m) e = absurd (let x = e in cc)
is_built b a case (too_many_bytes bytes c v f i m) e = absurd (let x = e in cc)
is_built b a case (built {printed = printed} bytes i shows) e =
    let same : case ≡ bytes = cc (e, shows) in subst (λ x. IsBuilt building_cases b x) (sym same) i

no_faults : (case : List ℕ) (r : CaseReading) → read_case case ≡ r → fault_of_case r ≡ [] → fault_of_case (read_case case) ≡ []
no_faults case r e f = ap fault_of_case e ∙ f

module _ (bundle bytes case name chosen : List ℕ) (a p : Answer) where
  of_reading : (r : BundleReading) (built_case : List ℕ) → bundle_in building_cases bundle bytes ≡ r
      → AfterBundle r (Prints built_case) (λ d b. IsBuildAnswer building_cases b ShowsCase (Prints built_case))
      → IsAnswer building_cases (Derive case name) (built_case ∷ chosen ∷ []) a
      → IsAnswer building_cases (Product bundle name) (bytes ∷ chosen ∷ []) p → a ≡ p
  of_reading (Faulty fs) built_case good h i j = absurd (let x = h.2 in cc)
  of_reading NotBuilt built_case good h i j = absurd (let x = h in cc)
  of_reading (Good d b) built_case good h i j =
      let is = is_built b (Prints built_case) built_case h refl in
      let few = few_at_each building_cases b built_case is refl in
      one_answer bundle bytes name chosen d b good a p
      (product_counted b few bundle bytes name chosen d good a
      (derive_is_product uncounted bundle bytes case built_case name chosen d b a refl (good_uncounted b few bundle bytes name chosen d good a) (built_uncounted b built_case is)
      (no_faults built_case (Is is.build.document) is.build.reads refl) (derive_uncounted b few bundle bytes name chosen d good a case built_case i))) j

  pub derive_agrees_with_product : (built_case : List ℕ) → IsAnswer building_cases (Build bundle) (bytes ∷ []) (Prints built_case)
      → IsAnswer building_cases (Derive case name) (built_case ∷ chosen ∷ []) a
      → IsAnswer building_cases (Product bundle name) (bytes ∷ chosen ∷ []) p → a ≡ p
  unfolding IsAnswer
  derive_agrees_with_product built_case h i j = of_reading (bundle_in building_cases bundle bytes) built_case refl h i j
