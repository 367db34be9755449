-- A bundle document without a fault has texts, names and few elements; so its bundle fits, where its templates do.
use Rattle.std.proofs.Common.{◌≡◌, refl, sym, ap, ◌∙◌, subst, ℕ, ◌+◌, ◌≤◌, List, [], ◌∷◌, ◌++◌, map, length, take, Bool, true, false, not, Option, Some, None, arith}
use Rattle.std.specs.Prelude.{codes, nat_le, unwrap_or, option_and_then, if◌then◌else◌, bytes_eq}
use Rattle.std.specs.List.{list_all, enumerate_from}
use Rattle.std.proofs.lemmas.Bool.Decides.{nat_tests}
use Rattle.std.proofs.lemmas.List.{length-map}
use Rattle.meaning.specs.Texts.{flat, numbered, is_text, is_name, each_of}
use Rattle.meaning.specs.Documents.{Document, Members, no_members, member, as_text, as_table, entries, value_of, text_at, list_at, table_at}
use Rattle.meaning.specs.Features.{feature_names, line_of}
use Rattle.meaning.specs.Models.{model_of}
use Rattle.meaning.specs.CaseReading.{bad_names}
use Rattle.meaning.specs.Derivation.{bundle_of}
use Rattle.meaning.specs.BundlePlaces.{Part, Bundle, Features, Elements, Broken, requires, faults_at, faults_of_items, name_in, is_among, text_within, member_within, is_table_value}
use Rattle.meaning.specs.BundleRules.{no_table, bundle_has_form, bundle_rules, top_faults, faults_of_readers, bundle_faults}
use Rattle.meaning.specs.LineRules.{line_in, features_in, feature_names_in, is_within, feature_has_form, parent_is_earlier, kind_is_known, feature_form, feature_rules, has_features, feature_faults, line_faults, line_rule_faults}
use Rattle.meaning.specs.ModelRules.{ModelContext, context_of, model_in, names_in, label_text, element_has_form, element_texts_fit, element_form, element_rules, is_new_name, faults_in_list, model_faults}
use Rattle.meaning.specs.TemplateRules.{template_faults}
use Rattle.meaning.proofs.CutTrees.{Each}
use Rattle.meaning.proofs.EmptyLists.{both_true, few_items, all_mapped}
use Rattle.meaning.proofs.FirstFaults.{nothing_left}
use Rattle.meaning.proofs.NewNames.{new_names}
use Rattle.meaning.proofs.NameTexts.{name_is_text}
use Rattle.meaning.proofs.EachMembers.{each_by}
use Rattle.meaning.proofs.MappedLists.{map_of_map}
use Rattle.meaning.proofs.ProperNames.{proper_names}
use Rattle.annotated_model.proofs.TypeLaws.{where_formed_none, requires_none}
use Rattle.annotated_model.proofs.RulesKept.{no_faults_at}
use Rattle.lifting.specs.FittingTemplates.{TemplatesFit}
use Rattle.annotated_model.specs.ModelTexts.{ModelHasTexts}
use Rattle.annotated_model.proofs.TextsRead.{model_has_texts}
use Rattle.annotated_model.proofs.ModelLaws.{model_keeps_rules}
use Rattle.lifting.specs.FittingBundles.{BundleFits}
use Rattle.meaning.proofs.Lists.{each_of_all}
use Rattle.meaning.proofs.Pairs.{each_of_map}

-- ---- lists without a fault

at_most : (a b : ℕ) → nat_le a b ≡ true → a ≤ b
at_most a b e = grind (arith, nat_tests)

-- each item breaks no rule at its place
each_unbroken : (part : Part) (rules : ℕ × Document → List Broken) (k : ℕ) (ds : List Document) → flat (λ x. faults_at part x.0 0 (rules x)) (enumerate_from k ds) ≡ []
    → Each (λ x. rules x ≡ []) (enumerate_from k ds)
each_unbroken part rules k [] e = tt
each_unbroken part rules k (d ∷ ds) e =
    let parts = nothing_left (faults_at part k 0 (rules (k, d))) (flat (λ x. faults_at part x.0 0 (rules x)) (enumerate_from (k + 1) ds)) e in
    (no_faults_at part k 0 (rules (k, d)) parts.0, each_unbroken part rules (k + 1) ds parts.1)

each_without_number : (P : Document → Type 0) (k : ℕ) (ds : List Document) → Each (λ x. P x.1) (enumerate_from k ds) → Each P ds
each_without_number P k [] h = tt
each_without_number P k (d ∷ ds) h = (h.0, each_without_number P (k + 1) ds h.1)

pass_all : {A : Type 0} (test : A → Bool) (xs : List A) → Each (λ x. test x ≡ true) xs → list_all test xs ≡ true
pass_all test [] h = refl
pass_all test (x ∷ xs) h = rw (h.0, pass_all test xs h.1) refl

-- so the list is no longer than its limit
few_where_within : (limit : ℕ) (ds : List Document) → Each (λ x. is_within limit x.0 ≡ true) (numbered ds) → length ds ≤ limit
few_where_within limit ds h =
    at_most (length ds) limit (ap (λ n. nat_le n limit) (omega arith) ∙ sym (few_items limit 0 ds (omega arith)) ∙ pass_all (λ x. is_within limit x.0) (numbered ds) h)

-- ---- the names of the features

record FeatureIsNamed (names : List (List ℕ)) (f : ℕ × Document) : Type 0 where
  name : is_name (name_in f.1) ≡ true
  new : is_new_name names f.0 (name_in f.1) ≡ true
  within : is_within 256 f.0 ≡ true

feature_named : (names : List (List ℕ)) (f : ℕ × Document) → feature_rules names f ≡ [] → FeatureIsNamed names f
unfolding feature_rules
feature_named names f e =
    let form = (where_formed_none (feature_form names f) (requires 8 (parent_is_earlier names f.0 f.1) ++ requires 9 (kind_is_known f.0 f.1)) e).0 in
    let one = requires 2 (feature_has_form f.1) in
    let two = requires 3 (is_name (name_in f.1)) in
    let three = requires 5 (not (is_among (take f.0 names) (name_in f.1))) in
    let four = requires 6 (is_within 256 f.0) in
    let last = nothing_left ((one ++ two) ++ three) four form in
    let third = nothing_left (one ++ two) three last.0 in
    let second = nothing_left one two third.0 in
    record { name = requires_none 3 _ second.1; new = requires_none 5 _ third.1; within = requires_none 6 _ last.1 }

module _ (bundle : Document) (none : line_faults bundle ≡ []) where
  each_named : Each (FeatureIsNamed (feature_names_in bundle)) (numbered (features_in bundle))
  unfolding line_faults
  each_named =
      each_by (λ f. feature_rules (feature_names_in bundle) f ≡ []) (FeatureIsNamed (feature_names_in bundle)) (feature_named (feature_names_in bundle)) (numbered (features_in bundle))
      (each_unbroken Features (feature_rules (feature_names_in bundle)) 0 (features_in bundle)
      (nothing_left (faults_at Features 0 0 (requires 2 (has_features (line_in bundle)))) (faults_of_items Features (feature_rules (feature_names_in bundle)) (features_in bundle))
      (nothing_left (feature_faults bundle) (line_rule_faults bundle) none).0).1)

  all_names : list_all is_name (feature_names_in bundle) ≡ true
  all_names =
      sym (all_mapped name_in is_name (features_in bundle))
      ∙ pass_all (λ d. is_name (name_in d)) (features_in bundle)
      (each_without_number (λ d. is_name (name_in d) ≡ true) 0 (features_in bundle) (each_by (FeatureIsNamed (feature_names_in bundle)) _ (λ f h. h.name) (numbered (features_in bundle)) each_named))

  all_new : (k : ℕ) (ds : List Document) → Each (FeatureIsNamed (feature_names_in bundle)) (enumerate_from k ds)
      → list_all (λ x. is_new_name (feature_names_in bundle) x.0 x.1) (enumerate_from k (map name_in ds)) ≡ true
  all_new k [] h = refl
  all_new k (d ∷ ds) h = rw (h.0.new, all_new (k + 1) ds h.1) refl

  pub names_are_proper : bad_names (feature_names_in bundle) ≡ []
  names_are_proper = proper_names (feature_names_in bundle) all_names (sym (new_names (feature_names_in bundle)) ∙ all_new 0 (features_in bundle) each_named)

  pub names_are_few : length (feature_names_in bundle) ≤ 256
  names_are_few =
      subst (λ n. n ≤ 256) (sym (length-map (features_in bundle) name_in))
      (few_where_within 256 (features_in bundle) (each_by (FeatureIsNamed (feature_names_in bundle)) _ (λ f h. h.within) (numbered (features_in bundle)) each_named))

pub names_of_line : (d : Document) → feature_names (line_of d) ≡ feature_names_in d
unfolding line_of
names_of_line d = map_of_map (λ f. f.name) _ (features_in d)

-- ---- the bundle

module _ (d : Document) (none : bundle_faults d ≡ []) where
  parts : (top_faults d ≡ []) × ((if is_table_value d then faults_of_readers d else []) ≡ [])
  unfolding bundle_faults
  parts = nothing_left (top_faults d) (if is_table_value d then faults_of_readers d else []) none

  record TopIsRead : Type 0 where
    title : is_text (text_at (codes "title") d) ≡ true
    readers : faults_of_readers d ≡ []

  top_read : TopIsRead
  unfolding top_faults
  top_read = go (is_table_value d) parts.0 parts.1
    where
      go : (b : Bool) → (if b then faults_at Bundle 0 0 (bundle_rules d) else no_table ∷ []) ≡ [] → (if b then faults_of_readers d else []) ≡ [] → TopIsRead
      go true t r =
          let rules = no_faults_at Bundle 0 0 (bundle_rules d) t in
          let last = nothing_left (requires 2 (bundle_has_form d) ++ requires 4 (member_within 512 (codes "title") d)) _ rules in
          let title = requires_none 4 _ (nothing_left (requires 2 (bundle_has_form d)) _ last.0).1 in
          record { title = (both_true (is_text (text_at (codes "title") d)) _ title).0; readers = r }
      go false t r = cc

  readers_parts : ((line_faults d ≡ []) × (model_faults (feature_names_in d) d ≡ [])) × (template_faults (model_of (feature_names_in d) d) d ≡ [])
  readers_parts =
      let last = nothing_left (line_faults d ++ model_faults (feature_names_in d) d) (template_faults (model_of (feature_names_in d) d) d) top_read.readers in
      (nothing_left (line_faults d) (model_faults (feature_names_in d) d) last.0, last.1)

  pub read_bundle_fits : TemplatesFit (bundle_of d).templates → BundleFits (bundle_of d)
  unfolding bundle_of
  read_bundle_fits fit = record {
    title = top_read.title;
    names = ap bad_names (names_of_line d) ∙ names_are_proper d readers_parts.0.0;
    few_features = subst (λ ns. length ns ≤ 256) (sym (names_of_line d)) (names_are_few d readers_parts.0.0);
    model = subst (λ ns. ModelHasTexts (model_of ns d)) (sym (names_of_line d)) (model_has_texts (feature_names_in d) d readers_parts.0.1);
    few_elements = subst (λ ns. length (model_of ns d).elements ≤ 2048) (sym (names_of_line d)) (model_keeps_rules (feature_names_in d) d readers_parts.0.1).few_elements;
    templates = fit;
  }
