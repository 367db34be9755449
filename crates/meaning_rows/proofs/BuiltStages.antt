-- Which bundles the program builds, and which faults it names, computed by the check.
use Rattle.std.specs.Prelude.{◌++◌, ◌≡◌, ℕ, List, [], ◌∷◌, Bool, true, false, Option, Some, refl, codes, option_map}
use Rattle.meaning.specs.Documents.{Json, document_of}
use Rattle.meaning.specs.Derivation.{bundle_of}
use Rattle.meaning.specs.BundlePlaces.{Features, Types, BundleFault}
use Rattle.meaning.specs.BundleRules.{no_table}
use Rattle.meaning.specs.Answers.{bundle_in, Faulty, Good}
use Rattle.meaning.specs.Stages.{no_case_faults, building_templates, complete, plain_words}
use Rattle.meaning.specs.BuiltForms.{has_no_solutions}
use Rattle.meaning_rows.proofs.Samples.{json, smallest_bundle, one_enumeration_bundle, alternatives_bundle, pairs_bundle, nested_bundle, system_bundle, meaning_on_literals, rules_on_literals}

without_solutions : List ℕ → Option Bool
without_solutions bundle = option_map has_no_solutions (document_of Json bundle)

smallest_has_none : without_solutions smallest_bundle ≡ Some true
unfolding meaning_on_literals without_solutions has_no_solutions smallest_bundle
smallest_has_none = refl

alternatives_has_none : without_solutions alternatives_bundle ≡ Some true
unfolding meaning_on_literals without_solutions has_no_solutions alternatives_bundle
alternatives_has_none = refl

pairs_has_none : without_solutions pairs_bundle ≡ Some true
unfolding meaning_on_literals without_solutions has_no_solutions pairs_bundle
pairs_has_none = refl

nested_has_none : without_solutions nested_bundle ≡ Some true
unfolding meaning_on_literals without_solutions has_no_solutions nested_bundle
nested_has_none = refl

system_has_one : without_solutions system_bundle ≡ Some false
unfolding meaning_on_literals without_solutions has_no_solutions system_bundle
system_has_one = refl

empty_file_has_no_table : bundle_in (building_templates no_case_faults) (codes "f.json") [] ≡ Faulty (no_table ∷ [])
unfolding meaning_on_literals bundle_in
empty_file_has_no_table = refl

enumeration_is_built : option_map (λ d. bundle_in (building_templates no_case_faults) (codes "f.json") one_enumeration_bundle) (document_of Json one_enumeration_bundle)
    ≡ option_map (λ d. Good d (bundle_of d)) (document_of Json one_enumeration_bundle)
unfolding rules_on_literals bundle_in has_no_solutions one_enumeration_bundle
enumeration_is_built = refl

-- ---- which faults are told: a broken rule of the line, and one of the model beside it

unfoldable broken_line_bundle : List ℕ
broken_line_bundle = json (
    codes "{'bundle':1,'title':'Row','line':{'features':[{'name':'R'},{'name':'A','parent':'R'},{'name':'A',"
    ++ codes "'parent':'R'}]},'model':{'types':[{'name':'N'},{'name':'N'}]},'templates':[{'name':'Top',"
    ++ codes "'nodes':[{'id':'g','kind':'goal','text':'All'}]}]}")

unfoldable broken_model_bundle : List ℕ
broken_model_bundle = json (
    codes "{'bundle':1,'title':'Row','line':{'features':[{'name':'R'},{'name':'A','parent':'R'}]},"
    ++ codes "'model':{'types':[{'name':'N'},{'name':'N'}]},'templates':[{'name':'Top','nodes':[{'id':'g',"
    ++ codes "'kind':'goal','text':'All'}]}]}")

repeated_feature : BundleFault
repeated_feature = record { rule = 5; part = Features; item = 2; sub = 0; at = 0 }

repeated_type : BundleFault
repeated_type = record { rule = 5; part = Types; item = 1; sub = 0; at = 0 }

both_are_told : bundle_in (building_templates no_case_faults) (codes "f.json") broken_line_bundle ≡ Faulty (repeated_feature ∷ repeated_type ∷ [])
unfolding rules_on_literals bundle_in broken_line_bundle repeated_feature repeated_type
both_are_told = refl

first_is_told_at_last : bundle_in (complete plain_words) (codes "f.json") broken_line_bundle ≡ Faulty (repeated_feature ∷ [])
unfolding rules_on_literals bundle_in broken_line_bundle repeated_feature
first_is_told_at_last = refl

broken_model_is_told : bundle_in (building_templates no_case_faults) (codes "f.json") broken_model_bundle ≡ Faulty (repeated_type ∷ [])
unfolding rules_on_literals bundle_in broken_model_bundle repeated_type
broken_model_is_told = refl

alternatives_are_built : option_map (λ d. bundle_in (building_templates no_case_faults) (codes "f.json") alternatives_bundle) (document_of Json alternatives_bundle)
    ≡ option_map (λ d. Good d (bundle_of d)) (document_of Json alternatives_bundle)
unfolding rules_on_literals bundle_in has_no_solutions alternatives_bundle
alternatives_are_built = refl

nested_is_built : option_map (λ d. bundle_in (building_templates no_case_faults) (codes "f.json") nested_bundle) (document_of Json nested_bundle)
    ≡ option_map (λ d. Good d (bundle_of d)) (document_of Json nested_bundle)
unfolding rules_on_literals bundle_in has_no_solutions nested_bundle
nested_is_built = refl
