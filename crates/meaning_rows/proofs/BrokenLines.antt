-- Bundles that break a rule of the document, the bundle itself or the line.
use Rattle.std.specs.Prelude.{◌≡◌, ℕ, List, [], ◌++◌, Some, None, refl, codes}
use Rattle.meaning.specs.BundlePlaces.{Document', Bundle, Features, Rules}
use Rattle.std.specs.Prelude.{decimal}
use Rattle.meaning.specs.Texts.{flat, numbers_from}
use Rattle.meaning.specs.Documents.{Toml}
use Rattle.meaning.specs.BundleRules.{first_fault_of_bytes}
use Rattle.toml.proofs.OnLiterals.{toml_on_literals}
use Rattle.meaning_rows.proofs.Samples.{smallest_bundle, smallest_toml, one_enumeration_bundle, json, edited, rules_on_literals, fault, fault_of}

-- ---- the document and the bundle itself

empty_file : fault_of [] ≡ Some (fault 1 Document' 0 0 0)
unfolding rules_on_literals
empty_file = refl

list_at_the_top : fault_of (codes "[" ++ smallest_bundle ++ codes "]") ≡ Some (fault 1 Document' 0 0 0)
unfolding rules_on_literals
list_at_the_top = refl

title_left_out : fault_of (edited smallest_bundle (codes ",'title':'T'") (
    codes "")) ≡ Some (fault 2 Bundle 0 0 0)
unfolding rules_on_literals
title_left_out = refl

title_with_newline : fault_of (edited smallest_bundle (codes "'title':'T'") (codes "'title':'T\\n'")) ≡ Some (fault 4 Bundle 0 0 0)
unfolding rules_on_literals
title_with_newline = refl

version_left_out : fault_of (edited smallest_bundle (codes "'bundle':1,") (
    codes "")) ≡ Some (fault 2 Bundle 0 0 0)
unfolding rules_on_literals
version_left_out = refl

version_is_a_text : fault_of (edited smallest_bundle (codes "'bundle':1") (codes "'bundle':'1'")) ≡ Some (fault 2 Bundle 0 0 0)
unfolding rules_on_literals
version_is_a_text = refl

version_is_a_fraction : fault_of (edited smallest_bundle (codes "'bundle':1") (codes "'bundle':1.0")) ≡ Some (fault 2 Bundle 0 0 0)
unfolding rules_on_literals
version_is_a_fraction = refl

version_zero : fault_of (edited smallest_bundle (codes "'bundle':1") (codes "'bundle':0")) ≡ Some (fault 7 Bundle 0 0 0)
unfolding rules_on_literals
version_zero = refl

version_below_zero : fault_of (edited smallest_bundle (codes "'bundle':1") (codes "'bundle':-1")) ≡ Some (fault 7 Bundle 0 0 0)
unfolding rules_on_literals
version_below_zero = refl

version_nine : fault_of (edited smallest_bundle (codes "'bundle':1") (codes "'bundle':9")) ≡ Some (fault 7 Bundle 0 0 0)
unfolding rules_on_literals
version_nine = refl

line_left_out : fault_of (edited smallest_bundle (codes ",'line':{'features':[{'name':'R'}]}") (
    codes "")) ≡ Some (fault 2 Bundle 0 0 0)
unfolding rules_on_literals
line_left_out = refl

line_is_a_list : fault_of (edited smallest_bundle (codes "{'features':[{'name':'R'}]}") (codes "[]")) ≡ Some (fault 2 Bundle 0 0 0)
unfolding rules_on_literals
line_is_a_list = refl

model_is_a_list : fault_of (edited smallest_bundle (codes "}]}]") (codes "}]}],'model':[]")) ≡ Some (fault 2 Bundle 0 0 0)
unfolding rules_on_literals
model_is_a_list = refl

nine_in_toml : first_fault_of_bytes Toml (edited smallest_toml (codes "bundle = 1") (codes "bundle = 9")) ≡ Some (fault 7 Bundle 0 0 0)
unfolding rules_on_literals toml_on_literals
nine_in_toml = refl

-- ---- features

features_left_out : fault_of (edited smallest_bundle (codes "'features':[{'name':'R'}]") (
    codes "")) ≡ Some (fault 2 Features 0 0 0)
unfolding rules_on_literals
features_left_out = refl

no_feature : fault_of (edited smallest_bundle (codes "{'name':'R'}") (
    codes "")) ≡ Some (fault 2 Features 0 0 0)
unfolding rules_on_literals
no_feature = refl

features_are_a_table : fault_of (edited smallest_bundle (codes "[{'name':'R'}]") (codes "{}")) ≡ Some (fault 2 Features 0 0 0)
unfolding rules_on_literals
features_are_a_table = refl

feature_is_a_number : fault_of (edited one_enumeration_bundle (codes "{'name':'A','parent':'R'}") (codes "7")) ≡ Some (fault 2 Features 1 0 0)
unfolding rules_on_literals
feature_is_a_number = refl

feature_named_with : fault_of (edited smallest_bundle (codes "'name':'R'") (codes "'name':'with'")) ≡ Some (fault 3 Features 0 0 0)
unfolding rules_on_literals
feature_named_with = refl

second_feature_of_a_name : fault_of (edited one_enumeration_bundle (codes "'name':'B'") (codes "'name':'A'")) ≡ Some (fault 5 Features 2 0 0)
unfolding rules_on_literals
second_feature_of_a_name = refl

root_with_parent : fault_of (edited one_enumeration_bundle (codes "'name'") (codes "'name':'R','parent'")) ≡ Some (fault 8 Features 0 0 0)
unfolding rules_on_literals
root_with_parent = refl

root_with_kind : fault_of (edited one_enumeration_bundle (codes ":'R'") (codes ":'R','kind':'optional'")) ≡ Some (fault 9 Features 0 0 0)
unfolding rules_on_literals
root_with_kind = refl

feature_without_parent : fault_of (edited one_enumeration_bundle (codes ",'parent':'R'") (
    codes "")) ≡ Some (fault 8 Features 1 0 0)
unfolding rules_on_literals
feature_without_parent = refl

parent_is_later : fault_of (edited one_enumeration_bundle (codes "'parent':'R'") (codes "'parent':'B'")) ≡ Some (fault 8 Features 1 0 0)
unfolding rules_on_literals
parent_is_later = refl

feature_of_unknown_kind : fault_of (edited one_enumeration_bundle (codes "'parent':'R'")
    (codes "'parent':'R','kind':'maybe'")) ≡ Some (fault 9 Features 1 0 0)
unfolding rules_on_literals
feature_of_unknown_kind = refl

title_before_a_feature : fault_of (edited (edited one_enumeration_bundle (codes "'title':'Row'")
    (codes "'title':'Row\\n'"))
    (codes "'parent':'R'")
    (codes "'parent':'R','kind':'maybe'")) ≡ Some (fault 4 Bundle 0 0 0)
unfolding rules_on_literals
title_before_a_feature = refl

-- a feature under the root, with a number in its name
abbrev numbered_feature : ℕ → List ℕ
numbered_feature n = json (codes ",{'name':'F") ++ decimal n ++ json (codes "','parent':'R'}")

abbrev with_features : ℕ → List ℕ
with_features n = edited smallest_bundle (codes "{'name':'R'}") (codes "{'name':'R'}" ++ flat numbered_feature (numbers_from 0 n))

feature_257 : fault_of (with_features 256) ≡ Some (fault 6 Features 256 0 0)
unfolding rules_on_literals
feature_257 = refl

features_256 : fault_of (with_features 255) ≡ None
unfolding rules_on_literals
features_256 = refl

-- ---- rules of the line

-- the bundle of one enumeration, whose line has these rules
abbrev with_rules : List ℕ → List ℕ
with_rules s = edited one_enumeration_bundle (codes "'parent':'R'}]}") (codes "'parent':'R'}],'rules':" ++ s ++ codes "}")

two_members_of_a_rule : fault_of (with_rules (codes "[{'requires':['A','B'],'holds':'A'}]")) ≡ Some (fault 10 Rules 0 0 0)
unfolding rules_on_literals
two_members_of_a_rule = refl

requires_of_one_feature : fault_of (with_rules (codes "[{'requires':['A']}]")) ≡ Some (fault 10 Rules 0 0 0)
unfolding rules_on_literals
requires_of_one_feature = refl

requires_of_three_features : fault_of (with_rules (codes "[{'requires':['A','B','R']}]")) ≡ Some (fault 10 Rules 0 0 0)
unfolding rules_on_literals
requires_of_three_features = refl

excludes_of_an_unknown_feature : fault_of (with_rules (codes "[{'excludes':['A','Q']}]")) ≡ Some (fault 10 Rules 0 0 0)
unfolding rules_on_literals
excludes_of_an_unknown_feature = refl

requires_of_a_number : fault_of (with_rules (codes "[{'requires':['A',5]}]")) ≡ Some (fault 2 Rules 0 0 0)
unfolding rules_on_literals
requires_of_a_number = refl

requires_is_a_text : fault_of (with_rules (codes "[{'requires':'A'}]")) ≡ Some (fault 2 Rules 0 0 0)
unfolding rules_on_literals
requires_is_a_text = refl

rule_that_ends_early : fault_of (with_rules (codes "[{'holds':'A &'}]")) ≡ Some (fault 11 Rules 0 0 3)
unfolding rules_on_literals
rule_that_ends_early = refl

rule_over_an_unknown_feature : fault_of (with_rules (codes "[{'holds':'Q'}]")) ≡ Some (fault 12 Rules 0 0 0)
unfolding rules_on_literals
rule_over_an_unknown_feature = refl

holds_is_a_number : fault_of (with_rules (codes "[{'holds':5}]")) ≡ Some (fault 2 Rules 0 0 0)
unfolding rules_on_literals
holds_is_a_number = refl

two_members_before_the_expression : fault_of (with_rules (codes "[{'requires':['A'],'holds':'A &'}]")) ≡ Some (fault 10 Rules 0 0 0)
unfolding rules_on_literals
two_members_before_the_expression = refl

rules_are_a_number : fault_of (with_rules (codes "5")) ≡ Some (fault 2 Rules 0 0 0)
unfolding rules_on_literals
rules_are_a_number = refl

rule_is_a_number : fault_of (with_rules (codes "[5]")) ≡ Some (fault 2 Rules 0 0 0)
unfolding rules_on_literals
rule_is_a_number = refl

two_rules : fault_of (with_rules (codes "[{'excludes':['A','B']},{'holds':'A => B'}]")) ≡ None
unfolding rules_on_literals
two_rules = refl

newline_in_a_rule : fault_of (with_rules (codes "[{'holds':'A\\n'}]")) ≡ Some (fault 4 Rules 0 0 0)
unfolding rules_on_literals
newline_in_a_rule = refl

rule_without_a_member : fault_of (with_rules (codes "[{}]")) ≡ Some (fault 10 Rules 0 0 0)
unfolding rules_on_literals
rule_without_a_member = refl
