-- Bundles whose model breaks a rule, from its types to the elements that own systems.
use Rattle.std.specs.Prelude.{◌≡◌, ℕ, List, ◌++◌, Some, None, refl, codes}
use Rattle.meaning.specs.BundlePlaces.{Types, Kinds, Labels, Elements, Links, Systems, States, Transitions, Owners}
use Rattle.std.specs.Prelude.{decimal}
use Rattle.meaning.specs.Texts.{flat, numbers_from}
use Rattle.meaning_rows.proofs.Samples.{one_enumeration_bundle, nested_bundle, system_bundle, json, edited, repeated, rules_on_literals, fault, fault_of, framed, three_features, one_enumeration}

-- ---- types, link kinds and labels

type_under_itself : fault_of (edited one_enumeration_bundle (codes "'types':[{'name'")
    (codes "'types':[{'name':'N','parent'")) ≡ Some (fault 13 Types 0 0 0)
unfolding rules_on_literals
type_under_itself = refl

attribute_twice : fault_of (edited one_enumeration_bundle (codes ":'N'") (codes ":'N','attributes':['a','a']")) ≡ Some (fault 5 Types 0 0 0)
unfolding rules_on_literals
attribute_twice = refl

attribute_inherited_twice : fault_of (edited one_enumeration_bundle (codes ":'N'")
    (codes ":'N'},{'name':'P','attributes':['a']},{'name':'Q','parent':'P','attributes':['b','a']")) ≡ Some (fault 5 Types 2 0 0)
unfolding rules_on_literals
attribute_inherited_twice = refl

attribute_named_name : fault_of (edited one_enumeration_bundle (codes ":'N'") (codes ":'N','attributes':['name']")) ≡ Some (fault 3 Types 0 0 0)
unfolding rules_on_literals
attribute_named_name = refl

link_kind_to_an_unknown_type : fault_of (edited one_enumeration_bundle (codes "'to':'N'") (codes "'to':'Q'")) ≡ Some (fault 14 Kinds 0 0 0)
unfolding rules_on_literals
link_kind_to_an_unknown_type = refl

label_is_a_number : fault_of (edited system_bundle (codes "'bad'") (codes "'bad',5")) ≡ Some (fault 2 Labels 1 0 0)
unfolding rules_on_literals
label_is_a_number = refl

label_twice : fault_of (edited system_bundle (codes "'labels':[") (codes "'labels':['bad',")) ≡ Some (fault 5 Labels 1 0 0)
unfolding rules_on_literals
label_twice = refl

-- a type with 20 attributes, and one below it with its own
abbrev numbered_attribute : List ℕ → ℕ → List ℕ
numbered_attribute letter n = json (codes ",'") ++ letter ++ decimal n ++ json (codes "'")

abbrev with_inherited_attributes : ℕ → List ℕ
with_inherited_attributes own = edited one_enumeration_bundle (codes "{'name':'N'}")
    (codes "{'name':'N'},{'name':'P','attributes':['a0'" ++ flat (numbered_attribute (codes "a")) (numbers_from 1 19)
    ++ codes "]},{'name':'Q','parent':'P','attributes':['b0'" ++ flat (numbered_attribute (codes "b")) (numbers_from 1 own) ++ codes "]}")

attributes_32 : fault_of (with_inherited_attributes 11) ≡ None
unfolding rules_on_literals
attributes_32 = refl

attributes_33_with_inherited_ones : fault_of (with_inherited_attributes 12) ≡ Some (fault 6 Types 2 0 0)
unfolding rules_on_literals
attributes_33_with_inherited_ones = refl

-- ---- elements and links

element_of_unknown_type : fault_of (edited one_enumeration_bundle (codes "'y','type':'N'") (codes "'y','type':'Q'")) ≡ Some (fault 15 Elements 1 0 0)
unfolding rules_on_literals
element_of_unknown_type = refl

attribute_that_the_type_lacks : fault_of (edited one_enumeration_bundle (codes "'when':'A'")
    (codes "'when':'A','attributes':{'q':'v'}")) ≡ Some (fault 16 Elements 0 0 0)
unfolding rules_on_literals
attribute_that_the_type_lacks = refl

attribute_left_out : fault_of (edited one_enumeration_bundle (codes ":'N'") (codes ":'N','attributes':['a']")) ≡ Some (fault 16 Elements 0 0 0)
unfolding rules_on_literals
attribute_left_out = refl

attribute_is_a_number : fault_of (edited (edited one_enumeration_bundle (codes ":'N'")
    (codes ":'N','attributes':['a']"))
    (codes "'when':'A'")
    (codes "'when':'A','attributes':{'a':5}")) ≡ Some (fault 2 Elements 0 0 0)
unfolding rules_on_literals
attribute_is_a_number = refl

attribute_in_a_query_and_a_text : fault_of (edited (edited (edited (edited (edited one_enumeration_bundle (codes ":'N'")
    (codes ":'N','attributes':['a']"))
    (codes "'when':'A'")
    (codes "'when':'A','attributes':{'a':'v'}"))
    (codes "'when':'B'")
    (codes "'when':'B','attributes':{'a':'w'}"))
    (codes "'each':'n: N'")
    (codes "'each':'n: N with n.a != `v`'"))
    (codes "'text':'Handle {n.name}'")
    (codes "'text':'{n.a}'")) ≡ None
unfolding rules_on_literals
attribute_in_a_query_and_a_text = refl

condition_that_ends_early : fault_of (edited one_enumeration_bundle (codes "'when':'A'") (codes "'when':'A &'")) ≡ Some (fault 11 Elements 0 0 3)
unfolding rules_on_literals
condition_that_ends_early = refl

condition_with_an_unknown_name : fault_of (edited one_enumeration_bundle (codes "'when':'A'")
    (codes "'when':'A & Q'")) ≡ Some (fault 12 Elements 0 0 4)
unfolding rules_on_literals
condition_with_an_unknown_name = refl

link_of_unknown_kind : fault_of (edited nested_bundle (codes "'kind':'k'") (codes "'kind':'q'")) ≡ Some (fault 17 Links 0 0 0)
unfolding rules_on_literals
link_of_unknown_kind = refl

link_to_unknown_element : fault_of (edited nested_bundle (codes "'to':'y'") (codes "'to':'q'")) ≡ Some (fault 17 Links 0 0 0)
unfolding rules_on_literals
link_to_unknown_element = refl

link_to_wrong_type : fault_of (edited (edited nested_bundle (codes "'N'}")
    (codes "'N'},{'name':'P'}"))
    (codes "'y','type':'N'")
    (codes "'y','type':'P'")) ≡ Some (fault 18 Links 0 0 0)
unfolding rules_on_literals
link_to_wrong_type = refl

link_to_a_type_below : fault_of (edited (edited nested_bundle (codes "'N'}")
    (codes "'N'},{'name':'P','parent':'N'}"))
    (codes "'y','type':'N'")
    (codes "'y','type':'P'")) ≡ None
unfolding rules_on_literals
link_to_a_type_below = refl

condition_of_a_link : fault_of (edited nested_bundle (codes "'to':'y'") (codes "'to':'y','when':'A |'")) ≡ Some (fault 11 Links 0 0 3)
unfolding rules_on_literals
condition_of_a_link = refl

links_are_a_table : fault_of (edited nested_bundle (codes "[{'kind':'k','from':'x','to':'y'}]") (codes "{}")) ≡ Some (fault 2 Links 0 0 0)
unfolding rules_on_literals
links_are_a_table = refl

-- elements whose one attribute has this value
abbrev with_value : List ℕ → List ℕ
with_value s = edited (edited one_enumeration_bundle (codes "{'name':'N'}") (codes "{'name':'N','attributes':['a']}"))
    (codes "'when':'A'") (codes "'when':'A','attributes':{'a':'" ++ s ++ codes "'}")

attribute_value_of_129_bytes : fault_of (with_value (repeated 129 (codes "v"))) ≡ Some (fault 4 Elements 0 0 0)
unfolding rules_on_literals
attribute_value_of_129_bytes = refl

-- ---- systems

system_of_unknown_element : fault_of (edited system_bundle (codes "'element':'c'") (codes "'element':'q'")) ≡ Some (fault 19 Systems 0 0 0)
unfolding rules_on_literals
system_of_unknown_element = refl

system_of_plain_type : fault_of (edited system_bundle (codes "'system':true") (codes "'system':false")) ≡ Some (fault 19 Systems 0 0 0)
unfolding rules_on_literals
system_of_plain_type = refl

system_type_by_its_parent : fault_of (edited (edited system_bundle (codes "'name':'N'")
    (codes "'name':'P'"))
    (codes "true")
    (codes "true},{'name':'N','parent':'P'")) ≡ None
unfolding rules_on_literals
system_type_by_its_parent = refl

second_system_of_an_element : fault_of (edited system_bundle (codes "'systems':[") (
    codes "'systems':[{'element':'c','states':[{'name':'s0','initial':true},{'name':'s1'},{'name':'s2'},"
    ++ codes "{'name':'bad','labels':['bad']}],'transitions':[{'from':'s0','to':'s1','action':'go'},{'from':'s1',"
    ++ codes "'to':'s2','action':'go'},{'from':'s1','to':'bad','action':'slip','when':'!A'}]},")) ≡ Some (fault 19 Systems 1 0 0)
unfolding rules_on_literals
second_system_of_an_element = refl

no_initial_state : fault_of (edited system_bundle (codes ",'initial':true") (
    codes "")) ≡ Some (fault 21 Systems 0 0 0)
unfolding rules_on_literals
no_initial_state = refl

states_left_out : fault_of (edited system_bundle (codes ",'states':[{'name':'s0','initial':true},{'name':'s1'},{'name':'s2'},{'name':'bad','labels':['bad']}]") (
    codes "")) ≡ Some (fault 21 Systems 0 0 0)
unfolding rules_on_literals
states_left_out = refl

states_are_a_text : fault_of (edited system_bundle (codes "'states':[{'name':'s0','initial':true},{'name':'s1'},{'name':'s2'},{'name':'bad','labels':['bad']}]")
    (codes "'states':'x'")) ≡ Some (fault 2 States 0 0 0)
unfolding rules_on_literals
states_are_a_text = refl

state_twice : fault_of (edited system_bundle (codes "'name':'s1'") (codes "'name':'s0'")) ≡ Some (fault 5 States 0 1 0)
unfolding rules_on_literals
state_twice = refl

initial_is_a_text : fault_of (edited system_bundle (codes "'initial':true") (codes "'initial':'x'")) ≡ Some (fault 2 States 0 0 0)
unfolding rules_on_literals
initial_is_a_text = refl

broken_state_before_no_initial_state : fault_of (edited (edited system_bundle (codes ",'initial':true") (
    codes "")) (codes "'name':'s2'") (codes "'name':'with'")) ≡ Some (fault 3 States 0 2 0)
unfolding rules_on_literals
broken_state_before_no_initial_state = refl

unknown_label_of_a_state : fault_of (edited system_bundle (codes "'s1'") (codes "'s1','labels':['q']")) ≡ Some (fault 22 States 0 1 0)
unfolding rules_on_literals
unknown_label_of_a_state = refl

label_of_a_state_twice : fault_of (edited system_bundle (codes "'bad','labels':[") (codes "'bad','labels':['bad',")) ≡ Some (fault 5 States 0 3 0)
unfolding rules_on_literals
label_of_a_state_twice = refl

action_is_no_name : fault_of (edited system_bundle (codes "'action':'go'") (codes "'action':'a b'")) ≡ Some (fault 3 Transitions 0 0 0)
unfolding rules_on_literals
action_is_no_name = refl

transition_to_unknown_state : fault_of (edited system_bundle (codes "'to':'bad'") (codes "'to':'q'")) ≡ Some (fault 22 Transitions 0 2 0)
unfolding rules_on_literals
transition_to_unknown_state = refl

condition_of_a_transition : fault_of (edited system_bundle (codes "'when':'!A'") (codes "'when':'!Q'")) ≡ Some (fault 12 Transitions 0 2 1)
unfolding rules_on_literals
condition_of_a_transition = refl

condition_before_the_ends_of_a_transition : fault_of (edited (edited system_bundle (codes "'s2','action':'go'},{'from':'s1'")
    (codes "'s2','action':'go'},{'from':'zz'"))
    (codes "'when':'!A'")
    (codes "'when':'!Q'")) ≡ Some (fault 12 Transitions 0 2 1)
unfolding rules_on_literals
condition_before_the_ends_of_a_transition = refl

no_systems : fault_of (framed three_features (json (codes "{'types':[{'name':'N','system':true}],'elements':[{'name':'c','type':'N'}]}")) one_enumeration) ≡ Some (fault 20 Owners 0 0 0)
unfolding rules_on_literals
no_systems = refl
