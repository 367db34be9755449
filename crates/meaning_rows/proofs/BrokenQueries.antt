-- Queries with a fault, with the byte that a refusal tells, and queries without one.
use Rattle.std.specs.Prelude.{◌≡◌, ℕ, List, ◌++◌, Some, None, refl, codes}
use Rattle.meaning.specs.BundlePlaces.{Nodes}
use Rattle.meaning_rows.proofs.Samples.{one_enumeration_bundle, library_bundle, edited, repeated, rules_on_literals, fault, fault_of}

-- the bundle of one enumeration, whose strategy goes over the answers of this query
abbrev with_each : List ℕ → List ℕ
with_each s = edited one_enumeration_bundle (codes "'each':'n: N'") (codes "'each':'" ++ s ++ codes "'")

typed_variable : fault_of (with_each (codes "n: N")) ≡ None
unfolding rules_on_literals
typed_variable = refl

no_variable_in_the_empty_query : fault_of (with_each (codes "")) ≡ Some (fault 25 Nodes 0 1 0)
unfolding rules_on_literals
no_variable_in_the_empty_query = refl

with_without_a_constraint : fault_of (with_each (codes "with")) ≡ Some (fault 26 Nodes 0 1 4)
unfolding rules_on_literals
with_without_a_constraint = refl

name_without_a_colon : fault_of (with_each (codes "n")) ≡ Some (fault 26 Nodes 0 1 1)
unfolding rules_on_literals
name_without_a_colon = refl

no_type_behind_the_colon : fault_of (with_each (codes "n:")) ≡ Some (fault 26 Nodes 0 1 2)
unfolding rules_on_literals
no_type_behind_the_colon = refl

comma_without_a_variable : fault_of (with_each (codes "n: N,")) ≡ Some (fault 26 Nodes 0 1 5)
unfolding rules_on_literals
comma_without_a_variable = refl

with_at_the_end : fault_of (with_each (codes "n: N with")) ≡ Some (fault 26 Nodes 0 1 9)
unfolding rules_on_literals
with_at_the_end = refl

variable_given_twice : fault_of (with_each (codes "n: N, n: N")) ≡ Some (fault 26 Nodes 0 1 6)
unfolding rules_on_literals
variable_given_twice = refl

fourth_variable : fault_of (with_each (codes "n: N, m: N, o: N, p: N")) ≡ Some (fault 26 Nodes 0 1 18)
unfolding rules_on_literals
fourth_variable = refl

name_without_a_colon_behind_three_variables : fault_of (with_each (codes "n: N, m: N, o: N, p")) ≡ Some (fault 26 Nodes 0 1 19)
unfolding rules_on_literals
name_without_a_colon_behind_three_variables = refl

with_behind_a_comma : fault_of (with_each (codes "n: N, m: N, o: N, with")) ≡ Some (fault 26 Nodes 0 1 18)
unfolding rules_on_literals
with_behind_a_comma = refl

word_name_is_no_variable : fault_of (with_each (codes "name: N")) ≡ Some (fault 26 Nodes 0 1 0)
unfolding rules_on_literals
word_name_is_no_variable = refl

word_not_is_no_variable : fault_of (with_each (codes "not: N")) ≡ Some (fault 26 Nodes 0 1 0)
unfolding rules_on_literals
word_not_is_no_variable = refl

walk_along_a_kind : fault_of (with_each (codes "n: N with n [k] n")) ≡ None
unfolding rules_on_literals
walk_along_a_kind = refl

chain_and_negated_walk : fault_of (with_each (codes "n: N with n [k+] n, not n [^k] n")) ≡ None
unfolding rules_on_literals
chain_and_negated_walk = refl

path_of_every_operator : fault_of (with_each (codes "n: N with n [(k/k)|^k+] n")) ≡ None
unfolding rules_on_literals
path_of_every_operator = refl

path_left_open : fault_of (with_each (codes "n: N with n [k")) ≡ Some (fault 26 Nodes 0 1 14)
unfolding rules_on_literals
path_left_open = refl

walk_without_an_end : fault_of (with_each (codes "n: N with n [k]")) ≡ Some (fault 26 Nodes 0 1 15)
unfolding rules_on_literals
walk_without_an_end = refl

walk_to_an_unknown_variable : fault_of (with_each (codes "n: N with n [k] m")) ≡ Some (fault 26 Nodes 0 1 16)
unfolding rules_on_literals
walk_to_an_unknown_variable = refl

walk_along_an_unknown_kind : fault_of (with_each (codes "n: N with n [q] n")) ≡ Some (fault 26 Nodes 0 1 13)
unfolding rules_on_literals
walk_along_an_unknown_kind = refl

unknown_attribute : fault_of (with_each (codes "n: N with n.a = `x`")) ≡ Some (fault 26 Nodes 0 1 12)
unfolding rules_on_literals
unknown_attribute = refl

word_name_is_no_attribute : fault_of (with_each (codes "n: N with n.name = `x`")) ≡ Some (fault 26 Nodes 0 1 12)
unfolding rules_on_literals
word_name_is_no_attribute = refl

unknown_attribute_before_an_open_quote : fault_of (with_each (codes "n: N with n.a = `x")) ≡ Some (fault 26 Nodes 0 1 12)
unfolding rules_on_literals
unknown_attribute_before_an_open_quote = refl

negated_attribute_test : fault_of (with_each (codes "n: N with not n.a = `x`")) ≡ Some (fault 26 Nodes 0 1 15)
unfolding rules_on_literals
negated_attribute_test = refl

bracket_closed_twice : fault_of (with_each (codes "n: N with n [k]] n")) ≡ Some (fault 26 Nodes 0 1 15)
unfolding rules_on_literals
bracket_closed_twice = refl

empty_path : fault_of (with_each (codes "n: N with n [()] n")) ≡ Some (fault 26 Nodes 0 1 14)
unfolding rules_on_literals
empty_path = refl

step_back_into_a_parenthesis : fault_of (with_each (codes "n: N with n [^(k)] n")) ≡ Some (fault 26 Nodes 0 1 14)
unfolding rules_on_literals
step_back_into_a_parenthesis = refl

parenthesis_never_opened : fault_of (with_each (codes "n: N with n [k)] n")) ≡ Some (fault 26 Nodes 0 1 14)
unfolding rules_on_literals
parenthesis_never_opened = refl

parenthesis_never_closed : fault_of (with_each (codes "n: N with n [(k] n")) ≡ Some (fault 26 Nodes 0 1 15)
unfolding rules_on_literals
parenthesis_never_closed = refl

with_twice : fault_of (with_each (codes "n: N with with")) ≡ Some (fault 26 Nodes 0 1 10)
unfolding rules_on_literals
with_twice = refl

constraint_on_an_unknown_variable_alone : fault_of (with_each (codes "with n [k] n")) ≡ Some (fault 26 Nodes 0 1 5)
unfolding rules_on_literals
constraint_on_an_unknown_variable_alone = refl

exclamation_mark_alone : fault_of (with_each (codes "n: N with n ! n")) ≡ Some (fault 26 Nodes 0 1 12)
unfolding rules_on_literals
exclamation_mark_alone = refl

quoted_text_in_front : fault_of (with_each (codes "`a` n: N")) ≡ Some (fault 26 Nodes 0 1 0)
unfolding rules_on_literals
quoted_text_in_front = refl

name_behind_a_type : fault_of (with_each (codes "n: N n")) ≡ Some (fault 26 Nodes 0 1 5)
unfolding rules_on_literals
name_behind_a_type = refl

colon_left_out : fault_of (with_each (codes "n N")) ≡ Some (fault 26 Nodes 0 1 2)
unfolding rules_on_literals
colon_left_out = refl

space_before_the_colon : fault_of (with_each (codes "n : N")) ≡ None
unfolding rules_on_literals
space_before_the_colon = refl

word_true_is_no_type : fault_of (with_each (codes "n: true")) ≡ Some (fault 26 Nodes 0 1 3)
unfolding rules_on_literals
word_true_is_no_type = refl

comma_behind_the_last_constraint : fault_of (with_each (codes "n: N with n [k] n,")) ≡ Some (fault 26 Nodes 0 1 18)
unfolding rules_on_literals
comma_behind_the_last_constraint = refl

sixteen_constraints : fault_of (with_each (codes "n: N with n [k] n" ++ repeated 15 (codes ", n [k] n"))) ≡ None
unfolding rules_on_literals
sixteen_constraints = refl

seventeenth_constraint : fault_of (with_each (codes "n: N with n [k] n" ++ repeated 16 (codes ", n [k] n"))) ≡ Some (fault 26 Nodes 0 1 154)
unfolding rules_on_literals
seventeenth_constraint = refl

stray_byte_for_a_seventeenth_constraint : fault_of (with_each (codes "n: N with n [k] n" ++ repeated 15 (codes ", n [k] n") ++ codes ", 9")) ≡ Some (fault 26 Nodes 0 1 154)
unfolding rules_on_literals
stray_byte_for_a_seventeenth_constraint = refl

token_257_of_a_query : fault_of (with_each (codes "n: N with n [k" ++ repeated 129 (codes "/k") ++ codes "] n")) ≡ Some (fault 26 Nodes 0 1 263)
unfolding rules_on_literals
token_257_of_a_query = refl

path_of_as_many_tokens_as_may_be : fault_of (with_each (codes "n: N with n [k" ++ repeated 122 (codes "/k") ++ codes "] n")) ≡ None
unfolding rules_on_literals
path_of_as_many_tokens_as_may_be = refl

slash_without_a_step : fault_of (with_each (codes "n: N with n [k/] n")) ≡ Some (fault 26 Nodes 0 1 15)
unfolding rules_on_literals
slash_without_a_step = refl

bar_in_front_of_a_path : fault_of (with_each (codes "n: N with n [|k] n")) ≡ Some (fault 26 Nodes 0 1 13)
unfolding rules_on_literals
bar_in_front_of_a_path = refl

walk_from_an_unknown_variable : fault_of (with_each (codes "n: N with m [k] n")) ≡ Some (fault 26 Nodes 0 1 10)
unfolding rules_on_literals
walk_from_an_unknown_variable = refl

delete_character_is_in_no_text : fault_of (with_each (codes "n\\u007f: N")) ≡ Some (fault 4 Nodes 0 1 0)
unfolding rules_on_literals
delete_character_is_in_no_text = refl

digit_for_a_type : fault_of (with_each (codes "n: 9")) ≡ Some (fault 26 Nodes 0 1 3)
unfolding rules_on_literals
digit_for_a_type = refl

comma_and_a_space_at_the_end : fault_of (with_each (codes "n: N, ")) ≡ Some (fault 26 Nodes 0 1 6)
unfolding rules_on_literals
comma_and_a_space_at_the_end = refl

caret_alone : fault_of (with_each (codes "^")) ≡ Some (fault 26 Nodes 0 1 0)
unfolding rules_on_literals
caret_alone = refl

chain_of_chains : fault_of (with_each (codes "n: N with n [k+++] n")) ≡ None
unfolding rules_on_literals
chain_of_chains = refl

-- a query without a new variable, over the parameter of a template
abbrev with_walks : List ℕ → List ℕ
with_walks s = edited library_bundle (codes "'text':'{p.name}'}")
    (codes "'text':'{p.name}'},{'id':'s','kind':'strategy','under':'g','text':'x','each':'" ++ s ++ codes "'}")

no_new_variable_over_a_parameter : fault_of (with_walks (codes "with p [k] p")) ≡ Some (fault 25 Nodes 0 1 0)
unfolding rules_on_literals
no_new_variable_over_a_parameter = refl

variable_of_a_parameter_again : fault_of (with_walks (codes "p: N")) ≡ Some (fault 26 Nodes 0 1 0)
unfolding rules_on_literals
variable_of_a_parameter_again = refl

-- a query without a new variable that has a fault is told by its fault
seventeen_constraints_without_a_variable : fault_of (with_walks (codes "with p [k] p" ++ repeated 16 (codes ", p [k] p"))) ≡ Some (fault 26 Nodes 0 1 149)
unfolding rules_on_literals
seventeen_constraints_without_a_variable = refl
