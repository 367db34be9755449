-- Bundles that break a rule at a template, a parameter or a node.
use Rattle.std.specs.Prelude.{◌≡◌, ◌++◌, Some, None, refl, codes}
use Rattle.meaning.specs.BundlePlaces.{Templates, Params, Nodes}
use Rattle.meaning_rows.proofs.Samples.{smallest_bundle, one_enumeration_bundle, system_bundle, library_bundle, json, edited, rules_on_literals, fault, fault_of}

-- ---- templates and parameters

templates_left_out : fault_of (json (codes "{'bundle':1,'title':'T','line':{'features':[{'name':'R'}]}}")) ≡ Some (fault 23 Templates 0 0 0)
unfolding rules_on_literals
templates_left_out = refl

no_template : fault_of (json (codes "{'bundle':1,'title':'T','line':{'features':[{'name':'R'}]},'templates':[]}")) ≡ Some (fault 23 Templates 0 0 0)
unfolding rules_on_literals
no_template = refl

templates_are_a_table : fault_of (json (codes "{'bundle':1,'title':'T','line':{'features':[{'name':'R'}]},'templates':{}}")) ≡ Some (fault 2 Templates 0 0 0)
unfolding rules_on_literals
templates_are_a_table = refl

template_twice : fault_of (edited library_bundle (codes "'name':'Top'") (codes "'name':'Lib'")) ≡ Some (fault 5 Templates 1 0 0)
unfolding rules_on_literals
template_twice = refl

nodes_left_out : fault_of (edited smallest_bundle (codes ",'nodes':[{'id':'g','kind':'goal','text':'Safe'}]")
    (codes "")) ≡ Some (fault 24 Templates 0 0 0)
unfolding rules_on_literals
nodes_left_out = refl

no_node : fault_of (edited smallest_bundle (codes "{'id':'g','kind':'goal','text':'Safe'}") (
    codes "")) ≡ Some (fault 24 Templates 0 0 0)
unfolding rules_on_literals
no_node = refl

nodes_are_a_text : fault_of (edited smallest_bundle (codes "[{'id':'g','kind':'goal','text':'Safe'}]") (codes "'x'")) ≡ Some (fault 2 Nodes 0 0 0)
unfolding rules_on_literals
nodes_are_a_text = refl

last_template_with_parameter : fault_of (edited one_enumeration_bundle (codes "{'name':'Top'")
    (codes "{'name':'Top','params':[{'name':'p','type':'N'}]")) ≡ Some (fault 23 Templates 0 0 0)
unfolding rules_on_literals
last_template_with_parameter = refl

last_template_with_a_broken_parameter : fault_of (edited one_enumeration_bundle (codes "{'name':'Top'")
    (codes "{'name':'Top','params':[5]")) ≡ Some (fault 23 Templates 0 0 0)
unfolding rules_on_literals
last_template_with_a_broken_parameter = refl

parameters_are_a_text : fault_of (edited one_enumeration_bundle (codes "{'name':'Top'")
    (codes "{'name':'Top','params':'x'")) ≡ Some (fault 2 Params 0 0 0)
unfolding rules_on_literals
parameters_are_a_text = refl

parameter_of_unknown_type : fault_of (edited library_bundle (codes "'p','type':'N'") (codes "'p','type':'q'")) ≡ Some (fault 23 Params 0 0 0)
unfolding rules_on_literals
parameter_of_unknown_type = refl

parameter_twice : fault_of (edited library_bundle (codes "'type':'N'}") (codes "'type':'N'},{'name':'p','type':'N'}")) ≡ Some (fault 5 Params 0 1 0)
unfolding rules_on_literals
parameter_twice = refl

parameter_9 : fault_of (edited library_bundle (codes "'name':'p'") (
    codes "'name':'p0','type':'N'},{'name':'p1','type':'N'},{'name':'p2','type':'N'},{'name':'p3','type':'N'},"
    ++ codes "{'name':'p4','type':'N'},{'name':'p5','type':'N'},{'name':'p6','type':'N'},{'name':'p7','type':'N'},"
    ++ codes "{'name':'p8'")) ≡ Some (fault 6 Params 0 8 0)
unfolding rules_on_literals
parameter_9 = refl

-- ---- places and members of nodes

identifier_twice : fault_of (edited one_enumeration_bundle (codes "'id':'c'") (codes "'id':'g'")) ≡ Some (fault 5 Nodes 0 2 0)
unfolding rules_on_literals
identifier_twice = refl

first_node_is_a_strategy : fault_of (edited one_enumeration_bundle (codes "'kind':'goal'") (codes "'kind':'strategy'")) ≡ Some (fault 24 Nodes 0 0 0)
unfolding rules_on_literals
first_node_is_a_strategy = refl

first_node_under_a_node : fault_of (edited one_enumeration_bundle (codes "'All'") (codes "'All','under':'g'")) ≡ Some (fault 24 Nodes 0 0 0)
unfolding rules_on_literals
first_node_under_a_node = refl

first_node_with_a_guard : fault_of (edited one_enumeration_bundle (codes "'All'") (codes "'All','guard':''")) ≡ Some (fault 25 Nodes 0 0 0)
unfolding rules_on_literals
first_node_with_a_guard = refl

empty_guard : fault_of (edited one_enumeration_bundle (codes "'n: N'") (codes "'n: N','guard':''")) ≡ None
unfolding rules_on_literals
empty_guard = refl

node_of_unknown_kind : fault_of (edited one_enumeration_bundle (codes "'c','kind':'goal'") (codes "'c','kind':'Goal'")) ≡ Some (fault 24 Nodes 0 2 0)
unfolding rules_on_literals
node_of_unknown_kind = refl

under_unknown_node : fault_of (edited one_enumeration_bundle (codes "'under':'g'") (codes "'under':'q'")) ≡ Some (fault 24 Nodes 0 1 0)
unfolding rules_on_literals
under_unknown_node = refl

strategy_under_strategy : fault_of (edited one_enumeration_bundle (codes "'c','kind':'goal'")
    (codes "'c','kind':'strategy'")) ≡ Some (fault 24 Nodes 0 2 0)
unfolding rules_on_literals
strategy_under_strategy = refl

solution_under_strategy : fault_of (edited system_bundle (codes "'under':'c'") (codes "'under':'s'")) ≡ Some (fault 24 Nodes 0 3 0)
unfolding rules_on_literals
solution_under_strategy = refl

node_without_a_text : fault_of (edited one_enumeration_bundle (codes ",'text':'Handle {n.name}'") (
    codes "")) ≡ Some (fault 25 Nodes 0 2 0)
unfolding rules_on_literals
node_without_a_text = refl

goal_with_each : fault_of (edited one_enumeration_bundle (codes "'Handle {n.name}'")
    (codes "'Handle {n.name}','each':'m: N'")) ≡ Some (fault 25 Nodes 0 2 0)
unfolding rules_on_literals
goal_with_each = refl

goal_with_check : fault_of (edited one_enumeration_bundle (codes "'All'") (codes "'All','check':{'none':'n: N'}")) ≡ Some (fault 25 Nodes 0 0 0)
unfolding rules_on_literals
goal_with_check = refl

goal_with_an_empty_list_of_arguments : fault_of (edited one_enumeration_bundle (codes "'Handle {n.name}'")
    (codes "'Handle {n.name}','args':[]")) ≡ Some (fault 25 Nodes 0 2 0)
unfolding rules_on_literals
goal_with_an_empty_list_of_arguments = refl

goal_whose_arguments_are_a_number : fault_of (edited one_enumeration_bundle (codes "'All'") (codes "'All','args':5")) ≡ Some (fault 2 Nodes 0 0 0)
unfolding rules_on_literals
goal_whose_arguments_are_a_number = refl

solution_without_check : fault_of (edited system_bundle (codes ",'check':{'never':'bad','of':'n'}") (
    codes "")) ≡ Some (fault 25 Nodes 0 3 0)
unfolding rules_on_literals
solution_without_check = refl

query_of_unknown_type : fault_of (edited one_enumeration_bundle (codes "'each':'n: N'") (codes "'each':'n: Q'")) ≡ Some (fault 26 Nodes 0 1 3)
unfolding rules_on_literals
query_of_unknown_type = refl

context_of_a_strategy_sees_no_variable_of_it : fault_of (edited one_enumeration_bundle (codes "'c','kind':'goal'")
    (codes "'c','kind':'context'")) ≡ Some (fault 27 Nodes 0 2 8)
unfolding rules_on_literals
context_of_a_strategy_sees_no_variable_of_it = refl

context_of_a_goal_sees_the_variable_above : fault_of (edited one_enumeration_bundle (codes "'Handle {n.name}'}")
    (codes "'Handle {n.name}'},{'id':'d','kind':'context','under':'c','text':'{n.name}'}")) ≡ None
unfolding rules_on_literals
context_of_a_goal_sees_the_variable_above = refl

expression_in_a_goal_first : fault_of (edited system_bundle (codes "'{n.name} is safe'")
    (codes "'{n.name} is safe','check':{'never':'bad &','of':'n'}")) ≡ Some (fault 11 Nodes 0 2 5)
unfolding rules_on_literals
expression_in_a_goal_first = refl

expression_before_an_unknown_kind : fault_of (edited (edited system_bundle (codes "'kind':'solution'")
    (codes "'kind':'zz'"))
    (codes "'never':'bad'")
    (codes "'never':'q'")) ≡ Some (fault 12 Nodes 0 3 0)
unfolding rules_on_literals
expression_before_an_unknown_kind = refl

hole_of_unknown_variable : fault_of (edited one_enumeration_bundle (codes "'text':'Handle {n.name}'")
    (codes "'text':'Handle {q.name}'")) ≡ Some (fault 27 Nodes 0 2 8)
unfolding rules_on_literals
hole_of_unknown_variable = refl

-- ---- undeveloped nodes

node_that_is_not_undeveloped : fault_of (edited one_enumeration_bundle (codes "'All'") (codes "'All','undeveloped':false")) ≡ None
unfolding rules_on_literals
node_that_is_not_undeveloped = refl

undeveloped_goal_without_support : fault_of (edited one_enumeration_bundle (codes "'Handle {n.name}'")
    (codes "'Handle {n.name}','undeveloped':true")) ≡ None
unfolding rules_on_literals
undeveloped_goal_without_support = refl

undeveloped_goal_with_support : fault_of (edited one_enumeration_bundle (codes "'All'")
    (codes "'All','undeveloped':true")) ≡ Some (fault 25 Nodes 0 0 0)
unfolding rules_on_literals
undeveloped_goal_with_support = refl

undeveloped_context : fault_of (edited (edited one_enumeration_bundle (codes "'c','kind':'goal'")
    (codes "'c','kind':'context'"))
    (codes "'text':'Handle {n.name}'")
    (codes "'text':'x','undeveloped':true")) ≡ Some (fault 25 Nodes 0 2 0)
unfolding rules_on_literals
undeveloped_context = refl

broken_node_before_an_undeveloped_one : fault_of (edited (edited one_enumeration_bundle (codes "'All'")
    (codes "'All','undeveloped':true"))
    (codes "'id':'c'")
    (codes "'id':'with'")) ≡ Some (fault 3 Nodes 0 2 0)
unfolding rules_on_literals
broken_node_before_an_undeveloped_one = refl

undeveloped_strategy_over_a_misplaced_solution : fault_of (edited (edited one_enumeration_bundle (codes "'n: N'")
    (codes "'n: N','undeveloped':true"))
    (codes "'c','kind':'goal'")
    (codes "'c','kind':'solution'")) ≡ Some (fault 25 Nodes 0 1 0)
unfolding rules_on_literals
undeveloped_strategy_over_a_misplaced_solution = refl
