-- Checks of solutions and uses of templates that break a rule, and such that break none.
use Rattle.std.specs.Prelude.{◌≡◌, ℕ, List, ◌++◌, Some, None, refl, codes}
use Rattle.meaning.specs.BundlePlaces.{Nodes}
use Rattle.meaning_rows.proofs.Samples.{smallest_bundle, system_bundle, library_bundle, edited, rules_on_literals, fault, fault_of}

-- ---- checks

-- the bundle of a system, whose solution has this check
abbrev with_check : List ℕ → List ℕ
with_check s = edited system_bundle (codes "{'never':'bad','of':'n'}") s

check_of_no_form : fault_of (with_check (codes "{}")) ≡ Some (fault 28 Nodes 0 3 0)
unfolding rules_on_literals
check_of_no_form = refl

never_without_a_variable : fault_of (with_check (codes "{'never':'bad'}")) ≡ Some (fault 28 Nodes 0 3 0)
unfolding rules_on_literals
never_without_a_variable = refl

variable_of_never_is_a_number : fault_of (with_check (codes "{'never':'bad','of':5}")) ≡ Some (fault 28 Nodes 0 3 0)
unfolding rules_on_literals
variable_of_never_is_a_number = refl

never_is_a_number : fault_of (with_check (codes "{'never':5,'of':'n'}")) ≡ Some (fault 28 Nodes 0 3 0)
unfolding rules_on_literals
never_is_a_number = refl

never_that_ends_early : fault_of (with_check (codes "{'never':'bad &','of':'n'}")) ≡ Some (fault 11 Nodes 0 3 5)
unfolding rules_on_literals
never_that_ends_early = refl

never_over_an_unknown_label : fault_of (with_check (codes "{'never':'q','of':'n'}")) ≡ Some (fault 12 Nodes 0 3 0)
unfolding rules_on_literals
never_over_an_unknown_label = refl

unknown_label_before_two_forms : fault_of (with_check (codes "{'never':'q','none':'n: Q'}")) ≡ Some (fault 12 Nodes 0 3 0)
unfolding rules_on_literals
unknown_label_before_two_forms = refl

deadlock_of_a_variable : fault_of (with_check (codes "{'deadlock':'n'}")) ≡ None
unfolding rules_on_literals
deadlock_of_a_variable = refl

deadlock_of_an_unknown_variable : fault_of (with_check (codes "{'deadlock':'q'}")) ≡ Some (fault 28 Nodes 0 3 0)
unfolding rules_on_literals
deadlock_of_an_unknown_variable = refl

deadlock_is_a_number : fault_of (with_check (codes "{'deadlock':5}")) ≡ Some (fault 28 Nodes 0 3 0)
unfolding rules_on_literals
deadlock_is_a_number = refl

variable_beside_a_deadlock_is_ignored : fault_of (with_check (codes "{'deadlock':'n','of':'q'}")) ≡ None
unfolding rules_on_literals
variable_beside_a_deadlock_is_ignored = refl

none_of_a_query : fault_of (with_check (codes "{'none':'m: N'}")) ≡ None
unfolding rules_on_literals
none_of_a_query = refl

none_is_a_number : fault_of (with_check (codes "{'none':5}")) ≡ Some (fault 28 Nodes 0 3 0)
unfolding rules_on_literals
none_is_a_number = refl

none_with_a_variable_twice : fault_of (with_check (codes "{'none':'m: N, m: N'}")) ≡ Some (fault 26 Nodes 0 3 6)
unfolding rules_on_literals
none_with_a_variable_twice = refl

some_with_a_variable_in_scope : fault_of (with_check (codes "{'some':'n: N'}")) ≡ Some (fault 26 Nodes 0 3 0)
unfolding rules_on_literals
some_with_a_variable_in_scope = refl

some_of_the_empty_query : fault_of (with_check (codes "{'some':''}")) ≡ None
unfolding rules_on_literals
some_of_the_empty_query = refl

query_fault_before_two_forms : fault_of (with_check (codes "{'none':'m: Q','some':'Q'}")) ≡ Some (fault 26 Nodes 0 3 3)
unfolding rules_on_literals
query_fault_before_two_forms = refl

fault_of_the_second_query : fault_of (with_check (codes "{'none':'','some':'Q'}")) ≡ Some (fault 26 Nodes 0 3 1)
unfolding rules_on_literals
fault_of_the_second_query = refl

check_is_a_number : fault_of (with_check (codes "5")) ≡ Some (fault 2 Nodes 0 3 0)
unfolding rules_on_literals
check_is_a_number = refl

check_is_a_list : fault_of (with_check (codes "[]")) ≡ Some (fault 2 Nodes 0 3 0)
unfolding rules_on_literals
check_is_a_list = refl

two_forms_of_a_check : fault_of (with_check (codes "{'never':'bad','of':'n','deadlock':'n'}")) ≡ Some (fault 28 Nodes 0 3 0)
unfolding rules_on_literals
two_forms_of_a_check = refl

tab_in_a_check : fault_of (with_check (codes "{'never':'bad\\t','of':'n'}")) ≡ Some (fault 4 Nodes 0 3 0)
unfolding rules_on_literals
tab_in_a_check = refl

variable_beside_a_query_is_ignored : fault_of (with_check (codes "{'some':'m: N','of':'q'}")) ≡ None
unfolding rules_on_literals
variable_beside_a_query_is_ignored = refl

never_of_an_unknown_variable : fault_of (with_check (codes "{'never':'bad','of':'q'}")) ≡ Some (fault 28 Nodes 0 3 0)
unfolding rules_on_literals
never_of_an_unknown_variable = refl

-- ---- uses

use_with_its_argument : fault_of library_bundle ≡ None
unfolding rules_on_literals
use_with_its_argument = refl

use_without_arguments : fault_of (edited library_bundle (codes ",'args':['n']") (
    codes "")) ≡ Some (fault 29 Nodes 1 3 0)
unfolding rules_on_literals
use_without_arguments = refl

use_with_no_argument : fault_of (edited library_bundle (codes "['n'") (codes "[")) ≡ Some (fault 29 Nodes 1 3 0)
unfolding rules_on_literals
use_with_no_argument = refl

use_with_an_unknown_variable : fault_of (edited library_bundle (codes "['n'") (codes "['q'")) ≡ Some (fault 29 Nodes 1 3 0)
unfolding rules_on_literals
use_with_an_unknown_variable = refl

use_with_two_arguments : fault_of (edited library_bundle (codes "['n'") (codes "['n','n'")) ≡ Some (fault 29 Nodes 1 3 0)
unfolding rules_on_literals
use_with_two_arguments = refl

argument_is_a_number : fault_of (edited library_bundle (codes "['n'") (codes "[5")) ≡ Some (fault 2 Nodes 1 3 0)
unfolding rules_on_literals
argument_is_a_number = refl

use_without_a_template : fault_of (edited library_bundle (codes "'template':'Lib',") (
    codes "")) ≡ Some (fault 25 Nodes 1 3 0)
unfolding rules_on_literals
use_without_a_template = refl

use_of_its_own_template : fault_of (edited library_bundle (codes "'template':'Lib'") (codes "'template':'Top'")) ≡ Some (fault 29 Nodes 1 3 0)
unfolding rules_on_literals
use_of_its_own_template = refl

use_of_an_unknown_template : fault_of (edited library_bundle (codes "'template':'Lib'") (codes "'template':'zz'")) ≡ Some (fault 29 Nodes 1 3 0)
unfolding rules_on_literals
use_of_an_unknown_template = refl

use_with_a_text : fault_of (edited library_bundle (codes "'n']") (codes "'n'],'text':'x'")) ≡ Some (fault 25 Nodes 1 3 0)
unfolding rules_on_literals
use_with_a_text = refl

use_where_its_argument_is_not_in_scope : fault_of (edited library_bundle (codes "'use','under':'s'")
    (codes "'use','under':'g'")) ≡ Some (fault 29 Nodes 1 3 0)
unfolding rules_on_literals
use_where_its_argument_is_not_in_scope = refl

guarded_use : fault_of (edited library_bundle (codes "'n']") (codes "'n'],'guard':'m: N with n [k] m'")) ≡ None
unfolding rules_on_literals
guarded_use = refl

undeveloped_use : fault_of (edited library_bundle (codes "'n']") (codes "'n'],'undeveloped':true")) ≡ Some (fault 25 Nodes 1 3 0)
unfolding rules_on_literals
undeveloped_use = refl

use_that_is_not_undeveloped : fault_of (edited library_bundle (codes "'n']") (codes "'n'],'undeveloped':false")) ≡ None
unfolding rules_on_literals
use_that_is_not_undeveloped = refl

use_with_a_check : fault_of (edited library_bundle (codes "'n']") (codes "'n'],'check':{}")) ≡ Some (fault 25 Nodes 1 3 0)
unfolding rules_on_literals
use_with_a_check = refl

node_under_a_use : fault_of (edited library_bundle (codes "'n']}")
    (codes "'n']},{'id':'v','kind':'goal','under':'u','text':'x'}")) ≡ Some (fault 24 Nodes 1 4 0)
unfolding rules_on_literals
node_under_a_use = refl

argument_of_a_type_above : fault_of (edited (edited library_bundle (codes "'types':[{'name'")
    (codes "'types':[{'name':'N'},{'name':'P','parent'"))
    (codes "'p','type':'N'")
    (codes "'p','type':'P'")) ≡ Some (fault 29 Nodes 1 3 0)
unfolding rules_on_literals
argument_of_a_type_above = refl

argument_of_a_type_below : fault_of (edited (edited library_bundle (codes "'types':[{'name'")
    (codes "'types':[{'name':'N'},{'name':'P','parent'"))
    (codes "'each':'n: N'")
    (codes "'each':'n: P'")) ≡ None
unfolding rules_on_literals
argument_of_a_type_below = refl

use_of_later_template : fault_of (edited smallest_bundle (codes "'Safe'}") (
    codes "'Safe'},{'id':'u','kind':'use','under':'g','template':'Last'}]},{'name':'Last','nodes':[{'id':'g',"
    ++ codes "'kind':'goal','text':'Safe'}")) ≡ Some (fault 29 Nodes 0 1 0)
unfolding rules_on_literals
use_of_later_template = refl
