-- Cases with a fault, each with the first one, computed by the check.
use Rattle.std.specs.Prelude.{◌≡◌, ℕ, List, ◌++◌, take, Option, Some, None, refl, codes, decimal}
use Rattle.meaning.specs.Texts.{flat, numbers_from}
use Rattle.meaning.specs.BundlePlaces.{Part, Document', Features, Systems, Nodes, Valid, Table, Relations}
use Rattle.meaning.specs.CaseReading.{CaseFault, read_case, Broken, Is}
use Rattle.meaning_rows.proofs.Samples.{json, edited, smallest_case, one_enumeration_case, system_case, meaning_on_literals}

abbrev case_fault : (fault : ℕ) → Part → (item : ℕ) → Option CaseFault
case_fault n part item = Some (record { fault = n; part = part; item = item })

-- the first fault of a case, if it has one
abbrev fault_in : List ℕ → Option CaseFault
fault_in bytes = elim (read_case bytes) as (λ _. Option CaseFault) [ Broken f ↦ Some f | Is k ↦ None ]

smallest_has_none : fault_in smallest_case ≡ None
unfolding meaning_on_literals
smallest_has_none = refl

one_enumeration_has_none : fault_in one_enumeration_case ≡ None
unfolding meaning_on_literals
one_enumeration_has_none = refl

system_has_none : fault_in system_case ≡ None
unfolding meaning_on_literals
system_has_none = refl

case_cut_short : fault_in (take 100 smallest_case) ≡ case_fault 1 Document' 0
unfolding meaning_on_literals
case_cut_short = refl

case_is_a_list : fault_in (codes "[]") ≡ case_fault 1 Document' 0
unfolding meaning_on_literals
case_is_a_list = refl

title_left_out : fault_in (edited smallest_case (codes ",'title':'T'") (codes "")) ≡ case_fault 2 Document' 0
unfolding meaning_on_literals
title_left_out = refl

version_nine : fault_in (edited smallest_case (codes "'case':1") (codes "'case':9")) ≡ case_fault 3 Document' 0
unfolding meaning_on_literals
version_nine = refl

version_below_zero : fault_in (edited smallest_case (codes "'case':1") (codes "'case':-1")) ≡ case_fault 2 Document' 0
unfolding meaning_on_literals
version_below_zero = refl

version_past_32_bits : fault_in (edited smallest_case (codes "'case':1") (codes "'case':4294967296")) ≡ case_fault 2 Document' 0
unfolding meaning_on_literals
version_past_32_bits = refl

last_form_before_the_version : fault_in (edited (edited smallest_case (codes "'case':1")
    (codes "'case':9"))
    (codes "'relations':[]")
    (codes "'relations':[5]")) ≡ case_fault 2 Relations 0
unfolding meaning_on_literals
last_form_before_the_version = refl

valid_is_a_text : fault_in (edited smallest_case (codes "'valid':2") (codes "'valid':'x'")) ≡ case_fault 2 Valid 0
unfolding meaning_on_literals
valid_is_a_text = refl

feature_twice : fault_in (edited smallest_case (codes "['R']") (codes "['R','R']")) ≡ case_fault 4 Features 1
unfolding meaning_on_literals
feature_twice = refl

newline_in_a_text : fault_in (edited smallest_case (codes "Safe") (codes "Safe\\n")) ≡ case_fault 4 Nodes 0
unfolding meaning_on_literals
newline_in_a_text = refl

row_twice : fault_in (edited smallest_case (codes "[[0,0,1]]") (codes "[[0,0,1],[0,0,1]]")) ≡ case_fault 5 Table 1
unfolding meaning_on_literals
row_twice = refl

row_of_no_feature : fault_in (edited smallest_case (codes "[[0,0,1]]") (codes "[[1,0,1]]")) ≡ case_fault 5 Table 0
unfolding meaning_on_literals
row_of_no_feature = refl

row_with_equal_children : fault_in (edited smallest_case (codes "[[0,0,1]]") (codes "[[0,1,1]]")) ≡ case_fault 5 Table 0
unfolding meaning_on_literals
row_with_equal_children = refl

row_with_a_later_child : fault_in (edited smallest_case (codes "[[0,0,1]]") (codes "[[0,0,2]]")) ≡ case_fault 5 Table 0
unfolding meaning_on_literals
row_with_a_later_child = refl

row_of_two_numbers : fault_in (edited smallest_case (codes "[[0,0,1]]") (codes "[[0,1]]")) ≡ case_fault 5 Table 0
unfolding meaning_on_literals
row_of_two_numbers = refl

valid_past_the_table : fault_in (edited smallest_case (codes "'valid':2") (codes "'valid':9")) ≡ case_fault 6 Valid 0
unfolding meaning_on_literals
valid_past_the_table = refl

presence_past_the_table : fault_in (edited smallest_case (codes "'when':2") (codes "'when':9")) ≡ case_fault 6 Nodes 0
unfolding meaning_on_literals
presence_past_the_table = refl

node_of_unknown_kind : fault_in (edited smallest_case (codes "'kind':'goal'") (codes "'kind':'gaol'")) ≡ case_fault 7 Nodes 0
unfolding meaning_on_literals
node_of_unknown_kind = refl

relation_to_no_node : fault_in (edited smallest_case (codes "'relations':[]")
    (codes "'relations':[{'from':0,'to':7,'kind':'supported','when':2}]")) ≡ case_fault 8 Relations 0
unfolding meaning_on_literals
relation_to_no_node = refl

reached_too_short : fault_in (edited system_case (codes "'reached':[2,2,2,4]") (codes "'reached':[2,2,2]")) ≡ case_fault 9 Systems 0
unfolding meaning_on_literals
reached_too_short = refl

solution_without_a_finding : fault_in (edited smallest_case (codes "'kind':'goal'") (codes "'kind':'solution'")) ≡ case_fault 10 Nodes 0
unfolding meaning_on_literals
solution_without_a_finding = refl

goal_with_branches : fault_in (edited smallest_case (codes "{'key'") (codes "{'branches':[2],'key'")) ≡ case_fault 10 Nodes 0
unfolding meaning_on_literals
goal_with_branches = refl

goal_with_no_branches : fault_in (edited smallest_case (codes "{'key'") (codes "{'branches':[],'key'")) ≡ None
unfolding meaning_on_literals
goal_with_no_branches = refl

other_member_is_ignored : fault_in (edited smallest_case (codes "{'case'") (codes "{'by':'hand','case'")) ≡ None
unfolding meaning_on_literals
other_member_is_ignored = refl

witnesses_beside_a_system_check : fault_in (edited system_case (codes "'targets'") (codes "'witnesses':[],'targets'")) ≡ case_fault 10 Nodes 3
unfolding meaning_on_literals
witnesses_beside_a_system_check = refl

target_past_the_states : fault_in (edited system_case (codes "[[3,4]]") (codes "[[4,4]]")) ≡ case_fault 10 Nodes 3
unfolding meaning_on_literals
target_past_the_states = refl

text_may_be_empty : fault_in (edited smallest_case (codes "['Safe']") (codes "[]")) ≡ None
unfolding meaning_on_literals
text_may_be_empty = refl

-- a case of more features than may be read
abbrev numbered_feature : ℕ → List ℕ
numbered_feature n = json (codes ",'F") ++ decimal n ++ json (codes "'")

feature_257 : fault_in (edited smallest_case (codes "['R']")
    (codes "['R'" ++ flat numbered_feature (numbers_from 0 256) ++ codes "]")) ≡ case_fault 11 Features 256
unfolding meaning_on_literals
feature_257 = refl
