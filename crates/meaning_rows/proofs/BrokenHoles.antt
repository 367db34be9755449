-- Texts of template nodes with a fault in a hole or a brace, with its byte, and texts without one.
use Rattle.std.specs.Prelude.{◌≡◌, ℕ, List, ◌++◌, Some, None, refl, codes}
use Rattle.meaning.specs.BundlePlaces.{Nodes}
use Rattle.meaning_rows.proofs.Samples.{one_enumeration_bundle, edited, repeated, rules_on_literals, fault, fault_of}

-- the bundle of one enumeration, whose lower goal has this text
abbrev with_text : List ℕ → List ℕ
with_text s = edited one_enumeration_bundle (codes "Handle {n.name}") s

-- whose strategy has this text
abbrev with_strategy_text : List ℕ → List ℕ
with_strategy_text s = edited one_enumeration_bundle (codes "Over {#}") s

hole_alone : fault_of (with_text (codes "{n.name}")) ≡ None
unfolding rules_on_literals
hole_alone = refl

opening_brace_doubled : fault_of (with_text (codes "{{")) ≡ None
unfolding rules_on_literals
opening_brace_doubled = refl

closing_brace_doubled : fault_of (with_text (codes "}}")) ≡ None
unfolding rules_on_literals
closing_brace_doubled = refl

opening_brace_alone : fault_of (with_text (codes "{")) ≡ Some (fault 27 Nodes 0 2 0)
unfolding rules_on_literals
opening_brace_alone = refl

closing_brace_alone : fault_of (with_text (codes "}")) ≡ Some (fault 27 Nodes 0 2 0)
unfolding rules_on_literals
closing_brace_alone = refl

hole_without_a_dot : fault_of (with_text (codes "{n}")) ≡ Some (fault 27 Nodes 0 2 0)
unfolding rules_on_literals
hole_without_a_dot = refl

hole_without_an_attribute : fault_of (with_text (codes "{n.}")) ≡ Some (fault 27 Nodes 0 2 0)
unfolding rules_on_literals
hole_without_an_attribute = refl

hole_without_a_variable : fault_of (with_text (codes "{.name}")) ≡ Some (fault 27 Nodes 0 2 0)
unfolding rules_on_literals
hole_without_a_variable = refl

hole_left_open : fault_of (with_text (codes "{n.name")) ≡ Some (fault 27 Nodes 0 2 0)
unfolding rules_on_literals
hole_left_open = refl

space_in_a_hole : fault_of (with_text (codes "{n .name}")) ≡ Some (fault 27 Nodes 0 2 0)
unfolding rules_on_literals
space_in_a_hole = refl

count_outside_a_strategy : fault_of (with_text (codes "{#}")) ≡ Some (fault 27 Nodes 0 2 0)
unfolding rules_on_literals
count_outside_a_strategy = refl

unknown_attribute_in_a_hole : fault_of (with_text (codes "{n.a}")) ≡ Some (fault 27 Nodes 0 2 3)
unfolding rules_on_literals
unknown_attribute_in_a_hole = refl

unknown_variable_before_unknown_attribute : fault_of (with_text (codes "{q.a}")) ≡ Some (fault 27 Nodes 0 2 1)
unfolding rules_on_literals
unknown_variable_before_unknown_attribute = refl

closing_brace_behind_a_hole : fault_of (with_text (codes "{n.name}}")) ≡ Some (fault 27 Nodes 0 2 8)
unfolding rules_on_literals
closing_brace_behind_a_hole = refl

closing_brace_behind_a_doubled_one : fault_of (with_text (codes "{{n.name}")) ≡ Some (fault 27 Nodes 0 2 8)
unfolding rules_on_literals
closing_brace_behind_a_doubled_one = refl

empty_hole : fault_of (with_text (codes "{}")) ≡ Some (fault 27 Nodes 0 2 0)
unfolding rules_on_literals
empty_hole = refl

closing_brace_behind_doubled_ones_and_a_hole : fault_of (with_text (codes "a {{b}} {n.name} }")) ≡ Some (fault 27 Nodes 0 2 17)
unfolding rules_on_literals
closing_brace_behind_doubled_ones_and_a_hole = refl

eight_holes : fault_of (with_text (repeated 8 (codes "{n.name}"))) ≡ None
unfolding rules_on_literals
eight_holes = refl

ninth_hole : fault_of (with_text (repeated 9 (codes "{n.name}"))) ≡ Some (fault 27 Nodes 0 2 64)
unfolding rules_on_literals
ninth_hole = refl

ninth_hole_of_an_unknown_variable : fault_of (with_text (repeated 8 (codes "{n.name}") ++ codes "{q.name}")) ≡ Some (fault 27 Nodes 0 2 64)
unfolding rules_on_literals
ninth_hole_of_an_unknown_variable = refl

brace_in_a_hole : fault_of (with_text (codes "{n.{name}}")) ≡ Some (fault 27 Nodes 0 2 0)
unfolding rules_on_literals
brace_in_a_hole = refl

reserved_word_is_an_unknown_variable : fault_of (with_text (codes "{with.name}")) ≡ Some (fault 27 Nodes 0 2 1)
unfolding rules_on_literals
reserved_word_is_an_unknown_variable = refl

hole_of_two_dots : fault_of (with_text (codes "{n.name.name}")) ≡ Some (fault 27 Nodes 0 2 0)
unfolding rules_on_literals
hole_of_two_dots = refl

hole_between_doubled_braces : fault_of (with_text (codes "{{{n.name}}}")) ≡ None
unfolding rules_on_literals
hole_between_doubled_braces = refl

text_of_513_bytes : fault_of (with_text (repeated 513 (codes "x"))) ≡ Some (fault 4 Nodes 0 2 0)
unfolding rules_on_literals
text_of_513_bytes = refl

places_count_bytes : fault_of (with_text (codes "\\u00e9{q.name}")) ≡ Some (fault 27 Nodes 0 2 3)
unfolding rules_on_literals
places_count_bytes = refl

hole_that_begins_with_a_digit : fault_of (with_text (codes "{9n.name}")) ≡ Some (fault 27 Nodes 0 2 0)
unfolding rules_on_literals
hole_that_begins_with_a_digit = refl

count_alone : fault_of (with_strategy_text (codes "{#}")) ≡ None
unfolding rules_on_literals
count_alone = refl

eight_counts : fault_of (with_strategy_text (repeated 8 (codes "{#}"))) ≡ None
unfolding rules_on_literals
eight_counts = refl

ninth_count : fault_of (with_strategy_text (repeated 9 (codes "{#}"))) ≡ Some (fault 27 Nodes 0 1 24)
unfolding rules_on_literals
ninth_count = refl

own_variable_in_the_text_of_a_strategy : fault_of (with_strategy_text (codes "{n.name}")) ≡ Some (fault 27 Nodes 0 1 1)
unfolding rules_on_literals
own_variable_in_the_text_of_a_strategy = refl

space_behind_a_count : fault_of (with_strategy_text (codes "{# }")) ≡ Some (fault 27 Nodes 0 1 0)
unfolding rules_on_literals
space_behind_a_count = refl
