-- Conditions that are no expression, or name no feature, with the byte that a refusal tells.
use Rattle.std.specs.Prelude.{◌≡◌, ℕ, List, ◌++◌, Some, None, refl, codes}
use Rattle.meaning.specs.BundlePlaces.{Elements}
use Rattle.meaning_rows.proofs.Samples.{one_enumeration_bundle, edited, repeated, rules_on_literals, fault, fault_of}

-- the bundle of one enumeration, whose first element has this condition
abbrev with_condition : List ℕ → List ℕ
with_condition s = edited one_enumeration_bundle (codes "'when':'A'") (codes "'when':'" ++ s ++ codes "'")

reserved_word_is_no_feature : fault_of (with_condition (codes "with")) ≡ Some (fault 11 Elements 0 0 0)
unfolding rules_on_literals
reserved_word_is_no_feature = refl

reserved_word_after_an_operator : fault_of (with_condition (codes "A & with")) ≡ Some (fault 11 Elements 0 0 4)
unfolding rules_on_literals
reserved_word_after_an_operator = refl

word_not_is_no_feature : fault_of (with_condition (codes "not")) ≡ Some (fault 11 Elements 0 0 0)
unfolding rules_on_literals
word_not_is_no_feature = refl

word_name_is_no_feature : fault_of (with_condition (codes "name")) ≡ Some (fault 11 Elements 0 0 0)
unfolding rules_on_literals
word_name_is_no_feature = refl

true_is_an_expression : fault_of (with_condition (codes "true")) ≡ None
unfolding rules_on_literals
true_is_an_expression = refl

false_is_an_expression : fault_of (with_condition (codes "false")) ≡ None
unfolding rules_on_literals
false_is_an_expression = refl

word_of_65_letters_is_no_name : fault_of (with_condition (codes "A" ++ repeated 64 (codes "x"))) ≡ Some (fault 11 Elements 0 0 0)
unfolding rules_on_literals
word_of_65_letters_is_no_name = refl

empty_condition : fault_of (with_condition (codes "")) ≡ Some (fault 11 Elements 0 0 0)
unfolding rules_on_literals
empty_condition = refl

blank_condition : fault_of (with_condition (codes " ")) ≡ Some (fault 11 Elements 0 0 1)
unfolding rules_on_literals
blank_condition = refl

opening_parenthesis_alone : fault_of (with_condition (codes "(")) ≡ Some (fault 11 Elements 0 0 1)
unfolding rules_on_literals
opening_parenthesis_alone = refl

empty_parentheses : fault_of (with_condition (codes "()")) ≡ Some (fault 11 Elements 0 0 1)
unfolding rules_on_literals
empty_parentheses = refl

parenthesis_never_opened : fault_of (with_condition (codes "A)")) ≡ Some (fault 11 Elements 0 0 1)
unfolding rules_on_literals
parenthesis_never_opened = refl

parenthesis_never_closed : fault_of (with_condition (codes "(A")) ≡ Some (fault 11 Elements 0 0 2)
unfolding rules_on_literals
parenthesis_never_closed = refl

two_names_side_by_side : fault_of (with_condition (codes "A B")) ≡ Some (fault 11 Elements 0 0 2)
unfolding rules_on_literals
two_names_side_by_side = refl

negation_of_nothing : fault_of (with_condition (codes "!")) ≡ Some (fault 11 Elements 0 0 1)
unfolding rules_on_literals
negation_of_nothing = refl

negation_of_a_negation : fault_of (with_condition (codes "!!A")) ≡ None
unfolding rules_on_literals
negation_of_a_negation = refl

two_operators_side_by_side : fault_of (with_condition (codes "A &| B")) ≡ Some (fault 11 Elements 0 0 3)
unfolding rules_on_literals
two_operators_side_by_side = refl

unknown_name_behind_operators : fault_of (with_condition (codes "A => B => Q")) ≡ Some (fault 12 Elements 0 0 10)
unfolding rules_on_literals
unknown_name_behind_operators = refl

word_that_begins_with_a_digit : fault_of (with_condition (codes "9A")) ≡ Some (fault 11 Elements 0 0 0)
unfolding rules_on_literals
word_that_begins_with_a_digit = refl

less_sign_alone : fault_of (with_condition (codes "A < B")) ≡ Some (fault 11 Elements 0 0 2)
unfolding rules_on_literals
less_sign_alone = refl

every_operator_reads : fault_of (with_condition (codes "A <=> (B | !R) & true")) ≡ None
unfolding rules_on_literals
every_operator_reads = refl

equal_sign_alone : fault_of (with_condition (codes "A = B")) ≡ Some (fault 11 Elements 0 0 2)
unfolding rules_on_literals
equal_sign_alone = refl

tab_is_in_no_text : fault_of (with_condition (codes "A\\t")) ≡ Some (fault 4 Elements 0 0 0)
unfolding rules_on_literals
tab_is_in_no_text = refl

unknown_name_before_an_early_end : fault_of (with_condition (codes "Q & (")) ≡ Some (fault 12 Elements 0 0 0)
unfolding rules_on_literals
unknown_name_before_an_early_end = refl

unknown_name_in_an_open_parenthesis : fault_of (with_condition (codes "(Q")) ≡ Some (fault 12 Elements 0 0 1)
unfolding rules_on_literals
unknown_name_in_an_open_parenthesis = refl

early_end_in_a_parenthesis : fault_of (with_condition (codes "A & (B")) ≡ Some (fault 11 Elements 0 0 6)
unfolding rules_on_literals
early_end_in_a_parenthesis = refl

letter_outside_ascii : fault_of (with_condition (codes "A\\u00e9")) ≡ Some (fault 11 Elements 0 0 1)
unfolding rules_on_literals
letter_outside_ascii = refl

parenthesis_closed_once_too_often : fault_of (with_condition (codes "A & !B)")) ≡ Some (fault 11 Elements 0 0 6)
unfolding rules_on_literals
parenthesis_closed_once_too_often = refl

operator_in_front : fault_of (with_condition (codes "=> A")) ≡ Some (fault 11 Elements 0 0 0)
unfolding rules_on_literals
operator_in_front = refl

equivalences_in_a_row : fault_of (with_condition (codes "A<=>B<=>R")) ≡ None
unfolding rules_on_literals
equivalences_in_a_row = refl

condition_of_4097_bytes : fault_of (with_condition (repeated 4097 (codes "x"))) ≡ Some (fault 4 Elements 0 0 0)
unfolding rules_on_literals
condition_of_4097_bytes = refl

operand_as_token_513 : fault_of (with_condition (codes "A" ++ repeated 256 (codes " & A"))) ≡ Some (fault 11 Elements 0 0 1024)
unfolding rules_on_literals
operand_as_token_513 = refl

early_end_after_512_tokens : fault_of (with_condition (repeated 512 (codes "!"))) ≡ Some (fault 11 Elements 0 0 512)
unfolding rules_on_literals
early_end_after_512_tokens = refl

condition_of_512_tokens : fault_of (with_condition (repeated 511 (codes "!") ++ codes "A")) ≡ None
unfolding rules_on_literals
condition_of_512_tokens = refl

stray_byte_as_token_513 : fault_of (with_condition (repeated 512 (codes "!") ++ codes "9")) ≡ Some (fault 11 Elements 0 0 512)
unfolding rules_on_literals
stray_byte_as_token_513 = refl

stray_byte_as_token_512 : fault_of (with_condition (codes "A" ++ repeated 255 (codes " & A") ++ codes " 9")) ≡ Some (fault 11 Elements 0 0 1022)
unfolding rules_on_literals
stray_byte_as_token_512 = refl
