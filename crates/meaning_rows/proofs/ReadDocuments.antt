-- What bytes say as a document in JSON and in TOML, computed by the check.
use Rattle.std.specs.Prelude.{◌≡◌, ℕ, pos, List, [], ◌∷◌, ◌++◌, true, Option, Some, None, refl, codes, is_some}
use Rattle.meaning.specs.Documents.{Document, text, number, truth, list, table, other, no_documents, document, no_members, member, Json, Toml, document_of}
use Rattle.toml.proofs.OnLiterals.{toml_on_literals}
use Rattle.meaning_rows.proofs.Samples.{json, repeated, meaning_on_literals}

abbrev read : List ℕ → Option Document
read s = document_of Json (json s)

abbrev whole : ℕ → Option Document
whole n = Some (number (pos n))

-- ---- numbers

one : read (codes "1") ≡ whole 1
unfolding meaning_on_literals
one = refl

greatest_whole_number : read (codes "9223372036854775807") ≡ whole 9223372036854775807
unfolding meaning_on_literals
greatest_whole_number = refl

number_past_64_bits : read (codes "9223372036854775808") ≡ Some other
unfolding meaning_on_literals
number_past_64_bits = refl

number_below_64_bits : read (codes "-9223372036854775809") ≡ Some other
unfolding meaning_on_literals
number_below_64_bits = refl

zero_with_a_sign : read (codes "-0") ≡ Some other
unfolding meaning_on_literals
zero_with_a_sign = refl

fraction : read (codes "1.0") ≡ Some other
unfolding meaning_on_literals
fraction = refl

exponent : read (codes "1e0") ≡ Some other
unfolding meaning_on_literals
exponent = refl

-- ---- null

null_at_the_top : read (codes "null") ≡ Some other
unfolding meaning_on_literals
null_at_the_top = refl

null_in_a_list : read (codes "[null]") ≡ Some (list (document other no_documents))
unfolding meaning_on_literals
null_in_a_list = refl

null_member : read (codes "{'a':null}") ≡ Some (table no_members)
unfolding meaning_on_literals
null_member = refl

-- ---- members

members_in_byte_order : read (codes "{'b':1,'a':2}")
    ≡ Some (table (member (codes "a") (number (pos 2)) (member (codes "b") (number (pos 1)) no_members)))
unfolding meaning_on_literals
members_in_byte_order = refl

last_of_a_repeated_member : read (codes "{'a':1,'a':2}") ≡ Some (table (member (codes "a") (number (pos 2)) no_members))
unfolding meaning_on_literals
last_of_a_repeated_member = refl

last_of_a_repeated_member_is_null : read (codes "{'a':1,'a':null}") ≡ Some (table no_members)
unfolding meaning_on_literals
last_of_a_repeated_member_is_null = refl

null_before_a_repeated_member : read (codes "{'a':null,'a':2}") ≡ Some (table (member (codes "a") (number (pos 2)) no_members))
unfolding meaning_on_literals
null_before_a_repeated_member = refl

-- ---- no documents

nothing : read [] ≡ None
unfolding meaning_on_literals
nothing = refl

two_documents : read (codes "{} {}") ≡ None
unfolding meaning_on_literals
two_documents = refl

spaces_around : read (codes " {} \n") ≡ Some (table no_members)
unfolding meaning_on_literals
spaces_around = refl

comma_at_the_end : read (codes "[1,]") ≡ None
unfolding meaning_on_literals
comma_at_the_end = refl

lists_127_deep : is_some (document_of Json (repeated 127 (codes "[") ++ repeated 127 (codes "]"))) ≡ true
unfolding meaning_on_literals
lists_127_deep = refl

lists_128_deep : document_of Json (repeated 128 (codes "[") ++ repeated 128 (codes "]")) ≡ None
unfolding meaning_on_literals
lists_128_deep = refl

mark_of_byte_order : document_of Json (239 ∷ 187 ∷ 191 ∷ codes "{}") ≡ None
unfolding meaning_on_literals
mark_of_byte_order = refl

bytes_that_are_no_text : document_of Json (34 ∷ 255 ∷ 34 ∷ []) ≡ None
unfolding meaning_on_literals
bytes_that_are_no_text = refl

half_of_a_pair : read (codes "'\\ud800'") ≡ None
unfolding meaning_on_literals
half_of_a_pair = refl

letter_told_by_its_number : read (codes "'\\u00e9'") ≡ Some (text (195 ∷ 169 ∷ []))
unfolding meaning_on_literals
letter_told_by_its_number = refl

newline_in_a_text : read (codes "'a\nb'") ≡ None
unfolding meaning_on_literals
newline_in_a_text = refl

-- ---- TOML

date_in_toml : document_of Toml (codes "a = 2024-05-06\n") ≡ Some (table (member (codes "a") other no_members))
unfolding meaning_on_literals toml_on_literals
date_in_toml = refl

fraction_in_toml : document_of Toml (codes "a = 1.5\n") ≡ Some (table (member (codes "a") other no_members))
unfolding meaning_on_literals toml_on_literals
fraction_in_toml = refl

truth_in_toml : document_of Toml (codes "a = true\n") ≡ Some (table (member (codes "a") (truth true) no_members))
unfolding meaning_on_literals toml_on_literals
truth_in_toml = refl

repeated_member_in_toml : document_of Toml (codes "a = 1\na = 2\n") ≡ None
unfolding meaning_on_literals toml_on_literals
repeated_member_in_toml = refl

number_past_64_bits_in_toml : document_of Toml (codes "a = 9223372036854775808\n") ≡ None
unfolding meaning_on_literals toml_on_literals
number_past_64_bits_in_toml = refl

empty_toml : document_of Toml [] ≡ Some (table no_members)
unfolding meaning_on_literals toml_on_literals
empty_toml = refl
