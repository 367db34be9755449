-- What is plain is written as it was read.
use Rattle.std.proofs.Common.{◌≡◌, ℕ, pos, negsuc, List, true, ◌&&◌, if◌then◌else◌, refl, ap, ap₂, ◌∙◌}
use Rattle.serde_json.specs.Data.{Num, unsigned, negative, float, Data, null, boolean, number, string, array, object, Items, no_items, item, Members, no_members, member}
use Rattle.meaning.specs.Documents.{Document, of_json, of_number, items_of_json, members_of_json, or_left_out}
use Rattle.meaning.specs.Documents as meaning
use Rattle.doc_tree.specs.Order.{has_no_other, items_have_no_other, values_have_no_other}
use Rattle.doc_tree.specs.Written.{data_of, items_data, members_data}
use Rattle.doc_tree.proofs.Writing.{both_true}
use Rattle.lifted_case.specs.Written.{is_plain, items_are_plain, members_are_plain, is_whole}

-- a member that is plain is not left out
pub or_left_out-plain : (k : List ℕ) (v : Data) (d : Document) (ms : meaning.Members) → is_plain v ≡ true → or_left_out k v d ms ≡ meaning.member k d ms
or_left_out-plain k null d ms h = cc
or_left_out-plain k (boolean b) d ms h = refl
or_left_out-plain k (number n) d ms h = refl
or_left_out-plain k (string s) d ms h = refl
or_left_out-plain k (array ds) d ms h = refl
or_left_out-plain k (object es) d ms h = refl

number_again : (n : Num) → is_whole n ≡ true → data_of (of_number n) ≡ number n
number_again (unsigned n) h = ap (λ b. data_of (if b then meaning.number (pos n) else meaning.other)) h
number_again (negative (pos n)) h = cc
number_again (negative (negsuc n)) h = refl
number_again (float x) h = cc

number_no_other : (n : Num) → is_whole n ≡ true → has_no_other (of_number n) ≡ true
number_no_other (unsigned n) h = ap (λ b. has_no_other (if b then meaning.number (pos n) else meaning.other)) h
number_no_other (negative z) h = refl
number_no_other (float x) h = cc

mutual
  pub data_of-of_json : (v : Data) → is_plain v ≡ true → data_of (of_json v) ≡ v
  data_of-of_json null h = cc
  data_of-of_json (boolean b) h = refl
  data_of-of_json (number n) h = number_again n h
  data_of-of_json (string s) h = refl
  data_of-of_json (array ds) h = ap array (items_data-of_json ds h)
  data_of-of_json (object ms) h = ap object (members_data-of_json ms h)

  items_data-of_json : (ds : Items) → items_are_plain ds ≡ true → items_data (items_of_json ds) ≡ ds
  items_data-of_json no_items h = refl
  items_data-of_json (item d ds) h =
      let parts = both_true (is_plain d) (items_are_plain ds) h in
      ap₂ item (data_of-of_json d parts.0) (items_data-of_json ds parts.1)

  members_data-of_json : (ms : Members) → members_are_plain ms ≡ true → members_data (members_of_json ms) ≡ ms
  members_data-of_json no_members h = refl
  members_data-of_json (member k d ms) h =
      let parts = both_true (is_plain d) (members_are_plain ms) h in
      ap members_data (or_left_out-plain k d (of_json d) (members_of_json ms) parts.0)
      ∙ ap₂ (member k) (data_of-of_json d parts.0) (members_data-of_json ms parts.1)

mutual
  pub has_no_other-of_json : (v : Data) → is_plain v ≡ true → has_no_other (of_json v) ≡ true
  has_no_other-of_json null h = cc
  has_no_other-of_json (boolean b) h = refl
  has_no_other-of_json (number n) h = number_no_other n h
  has_no_other-of_json (string s) h = refl
  has_no_other-of_json (array ds) h = items_have_no_other-of_json ds h
  has_no_other-of_json (object ms) h = values_have_no_other-of_json ms h

  items_have_no_other-of_json : (ds : Items) → items_are_plain ds ≡ true → items_have_no_other (items_of_json ds) ≡ true
  items_have_no_other-of_json no_items h = refl
  items_have_no_other-of_json (item d ds) h =
      let parts = both_true (is_plain d) (items_are_plain ds) h in
      ap₂ (λ a b. a && b) (has_no_other-of_json d parts.0) (items_have_no_other-of_json ds parts.1)

  values_have_no_other-of_json : (ms : Members) → members_are_plain ms ≡ true → values_have_no_other (members_of_json ms) ≡ true
  values_have_no_other-of_json no_members h = refl
  values_have_no_other-of_json (member k d ms) h =
      let parts = both_true (is_plain d) (members_are_plain ms) h in
      ap values_have_no_other (or_left_out-plain k d (of_json d) (members_of_json ms) parts.0)
      ∙ ap₂ (λ a b. a && b) (has_no_other-of_json d parts.0) (values_have_no_other-of_json ms parts.1)
