-- What a document needs to be written: members in order, no other kind of value, and not too deep.
use Rattle.std.specs.Prelude.{ℕ, suc, max, List, Bool, true, false, ◌&&◌}
use Rattle.std.specs.Ordering.{nat_cmp, is_lt}
use Rattle.std.specs.Cmp.Lexicographic.{slice_cmp}
use Rattle.meaning.specs.Documents.{Document, text, number, truth, list, table, other, Documents, no_documents, document, Members, no_members, member}

-- the first name stands before the second in the order of bytes
abbrev pub is_before : List ℕ → List ℕ → Bool
is_before k l = is_lt (slice_cmp nat_cmp k l)

-- the name stands before each name of the members
abbrev pub is_before_all : List ℕ → Members → Bool
is_before_all k no_members = true
is_before_all k (member l d ms) = is_before k l && is_before_all k ms

-- each name stands before all that follow it, so none stands twice
abbrev pub names_rise : Members → Bool
names_rise no_members = true
names_rise (member k d ms) = is_before_all k ms && names_rise ms

-- the members of each table, however deep inside, stand in the order of the bytes of their names, no name twice
abbrev mutual
  pub is_in_order : Document → Bool
  is_in_order (text s) = true
  is_in_order (number z) = true
  is_in_order (truth b) = true
  is_in_order (list ds) = items_in_order ds
  is_in_order (table ms) = names_rise ms && values_in_order ms
  is_in_order other = true

  pub items_in_order : Documents → Bool
  items_in_order no_documents = true
  items_in_order (document d ds) = is_in_order d && items_in_order ds

  pub values_in_order : Members → Bool
  values_in_order no_members = true
  values_in_order (member k d ms) = is_in_order d && values_in_order ms

-- each value, however deep inside, is a text, a whole number, a truth value, a list or a table
abbrev mutual
  pub has_no_other : Document → Bool
  has_no_other (text s) = true
  has_no_other (number z) = true
  has_no_other (truth b) = true
  has_no_other (list ds) = items_have_no_other ds
  has_no_other (table ms) = values_have_no_other ms
  has_no_other other = false

  pub items_have_no_other : Documents → Bool
  items_have_no_other no_documents = true
  items_have_no_other (document d ds) = has_no_other d && items_have_no_other ds

  pub values_have_no_other : Members → Bool
  values_have_no_other no_members = true
  values_have_no_other (member k d ms) = has_no_other d && values_have_no_other ms

-- how deep lists and tables nest
abbrev mutual
  pub nesting : Document → ℕ
  nesting (text s) = 0
  nesting (number z) = 0
  nesting (truth b) = 0
  nesting (list ds) = suc (items_nesting ds)
  nesting (table ms) = suc (values_nesting ms)
  nesting other = 0

  pub items_nesting : Documents → ℕ
  items_nesting no_documents = 0
  items_nesting (document d ds) = max (nesting d) (items_nesting ds)

  pub values_nesting : Members → ℕ
  values_nesting no_members = 0
  values_nesting (member k d ms) = max (nesting d) (values_nesting ms)

-- the greatest nesting of a text that is read
abbrev pub most_nesting : ℕ
most_nesting = 127
