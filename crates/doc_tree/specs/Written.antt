-- The JSON text of a document.
use Rattle.std.specs.Prelude.{◌≡◌, ℕ, List, Bool, true, false, map}
use Rattle.serde_json.specs.Data as json
use Rattle.serde_json.specs.Find.{of_integer}
use Rattle.serde_json.specs.View.{items_of}
use Rattle.serde_json.specs.Written.{compact_text, has_float, items_have_float, members_have_float}
use Rattle.meaning.specs.Documents.{Document, text, number, truth, list, table, other, Documents, no_documents, document, Members, no_members, member, entries, of_json, members_of_json}
use Rattle.doc_tree.specs.View.{members_of}

-- the value of JSON that a document is written as; another kind of value has none of its own
abbrev mutual
  pub data_of : Document → json.Data
  data_of (text s) = json.string s
  data_of (number z) = json.number (of_integer z)
  data_of (truth b) = json.boolean b
  data_of (list ds) = json.array (items_data ds)
  data_of (table ms) = json.object (members_data ms)
  data_of other = json.null

  pub items_data : Documents → json.Items
  items_data no_documents = json.no_items
  items_data (document d ds) = json.item (data_of d) (items_data ds)

  pub members_data : Members → json.Members
  members_data no_members = json.no_members
  members_data (member k d ms) = json.member k (data_of d) (members_data ms)

-- the compact text, with the members in the order in which they stand
unfoldable pub json_text : Document → List ℕ
json_text d = compact_text (data_of d)

-- ---- for private clauses: what is written for a document, for the items of a list and for the members of a table

abbrev pub is_null : json.Data → Bool
is_null json.null = true
is_null (json.boolean b) = false
is_null (json.number n) = false
is_null (json.string s) = false
is_null (json.array ds) = false
is_null (json.object ms) = false

pub record StandsFor (v : json.Data) (d : Document) : Type 0 where
  pub value : v ≡ data_of d
  pub back : of_json v ≡ d
  pub no_float : has_float v ≡ false
  pub not_null : is_null v ≡ false

pub record ItemsStandFor (vs : List json.Data) (ds : List Document) : Type 0 where
  pub value : vs ≡ map data_of ds
  pub back : map of_json vs ≡ ds
  pub no_float : items_have_float (items_of vs) ≡ false

pub record MembersStandFor (vs : json.Members) (es : List (List ℕ × Document)) : Type 0 where
  pub value : vs ≡ members_data (members_of es)
  pub back : entries (members_of_json vs) ≡ es
  pub no_float : members_have_float vs ≡ false
