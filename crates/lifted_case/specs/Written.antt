-- Values of JSON that are read back as they were written.
use Rattle.std.specs.Prelude.{◌≡◌, ◌^◌, ℕ, List, [], ◌∷◌, map, ℤ, pos, negsuc, Bool, true, false, ◌&&◌, nat_lt, ⊤}
use Rattle.serde_json.specs.Data.{Num, unsigned, negative, float, Data, null, boolean, number, string, array, object, Items, no_items, item, Members, no_members, member}
use Rattle.meaning.specs.CaseBytes.{items_of}
use Rattle.meaning.specs.Documents.{Document, of_json}

abbrev pub is_below_zero : ℤ → Bool
is_below_zero (pos n) = false
is_below_zero (negsuc n) = true

-- a whole number below 2 ^ 63, one below 0 as such
abbrev pub is_whole : Num → Bool
is_whole (unsigned n) = nat_lt n (2 ^ 63)
is_whole (negative z) = is_below_zero z
is_whole (float x) = false

-- no null, and each number whole
abbrev mutual
  pub is_plain : Data → Bool
  is_plain null = false
  is_plain (boolean b) = true
  is_plain (number n) = is_whole n
  is_plain (string s) = true
  is_plain (array ds) = items_are_plain ds
  is_plain (object ms) = members_are_plain ms

  pub items_are_plain : Items → Bool
  items_are_plain no_items = true
  items_are_plain (item d ds) = is_plain d && items_are_plain ds

  pub members_are_plain : Members → Bool
  members_are_plain no_members = true
  members_are_plain (member k d ms) = is_plain d && members_are_plain ms

-- ---- for private clauses: the document is read from the value, and what is written for the document is the value

pub record IsWritten (d : Document) (v : Data) : Type 0 where
  pub read : d ≡ of_json v
  pub plain : is_plain v ≡ true

-- the same of the items of a list
pub record AreWritten (ds : List Document) (vs : List Data) : Type 0 where
  pub read : ds ≡ map of_json vs
  pub plain : items_are_plain (items_of vs) ≡ true

-- the same of the members of a table
abbrev pub MembersWritten : List (List ℕ × Document) → List (List ℕ × Data) → Type 0
MembersWritten [] [] = ⊤
MembersWritten [] (m ∷ ms) = ⊥
MembersWritten (e ∷ es) [] = ⊥
MembersWritten (e ∷ es) (m ∷ ms) = (e.0 ≡ m.0) × (IsWritten e.1 m.1 × MembersWritten es ms)
