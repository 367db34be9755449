-- The values that lists and tables are written as, in the words in which the definitions write the bytes of a case.
use Rattle.std.proofs.Common.{◌≡◌, ℕ, List, [], ◌∷◌, map, refl, ap}
use Rattle.serde_json.specs.Data as json
use Rattle.serde_json.specs.Written.{compact_text}
use Rattle.meaning.specs.CaseBytes as bytes
use Rattle.meaning.specs.CaseBytes.{list_data, natural_data}
use Rattle.meaning.specs.Documents.{Document, list, table}
use Rattle.doc_tree.specs.View.{documents_of, members_of}
use Rattle.doc_tree.specs.Written.{data_of, items_data, members_data, json_text}

pub json_text-data : (d : Document) (v : json.Data) → data_of d ≡ v → json_text d ≡ compact_text v
unfolding json_text
json_text-data d v e = ap compact_text e

pub items_data-map : {A : Type 0} (f : A → Document) (xs : List A) → items_data (documents_of (map f xs)) ≡ bytes.items_of (map (λ x. data_of (f x)) xs)
items_data-map f [] = refl
items_data-map f (x ∷ xs) = ap (json.item (data_of (f x))) (items_data-map f xs)

-- a list of what each of some things is written as
pub data_of-list : {A : Type 0} (f : A → Document) (xs : List A) → data_of (list (documents_of (map f xs))) ≡ list_data (λ x. data_of (f x)) xs
data_of-list f xs = ap json.array (items_data-map f xs)

abbrev pub members_written : List (List ℕ × Document) → List (List ℕ × json.Data)
members_written es = map (λ e. (e.0, data_of e.1)) es

members_data-members_of : (es : List (List ℕ × Document)) → members_data (members_of es) ≡ bytes.members_of (members_written es)
members_data-members_of [] = refl
members_data-members_of (e ∷ es) = ap (json.member e.0 (data_of e.1)) (members_data-members_of es)

-- a table with the members that are given, in their order
pub data_of-table : (es : List (List ℕ × Document)) → data_of (table (members_of es)) ≡ json.object (bytes.members_of (members_written es))
data_of-table es = ap json.object (members_data-members_of es)
