-- A case's bytes are no fewer than the rows of its table.
use Rattle.std.proofs.Common.{ℕ, ◌<◌, ◌≤◌, Bool, true, false, List, [], ◌∷◌, ◌++◌, length, map, arith, length-append}
use Rattle.serde_json.specs.Data.{Data, string, array, object, Members, member}
use Rattle.serde_json.specs.Written.{compact_text, items_text, members_text, comma_if}
use Rattle.std.proofs.lemmas.List.{length-map}
use Rattle.std.specs.Prelude.{codes}
use Rattle.meaning.specs.Cases.{newline}
use Rattle.meaning.specs.CaseFiles.{CaseDocument}
use Rattle.meaning.specs.CaseBytes.{items_of, members_of, natural_data, list_data, node_data, relation_data, system_data, row_data, case_data, case_bytes}

later_items : (vs : List Data) → length vs < length (items_text true (items_of vs))
later_items [] = omega arith
later_items (v ∷ vs) =
    let rest : length vs < length (items_text true (items_of vs)) = later_items vs in
    omega (arith, length-append (compact_text v) (items_text true (items_of vs)))

items_length : (vs : List Data) → length vs ≤ length (compact_text (array (items_of vs)))
items_length [] = omega arith
items_length (v ∷ vs) =
    let rest : length vs < length (items_text true (items_of vs)) = later_items vs in
    omega (arith, length-append (compact_text v) (items_text true (items_of vs)))

tail_length : (xs ys : List ℕ) → length ys ≤ length (xs ++ ys)
tail_length xs ys = omega (arith, length-append xs ys)

le_then : {a b c : ℕ} → a ≤ b → b ≤ c → a ≤ c
le_then p q = omega arith

module _ (later : Bool) (k : List ℕ) (d : Data) (ms : Members) where
  member_length : length (compact_text d ++ members_text true ms) ≤ length (members_text later (member k d ms))
  member_length = le_then (tail_length (58 ∷ []) (compact_text d ++ members_text true ms)) (le_then (tail_length (compact_text (string k)) (58 ∷ (compact_text d ++ members_text true ms))) (tail_length (comma_if later) (compact_text (string k) ++ 58 ∷ (compact_text d ++ members_text true ms))))

  value_length : length (compact_text d) ≤ length (members_text later (member k d ms))
  value_length = let all = member_length in omega (arith, length-append (compact_text d) (members_text true ms))

  rest_length : length (members_text true ms) ≤ length (members_text later (member k d ms))
  rest_length = let all = member_length in omega (arith, length-append (compact_text d) (members_text true ms))

-- the value with five members before it
sixth_length : (a b c d e f : List ℕ × Data) (ms : List (List ℕ × Data)) → length (compact_text f.1) ≤ length (compact_text (object (members_of (a ∷ b ∷ c ∷ d ∷ e ∷ f ∷ ms))))
sixth_length a b c d e f ms =
    le_then (value_length true f.0 f.1 (members_of ms))
    (le_then (rest_length true e.0 e.1 (members_of (f ∷ ms)))
    (le_then (rest_length true d.0 d.1 (members_of (e ∷ f ∷ ms)))
    (le_then (rest_length true c.0 c.1 (members_of (d ∷ e ∷ f ∷ ms)))
    (le_then (rest_length true b.0 b.1 (members_of (c ∷ d ∷ e ∷ f ∷ ms)))
    (le_then (rest_length false a.0 a.1 (members_of (b ∷ c ∷ d ∷ e ∷ f ∷ ms)))
    (tail_length (123 ∷ []) (members_text false (members_of (a ∷ b ∷ c ∷ d ∷ e ∷ f ∷ ms)))))))))

pub table_length : (k : CaseDocument) → length k.table ≤ length (case_bytes k)
unfolding case_bytes
table_length k =
    let rows : length (map row_data k.table) ≤ length (compact_text (list_data row_data k.table)) = items_length (map row_data k.table) in
    let whole : length (compact_text (list_data row_data k.table)) ≤ length (compact_text (case_data k)) =
    sixth_length (codes "case", natural_data 1) (codes "features", list_data string k.features) (codes "nodes", list_data node_data k.nodes) (codes "relations", list_data relation_data k.relations)
    (codes "systems", list_data system_data k.systems) (codes "table", list_data row_data k.table) ((codes "title", string k.title) ∷ (codes "valid", natural_data k.valid) ∷ []) in
    omega (arith, length-map k.table row_data, length-append (compact_text (case_data k)) newline)
