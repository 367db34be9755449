use Rattle.std.proofs.Common.{◌≡◌, ◌++◌, drop}
use Rattle.serde_json.specs.View.{items_view, members_view}
use Rattle.meaning.specs.Documents.{listed, entries, items_of_json, members_of_json}
use Rattle.doc_tree.specs.View.{documents, members}
use Rattle.doc_tree.proofs.read.+reading.Given as goal

abbrev pub invariant-items_from-items : goal.invariant-items_from-items
invariant-items_from-items l =
    documents l.docs.items ++ listed (items_of_json (items_view (drop l.item-index l.items))) ≡ listed (items_of_json (items_view l.items))

abbrev pub invariant-entries_from-members : goal.invariant-entries_from-members
invariant-entries_from-members l =
    members l.entries.items ++ entries (members_of_json (members_view l.name-iterator)) ≡ entries (members_of_json (members_view l.object.entries))
