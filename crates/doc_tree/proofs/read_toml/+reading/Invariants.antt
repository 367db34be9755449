use Rattle.std.proofs.Common.{◌≡◌, true, ◌++◌, List, take, drop}
use Rattle.toml.specs.Data.{items_are_sorted}
use Rattle.toml.specs.View.{items_view, members_view}
use Rattle.toml.proofs.Views.{Entry, values_sorted}
use Rattle.meaning.specs.Documents.{listed, entries, items_of_toml, members_of_toml}
use Rattle.doc_tree.specs.View.{documents, members}
use Rattle.doc_tree.proofs.read_toml.+reading.Given as goal

abbrev pub invariant-items_from-items : goal.invariant-items_from-items
invariant-items_from-items l =
    (documents l.docs.items ++ listed (items_of_toml (items_view (drop l.item-index l.items))) ≡ listed (items_of_toml (items_view l.items)))
    × (items_are_sorted (items_view (take l.item-index l.items)) ≡ true)

abbrev pub invariant-entries_from-members : goal.invariant-entries_from-members
invariant-entries_from-members l =
    (members l.entries.items ++ entries (members_of_toml (members_view l.name-iterator)) ≡ entries (members_of_toml (members_view l.table.entries)))
    × (done : List Entry) × (l.table.entries ≡ done ++ l.name-iterator) × (values_sorted (members_view done) ≡ true)
