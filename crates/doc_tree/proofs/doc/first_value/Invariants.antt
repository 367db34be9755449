use Rattle.std.proofs.Common.{◌≡◌, drop}
use Rattle.meaning.specs.Documents.{value_of}
use Rattle.doc_tree.specs.View.{members, members_of}
use Rattle.doc_tree.proofs.doc.first_value.Given as goal

abbrev pub invariant-entries : goal.invariant-entries
invariant-entries l = value_of l.name (members_of (members (drop l.entry-index l.entries))) ≡ value_of l.name (members_of (members l.entries))
