use Rattle.std.proofs.Common.{◌≡◌, drop}
use Rattle.doc_tree.specs.View.{documents, documents_of, members, members_of}
use Rattle.doc_tree.specs.Order.{items_have_no_other, values_have_no_other}
use Rattle.text_tests.proofs.documents.+testing.Given as goal

abbrev pub invariant-items_have_no_other-items : goal.invariant-items_have_no_other-items
invariant-items_have_no_other-items l =
    items_have_no_other (documents_of (documents (drop l.doc-index l.docs))) ≡ items_have_no_other (documents_of (documents l.docs))

abbrev pub invariant-values_have_no_other-entries : goal.invariant-values_have_no_other-entries
invariant-values_have_no_other-entries l =
    values_have_no_other (members_of (members (drop l.entry-index l.entries))) ≡ values_have_no_other (members_of (members l.entries))
