use Rattle.std.proofs.Common.{◌≡◌, take, drop}
use Rattle.std.specs.Prelude.{None}
use Rattle.meaning.specs.Documents.{texts_in}
use Rattle.doc_tree.specs.View.{documents}
use Rattle.lifted_case.specs.ReadFaults.{first_bad_after}
use Rattle.lifted_case.proofs.values.lists.names.Given as goal

abbrev pub invariant-items : goal.invariant-items
invariant-items l =
    (l.names ≡ texts_in (documents (take l.item-index l.items)))
    × (first_bad_after l.names l.item-index (texts_in (documents (drop l.item-index l.items))) ≡ None)
