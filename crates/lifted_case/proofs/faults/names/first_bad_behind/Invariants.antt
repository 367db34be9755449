use Rattle.std.proofs.Common.{◌≡◌, drop}
use Rattle.meaning.specs.Documents.{texts_in}
use Rattle.doc_tree.specs.View.{documents}
use Rattle.lifted_case.specs.ReadFaults.{first_bad_after}
use Rattle.lifted_case.proofs.faults.names.first_bad_behind.Given as goal

abbrev pub invariant-items : goal.invariant-items
invariant-items l = first_bad_after l.seen l.i (texts_in (documents (drop l.i l.items))) ≡ first_bad_after l.initial.seen 0 (texts_in (documents l.items))
