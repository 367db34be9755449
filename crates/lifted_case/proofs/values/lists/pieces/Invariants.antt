use Rattle.std.proofs.Common.{◌≡◌, take, map}
use Rattle.meaning.specs.CaseReading as reading
use Rattle.lifted_case.specs.CaseView.{case_part_of}
use Rattle.doc_tree.specs.View.{documents}
use Rattle.lifted_case.proofs.values.lists.pieces.Given as goal

abbrev pub invariant-items : goal.invariant-items
invariant-items l = map case_part_of l.pieces.items ≡ map reading.part_of (documents (take l.item-index l.items))
