use Rattle.std.proofs.Common.{◌≡◌, take}
use Rattle.meaning.specs.CaseReading as reading
use Rattle.doc_tree.specs.View.{documents}
use Rattle.lifted_case.proofs.values.lists.naturals.Given as goal

abbrev pub invariant-items : goal.invariant-items
invariant-items l = l.numbers.items ≡ reading.naturals_in (documents (take l.item-index l.items))
