use Rattle.std.proofs.Common.{◌≡◌, take, map}
use Rattle.meaning.specs.CaseReading as reading
use Rattle.doc_tree.specs.View.{documents}
use Rattle.lifted_case.proofs.values.lists.targets.Given as goal

abbrev pub invariant-items : goal.invariant-items
invariant-items l = l.targets.items ≡ map reading.target_of (documents (take l.item-index l.items))
