use Rattle.std.proofs.Common.{◌≡◌, drop}
use Rattle.std.specs.List.{list_all}
use Rattle.doc_tree.specs.View.{documents}
use Rattle.lifted_case.proofs.faults.items.all_pass.Given as goal

abbrev pub invariant-items : goal.invariant-items
invariant-items g l = list_all (g.T.ItemTest.passes l.test) (documents (drop l.item-index l.items)) ≡ list_all (g.T.ItemTest.passes l.test) (documents l.items)
