use Rattle.std.proofs.Common.{◌≡◌, drop, map}
use Rattle.std.specs.Prelude.{not, filter}
use Rattle.std.specs.List.{enumerate_from}
use Rattle.meaning.specs.Texts.{first_of_list}
use Rattle.meaning.specs.CaseReading.{failing}
use Rattle.doc_tree.specs.View.{documents}
use Rattle.lifted_case.proofs.faults.items.first_failing.Given as goal

abbrev pub invariant-items : goal.invariant-items
invariant-items g l =
    first_of_list (map (λ x. x.0) (filter (λ x. not (g.T.ItemTest.passes l.test x.1)) (enumerate_from l.i (documents (drop l.i l.items)))))
    ≡ first_of_list (failing (g.T.ItemTest.passes l.test) (documents l.items))
