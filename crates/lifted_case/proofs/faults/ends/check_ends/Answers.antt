use Rattle.std.proofs.Common.{subst}
use Rattle.std.specs.Prelude.{codes, IfErr}
use Rattle.meaning.specs.Documents.{list_at}
use Rattle.meaning.specs.CaseReading.{faults_at, failing}
use Rattle.meaning.specs.BundlePlaces.{Relations}
use Rattle.doc_tree.specs.View.{document}
use Rattle.lifted_case.specs.ReadFaults.{Finds, ends_below}
use Rattle.lifted_case.proofs.faults.ends.check_ends.Goals as goal

pub returns-clause-fault : goal.returns-clause-fault
returns-clause-fault c =
    subst (λ n. IfErr c.check_items.result (Finds (faults_at 8 Relations (failing (ends_below n) (list_at (codes "relations") (document c.args.doc.now))))))
    c.size_at-nodes.ensures.size c.check_items.ensures.fault
