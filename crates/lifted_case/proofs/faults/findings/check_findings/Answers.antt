use Rattle.std.proofs.Common.{◌≡◌, [], map, subst, ap, ◌∙◌}
use Rattle.std.specs.Prelude.{codes, IfOk, IfErr}
use Rattle.meaning.specs.Documents.{list_at}
use Rattle.meaning.specs.CaseReading.{faults_at, failing}
use Rattle.meaning.specs.BundlePlaces.{Nodes}
use Rattle.doc_tree.specs.View.{document}
use Rattle.lifted_case.specs.ReadFaults.{Finds, size_at, node_members_fit}
use Rattle.lifted_case.proofs.faults.findings.check_findings.Goals as goal

pub returns-clause-kept : goal.returns-clause-kept
returns-clause-kept c =
    subst (λ states. IfOk c.check_items.result (λ _. faults_at 10 Nodes (failing (node_members_fit states) (list_at (codes "nodes") (document c.args.doc.now))) ≡ []))
    (c.as_slice-states.ensures.value ∙ (c.in_ok-states.ensures.ok ∙ ap (map (size_at (codes "states"))) c.list_at.ensures)) c.check_items.ensures.kept

pub returns-clause-fault : goal.returns-clause-fault
returns-clause-fault c =
    subst (λ states. IfErr c.check_items.result (Finds (faults_at 10 Nodes (failing (node_members_fit states) (list_at (codes "nodes") (document c.args.doc.now))))))
    (c.as_slice-states.ensures.value ∙ (c.in_ok-states.ensures.ok ∙ ap (map (size_at (codes "states"))) c.list_at.ensures)) c.check_items.ensures.fault
