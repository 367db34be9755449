use Rattle.std.proofs.Common.{◌≡◌, ◌+◌, [], subst}
use Rattle.std.specs.Prelude.{IfOk, IfErr}
use Rattle.doc_tree.specs.View.{document}
use Rattle.lifted_case.specs.ReadFaults.{Finds, id_faults_of}
use Rattle.lifted_case.proofs.faults.ids.check_ids.Goals as goal

pub returns-clause-kept : goal.returns-clause-kept
returns-clause-kept c =
    subst (λ n. IfOk c.check_ids_below.result (λ _. id_faults_of (n + 2) (document c.args.doc.now) ≡ [])) c.size_at.ensures.size c.check_ids_below.ensures.kept

pub returns-clause-fault : goal.returns-clause-fault
returns-clause-fault c =
    subst (λ n. IfErr c.check_ids_below.result (Finds (id_faults_of (n + 2) (document c.args.doc.now)))) c.size_at.ensures.size c.check_ids_below.ensures.fault
