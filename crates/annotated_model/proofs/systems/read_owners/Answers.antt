use Rattle.std.proofs.Common.{[], ◌∷◌, ◌++◌, ◌+◌, codes, refl, arith}
use Rattle.meaning.specs.Documents.{text_at}
use Rattle.meaning.specs.BundlePlaces.{Systems, faults_at}
use Rattle.doc_tree.specs.View.{document, documents}
use Rattle.annotated_model.specs.Faults.{IsFirst}
use Rattle.annotated_model.specs.SystemRules.{system_broken, systems_broken, with_states}
use Rattle.annotated_model.proofs.ItemFaults.{at_error, first_of_left}
use Rattle.annotated_model.proofs.systems.read_owners.Goals as goal

pub returns-in_err-check-clause-fault : goal.returns-in_err-check-clause-fault
returns-in_err-check-clause-fault c =
    let known = c.args.known.now in
    let systems = c.args.systems.now in
    let no = c.systems.no in
    let owners = c.systems.owners in
    let counted = c.systems.counted in
    let system = c.index-systems-no.result in
    let stop = c.in_err-check.field-0.0 in
    let all = systems_broken known [] 0 0 (documents systems) in
    at_error c.from_residual.result stop (IsFirst all)
    (first_of_left (systems_broken known owners counted no) systems no system (faults_at Systems no 0 (system_broken known owners counted no (document system))) all
    (systems_broken known (owners ++ text_at (codes "element") (document system) ∷ []) (with_states counted (document system)) (no + 1)) stop (omega arith) c.index-systems-no.is
    c.systems.invariant.none (λ ds. refl) c.in_err-check.ensures.fault) c.from_residual.ensures.1
