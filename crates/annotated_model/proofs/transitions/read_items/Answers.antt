use Rattle.std.proofs.Common.{◌+◌, refl, arith}
use Rattle.meaning.specs.BundlePlaces.{Transitions, faults_at}
use Rattle.doc_tree.specs.View.{document, documents}
use Rattle.annotated_model.specs.Faults.{IsFirst}
use Rattle.annotated_model.specs.TransitionRules.{transition_broken, transitions_broken}
use Rattle.annotated_model.proofs.ItemFaults.{at_error, first_of_left}
use Rattle.annotated_model.proofs.transitions.read_items.Goals as goal

pub returns-in_err-read_transition-clause-fault : goal.returns-in_err-read_transition-clause-fault
returns-in_err-read_transition-clause-fault c =
    let features = c.args.features.now in
    let states = c.args.states.now in
    let items = c.args.items.now in
    let no = c.items.no in
    let transition = c.index-items-no.result in
    let stop = c.in_err-read_transition.field-0.0 in
    let all = transitions_broken features c.args.item c.args.counted states 0 (documents items) in
    at_error c.from_residual.result stop (IsFirst all)
    (first_of_left (transitions_broken features c.args.item c.args.counted states no) items no transition
    (faults_at Transitions c.args.item no (transition_broken features c.args.counted states no (document transition))) all
    (transitions_broken features c.args.item c.args.counted states (no + 1)) stop (omega arith) c.index-items-no.is c.items.invariant.none (λ ds. refl)
    c.in_err-read_transition.ensures.fault) c.from_residual.ensures.1
