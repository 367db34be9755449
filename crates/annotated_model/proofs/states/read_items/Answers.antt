use Rattle.std.proofs.Common.{[], ◌∷◌, ◌++◌, ◌+◌, refl, arith}
use Rattle.meaning.specs.BundlePlaces.{States, faults_at, name_in}
use Rattle.doc_tree.specs.View.{document, documents}
use Rattle.annotated_model.specs.Faults.{IsFirst}
use Rattle.annotated_model.specs.StateRules.{state_broken, states_broken}
use Rattle.annotated_model.proofs.ItemFaults.{at_error, first_of_left}
use Rattle.annotated_model.proofs.states.read_items.Goals as goal

pub returns-in_err-read_state-clause-fault : goal.returns-in_err-read_state-clause-fault
returns-in_err-read_state-clause-fault c =
    let labels = c.args.labels.now in
    let items = c.args.items.now in
    let no = c.items.no in
    let state = c.index-items-no.result in
    let stop = c.in_err-read_state.field-0.0 in
    let all = states_broken labels c.args.item c.args.counted [] 0 (documents items) in
    at_error c.from_residual.result stop (IsFirst all)
    (first_of_left (states_broken labels c.args.item c.args.counted c.items.names no) items no state
    (faults_at States c.args.item no (state_broken labels c.args.counted c.items.names no (document state))) all
    (states_broken labels c.args.item c.args.counted (c.items.names ++ name_in (document state) ∷ []) (no + 1)) stop (omega arith) c.index-items-no.is c.items.invariant.none (λ ds. refl)
    c.in_err-read_state.ensures.fault) c.from_residual.ensures.1
