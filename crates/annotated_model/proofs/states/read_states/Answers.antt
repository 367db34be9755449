use Rattle.std.proofs.Common.{length, ◌+◌, refl, arith}
use Rattle.doc_tree.specs.View.{document, documents}
use Rattle.annotated_model.specs.Faults.{IsFirst}
use Rattle.annotated_model.specs.StateRules.{given_states, system_states_broken, all_states_broken}
use Rattle.annotated_model.proofs.ItemFaults.{at_error, first_of_left}
use Rattle.annotated_model.proofs.states.read_states.Goals as goal

pub returns-in_err-read_system-clause-fault : goal.returns-in_err-read_system-clause-fault
returns-in_err-read_system-clause-fault c =
    let labels = c.args.labels.now in
    let systems = c.args.systems.now in
    let item = c.systems.item in
    let system = c.index-systems-item.result in
    let stop = c.in_err-read_system.field-0.0 in
    let all = all_states_broken labels 0 0 (documents systems) in
    at_error c.from_residual.result stop (IsFirst all)
    (first_of_left (all_states_broken labels item c.systems.counted) systems item system (system_states_broken labels item c.systems.counted (document system)) all
    (all_states_broken labels (item + 1) (c.systems.counted + length (given_states (document system)))) stop (omega arith) c.index-systems-item.is c.systems.invariant.none (λ ds. refl)
    c.in_err-read_system.ensures.fault) c.from_residual.ensures.1
