use Rattle.std.proofs.Common.{◌≡◌, [], subst}
use Rattle.meaning.specs.BundlePlaces.{requires}
use Rattle.doc_tree.specs.View.{document}
use Rattle.annotated_model.specs.Faults.{IsFirst}
use Rattle.annotated_model.specs.StateRules.{all_states_broken}
use Rattle.annotated_model.specs.TransitionRules.{all_transitions_broken}
use Rattle.annotated_model.specs.SystemRules.{systems_broken, behaviour_faults}
use Rattle.annotated_model.proofs.BehaviourFaults.{at_systems, at_states, at_transitions, no_faults}
use Rattle.annotated_model.proofs.ItemFaults.{at_error}
use Rattle.annotated_model.proofs.systems.read_systems.Goals as goal

pub returns-in_err-owners-clause-fault : goal.returns-in_err-owners-clause-fault
returns-in_err-owners-clause-fault c =
    let features = c.args.features.now in
    let known = c.args.known.now in
    let model = document c.args.model.now in
    let stop = c.in_err-owners.field-0.0 in
    let list = subst (λ b. requires 2 b ≡ []) c.may_have_list.ensures c.in_ok-require.ensures.none in
    at_error c.from_residual-in_err-owners.result stop (IsFirst (behaviour_faults features model))
    (at_systems features known model c.requires list stop
    (subst (λ ds. IsFirst (systems_broken known [] 0 0 ds) stop) c.list_at-systems.ensures c.in_err-owners.ensures.fault)) c.from_residual-in_err-owners.ensures.1

pub returns-in_err-states-clause-fault : goal.returns-in_err-states-clause-fault
returns-in_err-states-clause-fault c =
    let features = c.args.features.now in
    let known = c.args.known.now in
    let model = document c.args.model.now in
    let stop = c.in_err-states.field-0.0 in
    let list = subst (λ b. requires 2 b ≡ []) c.may_have_list.ensures c.in_ok-require.ensures.none in
    let no_systems = subst (λ ds. systems_broken known [] 0 0 ds ≡ []) c.list_at-systems.ensures c.in_ok-owners.ensures.none in
    at_error c.from_residual-in_err-states.result stop (IsFirst (behaviour_faults features model))
    (at_states features known model c.requires list no_systems stop
    (subst (λ ds. IsFirst (all_states_broken known.labels 0 0 ds) stop) c.list_at-systems.ensures c.in_err-states.ensures.fault)) c.from_residual-in_err-states.ensures.1

pub returns-in_err-all-clause-fault : goal.returns-in_err-all-clause-fault
returns-in_err-all-clause-fault c =
    let features = c.args.features.now in
    let known = c.args.known.now in
    let model = document c.args.model.now in
    let stop = c.in_err-all.field-0.0 in
    let list = subst (λ b. requires 2 b ≡ []) c.may_have_list.ensures c.in_ok-require.ensures.none in
    let no_systems = subst (λ ds. systems_broken known [] 0 0 ds ≡ []) c.list_at-systems.ensures c.in_ok-owners.ensures.none in
    let no_states = subst (λ ds. all_states_broken known.labels 0 0 ds ≡ []) c.list_at-systems.ensures c.in_ok-states.ensures.none in
    at_error c.from_residual-in_err-all.result stop (IsFirst (behaviour_faults features model))
    (at_transitions features known model c.requires list no_systems no_states stop
    (subst (λ ds. IsFirst (all_transitions_broken features 0 0 ds) stop) c.list_at-systems.ensures c.in_err-all.ensures.fault)) c.from_residual-in_err-all.ensures.1

pub returns-clause-none : goal.returns-clause-none
returns-clause-none c =
    let features = c.args.features.now in
    let known = c.args.known.now in
    let model = document c.args.model.now in
    let list = subst (λ b. requires 2 b ≡ []) c.may_have_list.ensures c.in_ok-require.ensures.none in
    let no_systems = subst (λ ds. systems_broken known [] 0 0 ds ≡ []) c.list_at-systems.ensures c.in_ok-owners.ensures.none in
    let no_states = subst (λ ds. all_states_broken known.labels 0 0 ds ≡ []) c.list_at-systems.ensures c.in_ok-states.ensures.none in
    no_faults features known model c.requires list no_systems no_states
    (subst (λ ds. all_transitions_broken features 0 0 ds ≡ []) c.list_at-systems.ensures c.in_ok-all.ensures.none)
