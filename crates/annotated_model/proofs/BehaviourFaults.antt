-- The first fault of the systems, of their states and of their transitions together.
use Rattle.std.proofs.Common.{◌≡◌, ◌∙◌, sym, ap, subst, ℕ, List, [], ◌++◌}
use Rattle.std.specs.Prelude.{codes}
use Rattle.meaning.specs.Documents.{Document, list_at}
use Rattle.meaning.specs.BundlePlaces.{Systems, BundleFault, requires, faults_at, may_have, is_list_value}
use Rattle.annotated_model.specs.declared.fault.ModelStop.{ModelStop}
use Rattle.annotated_model.specs.declared.known.Known.{Known}
use Rattle.annotated_model.specs.Faults.{IsFirst}
use Rattle.annotated_model.specs.Known.{Knows}
use Rattle.annotated_model.specs.Parts.{system_faults, state_faults, transition_faults}
use Rattle.annotated_model.specs.StateRules.{all_states_broken}
use Rattle.annotated_model.specs.TransitionRules.{all_transitions_broken}
use Rattle.annotated_model.specs.SystemRules.{systems_broken, behaviour_faults}
use Rattle.annotated_model.proofs.Firsts.{first_in_front, first_behind}
use Rattle.annotated_model.proofs.StateLaws.{state_faults_are}
use Rattle.annotated_model.proofs.TransitionLaws.{transition_faults_are}
use Rattle.annotated_model.proofs.SystemLaws.{system_faults_are}

module _ (features : List (List ℕ)) (known : Known) (model : Document) (knows : Knows known features model) where
  -- the systems of the table
  abbrev systems : List Document
  systems = list_at (codes "systems") model

  -- the member is a list, if it is there
  abbrev form : List BundleFault
  form = faults_at Systems 0 0 (requires 2 (may_have is_list_value (codes "systems") model))

  in_front : (stop : ModelStop) → IsFirst (system_faults features model) stop → IsFirst (behaviour_faults features model) stop
  in_front stop first =
      first_in_front (system_faults features model ++ state_faults features model) (transition_faults features model) stop
      (first_in_front (system_faults features model) (state_faults features model) stop first)

  pub at_list : (stop : ModelStop) → IsFirst form stop → IsFirst (behaviour_faults features model) stop
  at_list stop first =
      in_front stop (subst (λ fs. IsFirst fs stop) (sym (system_faults_are features known model knows)) (first_in_front form (systems_broken known [] 0 0 systems) stop first))

  module _ (list : requires 2 (may_have is_list_value (codes "systems") model) ≡ []) where
    systems_are : system_faults features model ≡ systems_broken known [] 0 0 systems
    systems_are = system_faults_are features known model knows ∙ ap (λ bs. faults_at Systems 0 0 bs ++ systems_broken known [] 0 0 systems) list

    pub at_systems : (stop : ModelStop) → IsFirst (systems_broken known [] 0 0 systems) stop → IsFirst (behaviour_faults features model) stop
    at_systems stop first = in_front stop (subst (λ fs. IsFirst fs stop) (sym systems_are) first)

    module _ (no_systems : systems_broken known [] 0 0 systems ≡ []) where
      no_system_faults : system_faults features model ≡ []
      no_system_faults = systems_are ∙ no_systems

      pub at_states : (stop : ModelStop) → IsFirst (all_states_broken known.labels 0 0 systems) stop → IsFirst (behaviour_faults features model) stop
      at_states stop first =
          first_in_front (system_faults features model ++ state_faults features model) (transition_faults features model) stop
          (first_behind (system_faults features model) (state_faults features model) stop no_system_faults
          (subst (λ fs. IsFirst fs stop) (sym (state_faults_are features known.labels model knows.labels)) first))

      module _ (no_states : all_states_broken known.labels 0 0 systems ≡ []) where
        nothing_before : system_faults features model ++ state_faults features model ≡ []
        nothing_before =
            ap (λ fs. fs ++ state_faults features model) no_system_faults ∙ (state_faults_are features known.labels model knows.labels ∙ no_states)

        pub at_transitions : (stop : ModelStop) → IsFirst (all_transitions_broken features 0 0 systems) stop → IsFirst (behaviour_faults features model) stop
        at_transitions stop first =
            first_behind (system_faults features model ++ state_faults features model) (transition_faults features model) stop nothing_before
            (subst (λ fs. IsFirst fs stop) (sym (transition_faults_are features model)) first)

        pub no_faults : all_transitions_broken features 0 0 systems ≡ [] → behaviour_faults features model ≡ []
        no_faults none = ap (λ fs. fs ++ transition_faults features model) nothing_before ∙ (transition_faults_are features model ∙ none)
