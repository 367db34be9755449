-- The rules at a system, over what is known of elements, the elements of the earlier systems and how many states those have.
use Rattle.std.specs.Prelude.{ℕ, ◌+◌, ◌-◌, ◌^◌, min, List, [], ◌∷◌, ◌++◌, length, Bool, true, false, not, ◌&&◌, ◌||◌, codes, slice_get, Option, option_map, option_and_then, unwrap_or, is_some}
use Rattle.meaning.specs.Texts.{place_of}
use Rattle.meaning.specs.Documents.{Document, text_at}
use Rattle.meaning.specs.BundlePlaces.{Systems, BundleFault, Broken, requires, where_formed, faults_at, may_have, is_list_value, name_in, is_among, if_some}
use Rattle.meaning.specs.LineRules.{is_within}
use Rattle.meaning.specs.ModelRules.{system_has_form, is_formed, has_initial_state}
use Rattle.annotated_model.specs.declared.known.Known.{Known}
use Rattle.annotated_model.specs.Links.{type_no}
use Rattle.annotated_model.specs.Parts.{system_faults, state_faults, transition_faults}
use Rattle.annotated_model.specs.StateRules.{state_form, given_states}

-- ---- the element

-- elements of the type have systems
abbrev pub is_system_type : Known → ℕ → Bool
is_system_type known t = unwrap_or (option_map (λ x. x.system) (slice_get known.types t)) false

-- the element of the number is of a system type, if it is there
abbrev pub may_have_system : Known → Option ℕ → Bool
may_have_system known e = if_some (is_system_type known) (option_and_then (type_no known) e)

-- the element is known, none of these, and of a system type
abbrev pub takes_system : Known → List (List ℕ) → Document → Bool
takes_system known before d =
    let e = text_at (codes "element") d in
    is_some (place_of e known.element_names) && not (is_among before e) && may_have_system known (place_of e known.element_names)

-- ---- the states

-- the states from a number on have the form that finding an initial one needs
abbrev pub are_formed : ℕ → List (List ℕ) → ℕ → List Document → Bool
are_formed counted before k [] = true
are_formed counted before k (d ∷ ds) =
    is_formed (state_form (not (is_among before (name_in d))) (is_within 4096 (counted + k)) d) && are_formed counted (before ++ name_in d ∷ []) (k + 1) ds

abbrev pub states_have_form : ℕ → Document → Bool
states_have_form counted d = may_have is_list_value (codes "states") d && are_formed counted [] 0 (given_states d)

-- some state is initial, where they have their form
abbrev pub can_start : ℕ → Document → Bool
can_start counted d = not (states_have_form counted d) || has_initial_state d

-- ---- all rules

abbrev pub system_form : ℕ → Document → List Broken
system_form k d = requires 2 (system_has_form d) ++ requires 6 (is_within 256 k)

abbrev pub system_broken : Known → List (List ℕ) → ℕ → ℕ → Document → List Broken
system_broken known before counted k d = where_formed (system_form k d) (requires 19 (takes_system known before d) ++ requires 21 (can_start counted d))

-- a count of states, which stands still at its greatest number
abbrev pub with_states : ℕ → Document → ℕ
with_states counted d = min (counted + length (given_states d)) (2 ^ 64 - 1)

-- the faults of the systems from a number on
abbrev pub systems_broken : Known → List (List ℕ) → ℕ → ℕ → List Document → List BundleFault
systems_broken known before counted k [] = []
systems_broken known before counted k (d ∷ ds) =
    faults_at Systems k 0 (system_broken known before counted k d) ++ systems_broken known (before ++ text_at (codes "element") d ∷ []) (with_states counted d) (k + 1) ds

-- the faults of the systems, then of all their states, then of all their transitions
abbrev pub behaviour_faults : List (List ℕ) → Document → List BundleFault
behaviour_faults features model = system_faults features model ++ state_faults features model ++ transition_faults features model
