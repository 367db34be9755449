-- The rules at the transitions of systems, over what their reader has: the names of the states of the system, and how many transitions stand in earlier ones.
use Rattle.std.specs.Prelude.{ℕ, ◌+◌, List, [], ◌∷◌, ◌++◌, map, length, Bool, ◌&&◌, is_some, codes}
use Rattle.meaning.specs.Texts.{is_name, place_of}
use Rattle.meaning.specs.Documents.{Document, text_at, list_at}
use Rattle.meaning.specs.Models as meaning
use Rattle.meaning.specs.BundlePlaces.{Transitions, BundleFault, Broken, requires, where_formed, faults_at, may_have, is_list_value, member_within}
use Rattle.meaning.specs.LineRules.{is_within, expression_rules}
use Rattle.meaning.specs.ModelRules.{transition_has_form}
use Rattle.annotated_model.specs.StateRules.{names_given}

-- the rules of form at a transition that stands within the limit or not
abbrev pub transition_form : Bool → Document → List Broken
transition_form within d =
    requires 2 (transition_has_form d) ++ requires 3 (is_name (text_at (codes "action") d)) ++ requires 4 (member_within 4096 (codes "when") d) ++ requires 6 within

-- both ends are states
abbrev pub ends_broken : List (List ℕ) → Document → List Broken
ends_broken states d = requires 22 (is_some (place_of (text_at (codes "from") d) states) && is_some (place_of (text_at (codes "to") d) states))

-- all rules at the transition of a number
abbrev pub transition_broken : List (List ℕ) → ℕ → List (List ℕ) → ℕ → Document → List Broken
transition_broken features counted states k d =
    where_formed (transition_form (is_within 16384 (counted + k)) d) (expression_rules features (codes "when") d ++ ends_broken states d)

-- the faults of the transitions of a system from a number on
abbrev pub transitions_broken : List (List ℕ) → ℕ → ℕ → List (List ℕ) → ℕ → List Document → List BundleFault
transitions_broken features item counted states k [] = []
transitions_broken features item counted states k (d ∷ ds) =
    faults_at Transitions item k (transition_broken features counted states k d) ++ transitions_broken features item counted states (k + 1) ds

-- the transitions that a system gives
abbrev pub given_transitions : Document → List Document
given_transitions d = list_at (codes "transitions") d

-- the faults of the transitions of a system
abbrev pub system_transitions_broken : List (List ℕ) → ℕ → ℕ → Document → List BundleFault
system_transitions_broken features item counted d =
    faults_at Transitions item 0 (requires 2 (may_have is_list_value (codes "transitions") d))
    ++ transitions_broken features item counted (names_given d) 0 (given_transitions d)

-- the faults of the transitions of systems from a number on
abbrev pub all_transitions_broken : List (List ℕ) → ℕ → ℕ → List Document → List BundleFault
all_transitions_broken features item counted [] = []
all_transitions_broken features item counted (d ∷ ds) =
    system_transitions_broken features item counted d ++ all_transitions_broken features (item + 1) (counted + length (given_transitions d)) ds

-- ---- what was read

abbrev pub transitions_given : List (List ℕ) → Document → List meaning.Transition
transitions_given features d = map (meaning.transition_of features (names_given d)) (given_transitions d)
