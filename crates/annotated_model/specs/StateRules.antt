-- The rules at the states of systems, over what their reader has: the labels, the names of the states before and how many stand in earlier systems.
use Rattle.std.specs.Prelude.{ℕ, ◌+◌, List, [], ◌∷◌, ◌++◌, map, length, Bool, not, ◌&&◌, codes}
use Rattle.std.specs.List.{list_all}
use Rattle.meaning.specs.Texts.{is_name}
use Rattle.meaning.specs.Documents.{Document, list_at}
use Rattle.meaning.specs.Models as meaning
use Rattle.meaning.specs.BundlePlaces.{States, BundleFault, Broken, requires, where_formed, faults_at, may_have, is_list_value, name_in, is_among, are_new}
use Rattle.meaning.specs.LineRules.{is_within}
use Rattle.meaning.specs.ModelRules.{state_has_form, labels_of}
use Rattle.annotated_model.specs.declared.states.StatesOf.{StatesOf}
use Rattle.annotated_model.specs.Items.{named_form}
use Rattle.annotated_model.specs.View.{state_view}

-- the rules of form at a state whose name is new or not, and which stands within the limit or not
abbrev pub state_form : Bool → Bool → Document → List Broken
state_form new within d = named_form (state_has_form d) (is_name (name_in d)) (new && are_new [] (labels_of d)) within

-- the texts are labels
abbrev pub texts_broken : List (List ℕ) → List (List ℕ) → List Broken
texts_broken labels given = requires 22 (list_all (is_among labels) given)

-- all rules at the state of a number
abbrev pub state_broken : List (List ℕ) → ℕ → List (List ℕ) → ℕ → Document → List Broken
state_broken labels counted before k d =
    where_formed (state_form (not (is_among before (name_in d))) (is_within 4096 (counted + k)) d) (texts_broken labels (labels_of d))

-- the faults of the states of a system from a number on
abbrev pub states_broken : List (List ℕ) → ℕ → ℕ → List (List ℕ) → ℕ → List Document → List BundleFault
states_broken labels item counted before k [] = []
states_broken labels item counted before k (d ∷ ds) =
    faults_at States item k (state_broken labels counted before k d) ++ states_broken labels item counted (before ++ name_in d ∷ []) (k + 1) ds

-- the states that a system gives
abbrev pub given_states : Document → List Document
given_states d = list_at (codes "states") d

-- the faults of the states of a system
abbrev pub system_states_broken : List (List ℕ) → ℕ → ℕ → Document → List BundleFault
system_states_broken labels item counted d =
    faults_at States item 0 (requires 2 (may_have is_list_value (codes "states") d)) ++ states_broken labels item counted [] 0 (given_states d)

-- the faults of the states of systems from a number on
abbrev pub all_states_broken : List (List ℕ) → ℕ → ℕ → List Document → List BundleFault
all_states_broken labels item counted [] = []
all_states_broken labels item counted (d ∷ ds) =
    system_states_broken labels item counted d ++ all_states_broken labels (item + 1) (counted + length (given_states d)) ds

-- ---- what was read

abbrev pub names_given : Document → List (List ℕ)
names_given d = map name_in (given_states d)

abbrev pub states_given : List (List ℕ) → Document → List meaning.State
states_given labels d = map (meaning.state_of labels) (given_states d)

abbrev pub states_view : StatesOf → List meaning.State
states_view s = map state_view s.states
