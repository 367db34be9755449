-- One round of an exploration: what the last layer leads to, at one world and over conditions.
use Rattle.std.specs.Prelude.{◌≡◌, ℕ, zero, suc, ◌+◌, ◌<◌, List, [], ◌∷◌, map, length, Bool, true, false, not, ◌&&◌, ◌||◌, ◌==◌, if◌then◌else◌, Option, Some, None, All, find, filter, slice_set}
use Rattle.std.specs.List.{slice_index_or}
use Rattle.meaning.specs.Texts.{numbered, numbers_from, flat}
use Rattle.meaning.specs.Models as meaning
use Rattle.meaning.specs.Models.{PlainSystem}
use Rattle.meaning.specs.Systems.{distance, is_number, is_some_number, is_reachable}
use Rattle.meaning.specs.Layers.{is_within, states_at_distance, states_by_distance}
use Rattle.meaning.specs.Tidy.{is_step_back}
use Rattle.annotated_model.specs.declared.data.Transition.{Transition}
use Rattle.worlds.specs.Algebra.{Algebra}
use Rattle.worlds.specs.Rows.{AllLive, RowWhere, row_at}
use Rattle.featured_systems.specs.Exploring.{IsLayer, IsNearer, Ascending, layers_at}

-- ---- transitions by their states

-- the places of a number in a list, from k on
abbrev pub places : ℕ → ℕ → List ℕ → List ℕ
places k y [] = []
places k y (e ∷ es) = if e == y then k ∷ places (k + 1) y es else places (k + 1) y es

-- the state from which a transition leads, or to which
abbrev pub state_at : Bool → Transition → ℕ
state_at true t = t.to
state_at false t = t.from

abbrev pub states_at : Bool → List Transition → List ℕ
states_at end ts = map (state_at end) ts

-- ---- one round at one world

-- the states of the transitions, whether each is present, and which states are in the last layer
pub record Front : Type 0 where
  pub sources : List ℕ
  pub targets : List ℕ
  pub steps : List Bool
  pub last : List Bool

-- the transition leads on from the last layer
abbrev pub comes : Front → ℕ → Bool
comes f t = slice_index_or f.last (slice_index_or f.sources t 0) false && slice_index_or f.steps t false

-- the first transition that leads from the last layer to the state
abbrev pub first_into : Front → ℕ → Option ℕ
first_into f y = find (comes f) (places 0 y f.targets)

-- a state that isn't seen yet gets its first transition for a parent
abbrev pub marked : Bool → Option ℕ → List Bool → List Bool
marked seen None parents = parents
marked true (Some t) parents = parents
marked false (Some t) parents = slice_set parents t true

-- after the states below k
abbrev pub parents_below : Front → (seen parents : List Bool) → ℕ → List Bool
parents_below f seen parents zero = parents
parents_below f seen parents (suc y) = marked (slice_index_or seen y false) (first_into f y) (parents_below f seen parents y)

abbrev pub seen_below : Front → (seen : List Bool) → ℕ → List Bool
seen_below f seen zero = seen
seen_below f seen (suc y) = slice_set (seen_below f seen y) y (slice_index_or seen y false || is_some_number (first_into f y))

abbrev pub is_entered : Front → (seen : List Bool) → ℕ → Bool
is_entered f seen y = not (slice_index_or seen y false) && is_some_number (first_into f y)

abbrev pub entered_below : Front → (seen : List Bool) → ℕ → List Bool
entered_below f seen k = map (is_entered f seen) (numbers_from 0 k)

-- ---- over conditions

abbrev pub front_at : {C : Type 0} → Algebra C → List Transition → (steps last : List C) → List Bool → Front
front_at a ts steps last x = record {
  sources = states_at false ts;
  targets = states_at true ts;
  steps = row_at a steps x;
  last = row_at a last x;
}

-- one condition for each transition, and one for each state, to and from which they lead
pub record Fronts {C : Type 0} (a : Algebra C) (ts : List Transition) (steps last : List C) : Type 0 where
  pub steps_live : AllLive a steps
  pub last_live : AllLive a last
  pub one_for_each : length steps ≡ length ts
  pub sources : All (λ t. t.from < length last) ts
  pub targets : All (λ t. t.to < length last) ts

-- the last layer leads nowhere but to these states
abbrev pub LeadsOnlyTo : {C : Type 0} → Algebra C → List Transition → (last : List C) → List Bool → Type 0
LeadsOnlyTo a ts last touched = (t : ℕ) → t < length ts → slice_index_or touched (slice_index_or (states_at true ts) t 0) false ≡ false
    → (x : List Bool) → a.is_world x ≡ true → slice_index_or (row_at a last x) (slice_index_or (states_at false ts) t 0) false ≡ false

-- ---- after so many rounds, of a system that is there or isn't

abbrev pub layer_of : Bool → PlainSystem → ℕ → List Bool
layer_of there p d = map (λ y. there && is_number d (distance p y)) (numbers_from 0 (length p.states))

abbrev pub seen_of : Bool → PlainSystem → ℕ → List Bool
seen_of there p d = map (λ y. there && is_within d (distance p y)) (numbers_from 0 (length p.states))

abbrev pub goes_back : PlainSystem → ℕ → ℕ → ℕ → Bool
goes_back p d t y = is_within d (distance p y) && is_step_back p t y (distance p y)

abbrev pub parents_of : Bool → PlainSystem → List meaning.Transition → ℕ → List Bool
parents_of there p ts d = map (λ t. there && goes_back p d t.0 t.1.target) (numbered ts)

-- the layers at a distance below k
abbrev pub layers_to : Bool → PlainSystem → ℕ → List (ℕ × ℕ)
layers_to there p k = if there then flat (states_at_distance p) (numbers_from 0 k) else []

-- the states of a layer below k, each with its distance
abbrev pub states_in : ℕ → List Bool → ℕ → List (ℕ × ℕ)
states_in d row k = map (λ y. (d, y)) (filter (λ y. slice_index_or row y false) (numbers_from 0 k))

-- the layers that are listed, all nearer than the state at the distance
pub record Listed {C : Type 0} (a : Algebra C) (layers : List (ℕ × ℕ × C)) (d y : ℕ) : Type 0 where
  pub layered : All (IsLayer a) layers
  pub ascending : Ascending (map (λ l. (l.0, l.1)) layers)
  pub nearer : All (λ l. IsNearer (l.0, l.1) (d, y)) layers

-- ---- what an exploration found, up to a distance and in the end

-- at every world, where the test says whether the system is there
pub record HasReached {C : Type 0} (a : Algebra C) (there : List Bool → Bool) (s : meaning.System) (d : ℕ) (in_states over_transitions : List C) (listed_layers : List (ℕ × ℕ × C)) : Type 0 where
  pub reached : RowWhere a in_states (λ x. seen_of (there x) (meaning.projection x s) d)
  pub parents : RowWhere a over_transitions (λ x. parents_of (there x) (meaning.projection x s) s.transitions d)
  pub listed : Listed a listed_layers (d + 1) 0
  pub layers : (x : List Bool) → a.is_world x ≡ true → layers_at a listed_layers x ≡ layers_to (there x) (meaning.projection x s) (d + 1)

pub record HasExplored {C : Type 0} (a : Algebra C) (there : List Bool → Bool) (s : meaning.System) (in_states over_transitions : List C) (listed_layers : List (ℕ × ℕ × C)) : Type 0 where
  pub reached : RowWhere a in_states (λ x. map (λ y. there x && is_reachable (meaning.projection x s) y) (numbers_from 0 (length s.states)))
  pub parents : RowWhere a over_transitions (λ x. map (λ t. there x && is_step_back (meaning.projection x s) t.0 t.1.target (distance (meaning.projection x s) t.1.target)) (numbered s.transitions))
  pub layered : All (IsLayer a) listed_layers
  pub ascending : Ascending (map (λ l. (l.0, l.1)) listed_layers)
  pub layers : (x : List Bool) → a.is_world x ≡ true → layers_at a listed_layers x ≡ (if there x then states_by_distance (meaning.projection x s) else [])
