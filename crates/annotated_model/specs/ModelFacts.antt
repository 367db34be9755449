-- What always holds of a model that was read without a fault, and of its products.
use Rattle.std.specs.Prelude.{◌≡◌, ℕ, ◌<◌, ◌≤◌, List, length, Bool, true, Some, Contains}
use Rattle.std.specs.List.{All, list_any, sum_by}
use Rattle.meaning.specs.Expressions.{name_bound}
use Rattle.meaning.specs.Models.{LinkKind, Element, Link, Transition, System, Model, inherited, model_at, projection}
use Rattle.meaning.specs.Queries.{LinksJoinElements}
use Rattle.meaning.specs.Systems.{IsProperSystem}
use Rattle.annotated_model.specs.Known.{ParentsAreEarlier}

-- the end types of a link kind are types
pub record KindFits (m : Model) (k : LinkKind) : Type 0 where
  pub source : k.source < length m.types
  pub target : k.target < length m.types

-- the type of an element is a type, and the element has a value for each of its attributes
pub record ElementFits (m : Model) (e : Element) : Type 0 where
  pub typed : e.of_type < length m.types
  pub valued : length e.attributes ≡ length (inherited m.types (Some e.of_type))

-- a link has a kind, and joins two elements
pub record LinkFits (m : Model) (l : Link) : Type 0 where
  pub kind : l.kind < length m.kinds
  pub source : l.source < length m.elements
  pub target : l.target < length m.elements

-- a transition leads from a state to a state
pub record TransitionFits (s : System) (t : Transition) : Type 0 where
  pub source : t.source < length s.states
  pub target : t.target < length s.states

-- a system belongs to an element and has an initial state, its states have labels, and its transitions lead from state to state
pub record SystemFits (m : Model) (s : System) : Type 0 where
  pub element : s.element < length m.elements
  pub initial : list_any (λ x. x.initial) s.states ≡ true
  pub labels : All (λ x. All (λ l. l < length m.labels) x.labels) s.states
  pub transitions : All (TransitionFits s) s.transitions
  pub few_states : length s.states ≤ 4096
  pub few_transitions : length s.transitions ≤ 16384

-- the parent of a type is an earlier one, every number is in range, and no list is past its limit
pub record KeepsRules (m : Model) : Type 0 where
  pub parents : ParentsAreEarlier m.types
  pub kinds : All (KindFits m) m.kinds
  pub elements : All (ElementFits m) m.elements
  pub links : All (LinkFits m) m.links
  pub systems : All (SystemFits m) m.systems
  pub few_types : length m.types ≤ 256
  pub few_kinds : length m.kinds ≤ 256
  pub few_labels : length m.labels ≤ 256
  pub few_elements : length m.elements ≤ 2048
  pub few_links : length m.links ≤ 16384
  pub few_systems : length m.systems ≤ 256
  pub few_states_in_all : sum_by (λ s. length s.states) m.systems ≤ 4096
  pub few_transitions_in_all : sum_by (λ s. length s.transitions) m.systems ≤ 16384

-- in every product each system is proper, and each link joins elements
pub record HasProperProducts (m : Model) : Type 0 where
  pub systems : (w : List Bool) (s : System) → Contains m.systems s → IsProperSystem (projection w s)
  pub links : (w : List Bool) → LinksJoinElements (model_at m w)

-- every condition speaks of features below this count
pub record NamesFeatures (count : ℕ) (m : Model) : Type 0 where
  pub elements : All (λ e. name_bound e.presence ≤ count) m.elements
  pub links : All (λ l. name_bound l.presence ≤ count) m.links
  pub transitions : All (λ s. All (λ t. name_bound t.presence ≤ count) s.transitions) m.systems
