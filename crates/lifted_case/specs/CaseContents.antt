-- What the contents of a case keep, whatever its conditions are: texts, names, ends, systems, findings and limits.
use Rattle.std.specs.Prelude.{◌≡◌, ℕ, ◌<◌, ◌≤◌, List, [], ◌∷◌, length, map, Bool, true, false, not, ◌||◌, ◌&&◌, Option, Some, None, option_map, unwrap_or}
use Rattle.std.specs.List.{All, list_all, slice_get, sum_by}
use Rattle.meaning.specs.Texts.{is_text}
use Rattle.meaning.specs.Cases.{NodeKind, argues, is_solution}
use Rattle.meaning.specs.Queries.{is_empty}
use Rattle.meaning.specs.CaseReading.{bad_names, part_is_text, is_strategy}
use Rattle.gsn.specs.View.{kind_of}
use Rattle.lifted_case.specs.declared.lifted.Lifted.{Lifted}
use Rattle.lifted_case.specs.declared.lifted.LNode.{LNode}
use Rattle.lifted_case.specs.declared.lifted.LPart.{LPart}
use Rattle.lifted_case.specs.declared.lifted.LPart.TheVariants as part
use Rattle.lifted_case.specs.declared.lifted.LRel.{LRel}
use Rattle.lifted_case.specs.declared.lifted.LSystem.{LSystem}
use Rattle.lifted_case.specs.declared.lifted.LFinding.{LFinding}
use Rattle.lifted_case.specs.declared.lifted.LCheck.{LCheck}
use Rattle.lifted_case.specs.declared.lifted.LCheck.TheVariants as check
use Rattle.lifted_case.specs.CaseView.{case_part_of}

-- ---- findings

-- how many states a system has, 0 where there is no such system
abbrev pub states_in : {C : Type 0} → List (LSystem C) → ℕ → ℕ
states_in systems s = unwrap_or (option_map (λ x. length x.states) (slice_get systems s)) 0

-- a check of a system names one of the case, and its targets are states of that. It has no witnesses
pub record IsOfSystem {C : Type 0} (systems : List (LSystem C)) (f : LFinding C) (s : ℕ) : Type 0 where
  pub system : s < length systems
  pub targets : All (λ t. t.0 < states_in systems s) f.targets
  pub no_witnesses : f.witnesses ≡ []

-- a check by a query has witnesses whose names are texts, and no targets
pub record IsOfQuery {C : Type 0} (f : LFinding C) : Type 0 where
  pub names : All (λ x. list_all is_text x.0 ≡ true) f.witnesses
  pub no_targets : f.targets ≡ []

abbrev pub FindingKeepsRules : {C : Type 0} → List (LSystem C) → LFinding C → LCheck → Type 0
FindingKeepsRules systems f (check.Never s property) = (is_text property ≡ true) × IsOfSystem systems f s
FindingKeepsRules systems f (check.NoDeadlock s) = IsOfSystem systems f s
FindingKeepsRules systems f check.NoAnswer = IsOfQuery f
FindingKeepsRules systems f check.SomeAnswer = IsOfQuery f

-- a solution has a finding, and no other node
abbrev pub FindingBelongs : {C : Type 0} → List (LSystem C) → NodeKind → Option (LFinding C) → Type 0
FindingBelongs systems kind None = is_solution kind ≡ false
FindingBelongs systems kind (Some f) = (is_solution kind ≡ true) × FindingKeepsRules systems f f.check

-- ---- nodes, relations and systems

-- branches stand at strategies alone, and the mark of undeveloped nodes at goals and strategies alone
pub record NodeKeepsRules {C : Type 0} (systems : List (LSystem C)) (n : LNode C) : Type 0 where
  pub key : is_text n.key ≡ true
  pub words : list_all part_is_text (map case_part_of n.text) ≡ true
  pub branching : (is_strategy (kind_of n.kind) || is_empty n.branches) ≡ true
  pub arguing : (argues (kind_of n.kind) || not n.undeveloped) ≡ true
  pub finding : FindingBelongs systems (kind_of n.kind) n.finding

-- both ends are nodes
pub record RelationKeepsRules {C : Type 0} (nodes : ℕ) (r : LRel C) : Type 0 where
  pub source : r.from < nodes
  pub target : r.to < nodes

-- there is a condition for each state and one for each transition, whose ends are states
pub record SystemKeepsRules {C : Type 0} (s : LSystem C) : Type 0 where
  pub element : is_text s.element ≡ true
  pub states : list_all is_text s.states ≡ true
  pub actions : list_all (λ t. is_text t.2) s.transitions ≡ true
  pub each_state : length s.reached ≡ length s.states
  pub each_transition : length s.parents ≡ length s.transitions
  pub ends : All (λ t. (t.0 < length s.states) × (t.1 < length s.states)) s.transitions

-- ---- the case

pub record BreaksNoRule {C : Type 0} (case : Lifted C) : Type 0 where
  pub title : is_text case.title ≡ true
  pub names : bad_names case.features ≡ []
  pub systems : All SystemKeepsRules case.systems
  pub nodes : All (NodeKeepsRules case.systems) case.nodes
  pub relations : All (RelationKeepsRules (length case.nodes)) case.relations
  pub few_features : length case.features ≤ 256
  pub few_systems : length case.systems ≤ 256
  pub few_states : sum_by (λ s. length s.states) case.systems ≤ 4096
  pub few_transitions : sum_by (λ s. length s.transitions) case.systems ≤ 16384
  pub few_nodes : length case.nodes ≤ 32768
  pub few_relations : length case.relations ≤ 65536

-- ---- texts

abbrev pub begins_with_words : List LPart → Bool
begins_with_words [] = false
begins_with_words (part.Words s ∷ ps) = true
begins_with_words (part.Count ∷ ps) = false

-- no words are empty, and none stand next to others
abbrev pub are_joined : List LPart → Bool
are_joined [] = true
are_joined (part.Words s ∷ ps) = not (is_empty s) && not (begins_with_words ps) && are_joined ps
are_joined (part.Count ∷ ps) = are_joined ps

abbrev pub TextsAreJoined : {C : Type 0} → Lifted C → Type 0
TextsAreJoined case = All (λ n. are_joined n.text ≡ true) case.nodes
