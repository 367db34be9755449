-- What always holds of a case that was read.
use Rattle.std.specs.Prelude.{◌≡◌, ℕ, ◌+◌, ◌<◌, ◌≤◌, ⊤, length, Option, Some, None}
use Rattle.std.specs.List.{All}
use Rattle.lifted_case.specs.declared.lifted.LNode.{LNode}
use Rattle.lifted_case.specs.declared.lifted.LRel.{LRel}
use Rattle.lifted_case.specs.declared.lifted.LSystem.{LSystem}
use Rattle.lifted_case.specs.declared.lifted.LFinding.{LFinding}
use Rattle.lifted_case.specs.declared.lifted.ReadCase.{ReadCase}

-- the identifier is one of a table of so many rows
abbrev pub IsId : ℕ → ℕ → Type 0
IsId rows id = id < rows + 2

pub record FindingFits (rows : ℕ) (f : LFinding ℕ) : Type 0 where
  pub refuted : IsId rows f.refuted
  pub targets : All (λ t. IsId rows t.1) f.targets
  pub witnesses : All (λ x. IsId rows x.1) f.witnesses

abbrev pub MayFit : ℕ → Option (LFinding ℕ) → Type 0
MayFit rows None = ⊤
MayFit rows (Some f) = FindingFits rows f

-- each condition of a node is an identifier of the table
pub record NodeFits (rows : ℕ) (n : LNode ℕ) : Type 0 where
  pub presence : IsId rows n.when
  pub branches : All (IsId rows) n.branches
  pub finding : MayFit rows n.finding

-- the condition of a relation is an identifier of the table, and its ends are nodes
pub record RelationFits (rows nodes : ℕ) (r : LRel ℕ) : Type 0 where
  pub presence : IsId rows r.when
  pub source : r.from < nodes
  pub target : r.to < nodes

-- the conditions of a system are identifiers of the table, one for each state and one for each transition, whose ends are states
pub record SystemFits (rows : ℕ) (s : LSystem ℕ) : Type 0 where
  pub reached : All (IsId rows) s.reached
  pub parents : All (IsId rows) s.parents
  pub each_state : length s.reached ≡ length s.states
  pub each_transition : length s.parents ≡ length s.transitions
  pub ends : All (λ t. (t.0 < length s.states) × (t.1 < length s.states)) s.transitions

pub record KeepsCaseRules (c : ReadCase) : Type 0 where
  pub few_features : length c.lifted.features ≤ 256
  pub table_features : c.table.features ≡ length c.lifted.features
  pub few_nodes : length c.lifted.nodes ≤ 32768
  pub few_relations : length c.lifted.relations ≤ 65536
  pub valid : IsId (length c.table.rows) c.lifted.valid
  pub nodes : All (NodeFits (length c.table.rows)) c.lifted.nodes
  pub relations : All (RelationFits (length c.table.rows) (length c.lifted.nodes)) c.lifted.relations
  pub systems : All (SystemFits (length c.table.rows)) c.lifted.systems
