-- A case as a document, with an identifier in place of each condition, and when such a document is written from a case.
use Rattle.std.specs.Prelude.{◌≡◌, ℕ, ◌+◌, ◌<◌, List, [], ◌∷◌, ◌++◌, length, map, Bool, Option, Some, None, option_map, slice_index}
use Rattle.std.specs.List.{All}
use Rattle.meaning.specs.Texts.{flat}
use Rattle.meaning.specs.CaseFiles.{Row, Finding, CaseNode, CaseRelation, CaseSystem, CaseDocument, holds}
use Rattle.meaning.specs.TableOrder.{IsTableInOrder}
use Rattle.meaning.specs.Templates.{joined_parts}
use Rattle.serde_json.specs.Data.{Data}
use Rattle.doc_tree.specs.declared.doc.Doc.{Doc}
use Rattle.doc_tree.specs.View.{members}
use Rattle.gsn.specs.View.{kind_of, relation_kind_of}
use Rattle.node_pool.specs.declared.node.NodeNo.{NodeNo}
use Rattle.node_pool.specs.Regions.{Region}
use Rattle.node_pool.specs.Functions.{function_of, world_of}
use Rattle.conditions.specs.Tables.{Contents, KeepsRules, case_rows}
use Rattle.lifted_case.specs.declared.lifted.Lifted.{Lifted}
use Rattle.lifted_case.specs.declared.lifted.LNode.{LNode}
use Rattle.lifted_case.specs.declared.lifted.LRel.{LRel}
use Rattle.lifted_case.specs.declared.lifted.LSystem.{LSystem}
use Rattle.lifted_case.specs.declared.lifted.LFinding.{LFinding}
use Rattle.lifted_case.specs.CaseView.{case_part_of, check_of}
use Rattle.lifted_case.specs.Written.{MembersWritten}

-- ---- the conditions of a case, in the order of its document

abbrev pub conditions_in_finding : {C : Type 0} → LFinding C → List C
conditions_in_finding f = f.refuted ∷ (map (λ t. t.1) f.targets ++ map (λ x. x.1) f.witnesses)

abbrev pub conditions_of_finding : {C : Type 0} → Option (LFinding C) → List C
conditions_of_finding None = []
conditions_of_finding (Some f) = conditions_in_finding f

abbrev pub conditions_of_node : {C : Type 0} → LNode C → List C
conditions_of_node n = n.when ∷ (n.branches ++ conditions_of_finding n.finding)

abbrev pub conditions_of_system : {C : Type 0} → LSystem C → List C
conditions_of_system s = s.reached ++ s.parents

-- first that of the valid worlds, then those of the nodes, the relations and the systems
abbrev pub conditions_in : {C : Type 0} → Lifted C → List C
conditions_in c = c.valid ∷ (flat conditions_of_node c.nodes ++ map (λ r. r.when) c.relations ++ flat conditions_of_system c.systems)

-- ---- the document with an identifier in place of each condition

abbrev pub target_with : {C : Type 0} → (C → ℕ) → ℕ × C → ℕ × ℕ
target_with id t = (t.0, id t.1)

abbrev pub witness_with : {C : Type 0} → (C → ℕ) → List (List ℕ) × C → List (List ℕ) × ℕ
witness_with id x = (x.0, id x.1)

abbrev pub finding_with : {C : Type 0} → (C → ℕ) → LFinding C → Finding
finding_with id f = record {
  check = check_of f.check;
  refuted = id f.refuted;
  targets = map (target_with id) f.targets;
  witnesses = map (witness_with id) f.witnesses;
}

abbrev pub node_with : {C : Type 0} → (C → ℕ) → LNode C → CaseNode
node_with id n = record {
  key = n.key;
  kind = kind_of n.kind;
  parts = map case_part_of n.text;
  presence = id n.when;
  undeveloped = n.undeveloped;
  branches = map id n.branches;
  finding = option_map (finding_with id) n.finding;
}

abbrev pub relation_with : {C : Type 0} → (C → ℕ) → LRel C → CaseRelation
relation_with id r = record { source = r.from; target = r.to; kind = relation_kind_of r.kind; presence = id r.when }

abbrev pub system_with : {C : Type 0} → (C → ℕ) → LSystem C → CaseSystem
system_with id s = record {
  element = s.element;
  states = s.states;
  reached = map id s.reached;
  transitions = s.transitions;
  parents = map id s.parents;
}

-- the document of a case over a table
abbrev pub document_with : {C : Type 0} → (C → ℕ) → List Row → Lifted C → CaseDocument
document_with id rows c = record {
  title = c.title;
  features = c.features;
  valid = id c.valid;
  nodes = map (node_with id) c.nodes;
  relations = map (relation_with id) c.relations;
  systems = map (system_with id) c.systems;
  table = rows;
}

-- the identifier of a condition in an array that has it at the condition's number
abbrev pub id_in : List ℕ → NodeNo → ℕ
id_in ids c = slice_index ids c.0

-- ---- written from a case

-- the identifier is one of the document's table, and holds at exactly the worlds at which the condition does
pub record Stands (r : Region) (k : CaseDocument) (c : NodeNo) (id : ℕ) : Type 0 where
  pub there : id < length k.table + 2
  pub function : (w : List Bool) → length w ≡ r.vars → holds k w id ≡ function_of r c.0 (world_of w)

-- the document is the case with an identifier in place of each condition, which stands for it. The table has the rows below the conditions and no other, in the order of the walk, and keeps its rules. Each text's words are as long as possible, and none are empty
pub record IsWrittenFrom (r : Region) (case : Lifted NodeNo) (k : CaseDocument) : Type 0 where
  pub identifier : NodeNo → ℕ
  pub table : Contents
  pub document : k ≡ document_with identifier (case_rows table.rows) case
  pub stands : All (λ c. Stands r k c (identifier c)) (conditions_in case)
  pub places : r.vars ≡ length k.features
  pub variables : table.features ≡ length k.features
  pub rules : KeepsRules table
  pub order : IsTableInOrder k
  pub texts : All (λ n. joined_parts n.parts ≡ n.parts) k.nodes

-- ---- for private clauses: the members that are added to those of a table are these

pub record AddsMembers (old new : List (List ℕ × Doc)) (more : List (List ℕ × Data)) : Type 0 where
  pub follow : (ms : List (List ℕ × Data)) → MembersWritten (members old) ms → MembersWritten (members new) (ms ++ more)

-- the most bytes of a case
abbrev pub most_bytes : ℕ
most_bytes = 67108864
