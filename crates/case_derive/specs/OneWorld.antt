-- A case whose conditions are their truth at one world, as a case document.
use Rattle.std.specs.Prelude.{ℕ, List, [], map, Bool, option_map, if◌then◌else◌}
use Rattle.gsn.specs.View.{kind_of, relation_kind_of}
use Rattle.meaning.specs.CaseFiles.{Row, Finding, CaseNode, CaseRelation, CaseSystem, CaseDocument}
use Rattle.lifted_case.specs.CaseView.{case_part_of, check_of}
use Rattle.lifted_case.specs.declared.lifted.Lifted.{Lifted}
use Rattle.lifted_case.specs.declared.lifted.LNode.{LNode}
use Rattle.lifted_case.specs.declared.lifted.LRel.{LRel}
use Rattle.lifted_case.specs.declared.lifted.LSystem.{LSystem}
use Rattle.lifted_case.specs.declared.lifted.LFinding.{LFinding}

-- ---- with an identifier for each condition

abbrev pub finding_over : {C : Type 0} → (C → ℕ) → LFinding C → Finding
finding_over id f = record {
  check = check_of f.check;
  refuted = id f.refuted;
  targets = map (λ t. (t.0, id t.1)) f.targets;
  witnesses = map (λ x. (x.0, id x.1)) f.witnesses;
}

abbrev pub node_over : {C : Type 0} → (C → ℕ) → LNode C → CaseNode
node_over id n = record {
  key = n.key;
  kind = kind_of n.kind;
  parts = map case_part_of n.text;
  presence = id n.when;
  undeveloped = n.undeveloped;
  branches = map id n.branches;
  finding = option_map (finding_over id) n.finding;
}

abbrev pub relation_over : {C : Type 0} → (C → ℕ) → LRel C → CaseRelation
relation_over id r = record { source = r.from; target = r.to; kind = relation_kind_of r.kind; presence = id r.when }

abbrev pub system_over : {C : Type 0} → (C → ℕ) → LSystem C → CaseSystem
system_over id s = record {
  element = s.element;
  states = s.states;
  reached = map id s.reached;
  transitions = s.transitions;
  parents = map id s.parents;
}

-- the case over a table of these rows
abbrev pub document_over : {C : Type 0} → (C → ℕ) → List Row → Lifted C → CaseDocument
document_over id rows c = record {
  title = c.title;
  features = c.features;
  valid = id c.valid;
  nodes = map (node_over id) c.nodes;
  relations = map (relation_over id) c.relations;
  systems = map (system_over id) c.systems;
  table = rows;
}

-- ---- at one world

-- 0 is false and 1 is true
abbrev pub id_of : Bool → ℕ
id_of b = if b then 1 else 0

-- over a table with no rows
abbrev pub document_at_one : Lifted Bool → CaseDocument
document_at_one c = document_over id_of [] c
