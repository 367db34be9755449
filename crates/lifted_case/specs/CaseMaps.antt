-- A case with other conditions in place of its own, and what its conditions mean.
use Rattle.std.specs.Prelude.{◌==◌, List, map, length, Bool, ◌&&◌, option_map}
use Rattle.node_pool.specs.declared.node.NodeNo.{NodeNo}
use Rattle.node_pool.specs.Regions.{Region}
use Rattle.node_pool.specs.Functions.{function_of, world_of}
use Rattle.lifted_case.specs.declared.lifted.Lifted.{Lifted}
use Rattle.lifted_case.specs.declared.lifted.LNode.{LNode}
use Rattle.lifted_case.specs.declared.lifted.LRel.{LRel}
use Rattle.lifted_case.specs.declared.lifted.LSystem.{LSystem}
use Rattle.lifted_case.specs.declared.lifted.LFinding.{LFinding}

abbrev pub second_mapped : {A C D : Type 0} → (C → D) → A × C → A × D
second_mapped f t = (t.0, f t.1)

abbrev pub map_finding : {C D : Type 0} → (C → D) → LFinding C → LFinding D
map_finding f x = record { check = x.check; refuted = f x.refuted; targets = map (second_mapped f) x.targets; witnesses = map (second_mapped f) x.witnesses }

abbrev pub map_node : {C D : Type 0} → (C → D) → LNode C → LNode D
map_node f n = record {
  key = n.key;
  kind = n.kind;
  text = n.text;
  when = f n.when;
  undeveloped = n.undeveloped;
  branches = map f n.branches;
  finding = option_map (map_finding f) n.finding;
}

abbrev pub map_relation : {C D : Type 0} → (C → D) → LRel C → LRel D
map_relation f r = record { from = r.from; to = r.to; kind = r.kind; when = f r.when }

abbrev pub map_system : {C D : Type 0} → (C → D) → LSystem C → LSystem D
map_system f s = record { element = s.element; states = s.states; reached = map f s.reached; transitions = s.transitions; parents = map f s.parents }

abbrev pub map_case : {C D : Type 0} → (C → D) → Lifted C → Lifted D
map_case f c = record {
  title = c.title;
  features = c.features;
  valid = f c.valid;
  nodes = map (map_node f) c.nodes;
  relations = map (map_relation f) c.relations;
  systems = map (map_system f) c.systems;
}

-- the truth of a condition at each list of as many truth values as there are features
abbrev pub truth_of : Region → NodeNo → List Bool → Bool
truth_of r c w = (length w == r.vars) && function_of r c.0 (world_of w)
