-- The case at one world, of a case whose conditions are of any type. A test tells which of them hold there.
use Rattle.std.specs.Prelude.{List, [], map, Bool, not, filter, count_by, Option, None, option_map, option_and_then, if◌then◌else◌}
use Rattle.std.specs.List.{filter_map}
use Rattle.meaning.specs.Texts.{flat}
use Rattle.meaning.specs.Cases as plain
use Rattle.meaning.specs.CaseFiles.{part_at}
use Rattle.gsn.specs.View.{kind_of, relation_kind_of}
use Rattle.lifted_case.specs.CaseView.{case_part_of}
use Rattle.lifted_case.specs.declared.lifted.Lifted.{Lifted}
use Rattle.lifted_case.specs.declared.lifted.LNode.{LNode}
use Rattle.lifted_case.specs.declared.lifted.LRel.{LRel}
use Rattle.case_derive.specs.Places.{place_at}

-- which nodes are there
abbrev pub marks_of : {C : Type 0} → (C → Bool) → List (LNode C) → List Bool
marks_of holds ns = map (λ n. holds n.when) ns

abbrev pub node_at : {C : Type 0} → (C → Bool) → LNode C → plain.Node
node_at holds n = record {
  key = [];
  kind = kind_of n.kind;
  words = flat (part_at (count_by holds n.branches)) (map case_part_of n.text);
  undeveloped = n.undeveloped;
  verdict = option_map (λ f. not (holds f.refuted)) n.finding;
}

abbrev pub nodes_at : {C : Type 0} → (C → Bool) → List (LNode C) → List plain.Node
nodes_at holds ns = map (node_at holds) (filter (λ n. holds n.when) ns)

-- a relation between the new numbers of its ends, where it and both of them are there
abbrev pub relation_at : {C : Type 0} → (C → Bool) → List Bool → LRel C → Option plain.Relation
relation_at holds marks r =
    if holds r.when
    then option_and_then (λ from. option_map (λ to. record { source = from; target = to; kind = relation_kind_of r.kind }) (place_at marks r.to)) (place_at marks r.from)
    else None

abbrev pub relations_at : {C : Type 0} → (C → Bool) → List Bool → List (LRel C) → List plain.Relation
relations_at holds marks rs = filter_map (relation_at holds marks) rs

abbrev pub case_at : {C : Type 0} → (C → Bool) → Lifted C → plain.Case
case_at holds c = record { nodes = nodes_at holds c.nodes; relations = relations_at holds (marks_of holds c.nodes) c.relations }
