use Rattle.std.proofs.Common.{◌≡◌, ◌≤◌, ◌++◌, [], map, take, drop}
use Rattle.doc_tree.specs.View.{documents}
use Rattle.templates.specs.View.{node_view}
use Rattle.templates.specs.NodeRules.{all_nodes_broken}
use Rattle.templates.specs.Wholes.{nodes_in}
use Rattle.templates.proofs.read.read_all_nodes.Given as goal

abbrev pub invariant-templates : goal.invariant-templates
invariant-templates l = record {
  counted : l.counted ≤ 1024;
  values : map (map node_view) l.rows.items ++ map (nodes_in l.model l.names) (documents (drop l.number l.docs)) ≡ map (nodes_in l.model l.names) (documents l.docs);
  none : all_nodes_broken l.model (documents (take l.number l.docs)) l.number l.counted (documents (drop l.number l.docs)) ≡ all_nodes_broken l.model [] 0 0 (documents l.docs);
}
