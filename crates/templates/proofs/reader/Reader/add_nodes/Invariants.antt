use Rattle.std.proofs.Common.{◌≡◌, ◌++◌, [], map, drop}
use Rattle.doc_tree.specs.View.{documents}
use Rattle.templates.specs.View.{node_view}
use Rattle.templates.specs.NodeRules.{FormedBefore, nodes_told, nodes_broken}
use Rattle.templates.specs.Readers.{around_of, ids_of}
use Rattle.templates.specs.Seen.{SeenFits, scopes_of}
use Rattle.templates.proofs.reader.Reader.add_nodes.Given as goal

abbrev pub invariant-nodes : goal.invariant-nodes
invariant-nodes l = record {
  seen : SeenFits l.self l.seen l.number;
  formed : FormedBefore l.self.counted (documents l.self.nodes.now) l.number;
  value : map node_view l.nodes.items ++ nodes_told l.self.model.now l.self.names.now l.self.parameters.now (ids_of l.self) (scopes_of l.seen.scopes) (documents (drop l.number l.self.nodes.now))
      ≡ nodes_told l.self.model.now l.self.names.now l.self.parameters.now (ids_of l.self) [] (documents l.self.nodes.now);
  none : nodes_broken (around_of l.self) (scopes_of l.seen.scopes) l.number (documents (drop l.number l.self.nodes.now)) ≡ nodes_broken (around_of l.self) [] 0 (documents l.self.nodes.now);
}
