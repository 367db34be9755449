use Rattle.std.proofs.Common.{◌≡◌, ◌++◌, map, length, drop}
use Rattle.std.specs.Vec.Iter.{into_iter_items}
use Rattle.doc_tree.specs.View.{documents}
use Rattle.templates.specs.View.{node_view, template_view}
use Rattle.templates.specs.Wholes.{joined_views}
use Rattle.templates.proofs.read.joined.Given as goal

abbrev pub invariant-templates : goal.invariant-templates
invariant-templates l = record {
  parameters : length (into_iter_items l.more_parameters) ≡ length (drop l.template-index l.docs);
  nodes : length (into_iter_items l.more_nodes) ≡ length (drop l.template-index l.docs);
  value : map template_view l.all.items ++ joined_views (documents (drop l.template-index l.docs)) (into_iter_items l.more_parameters) (map (map node_view) (into_iter_items l.more_nodes))
      ≡ joined_views (documents l.docs) l.fn.parameters.items (map (map node_view) l.fn.nodes.items);
}
