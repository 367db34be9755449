use Rattle.std.proofs.Common.{◌≡◌, ◌≤◌, ◌++◌, map, drop}
use Rattle.std.specs.List.{enumerate_from}
use Rattle.meaning.specs.Models as meaning
use Rattle.doc_tree.specs.View.{documents}
use Rattle.annotated_model.specs.Links.{link_faults_from}
use Rattle.annotated_model.specs.View.{link_view}
use Rattle.annotated_model.proofs.links.read_items.Given as goal

abbrev pub invariant-items : goal.invariant-items
invariant-items l = record {
  few : l.no ≤ 16384;
  value : map link_view l.links.items ++ map (meaning.link_of l.features l.known.kind_names l.known.element_names) (documents (drop l.no l.items))
      ≡ map (meaning.link_of l.features l.known.kind_names l.known.element_names) (documents l.items);
  none : link_faults_from l.features l.known (enumerate_from l.no (documents (drop l.no l.items))) ≡ link_faults_from l.features l.known (enumerate_from 0 (documents l.items));
}
