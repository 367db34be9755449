use Rattle.std.proofs.Common.{◌≡◌, ◌≤◌, map, take, drop}
use Rattle.meaning.specs.BundlePlaces.{Elements, name_in}
use Rattle.doc_tree.specs.View.{documents}
use Rattle.annotated_model.specs.View.{type_view, element_view}
use Rattle.annotated_model.specs.Items.{faults_after, element_broken, elements_broken, element_told}
use Rattle.annotated_model.proofs.elements.elements_of.Given as goal

abbrev pub invariant-elements : goal.invariant-elements
invariant-elements l = record {
  few : l.number ≤ 2048;
  values : map element_view l.values.items ≡ map (element_told l.features l.names (map type_view l.types)) (documents (take l.number l.elements));
  names : l.given ≡ map name_in (documents (take l.number l.elements));
  faults : faults_after Elements name_in (element_broken l.features l.names (map type_view l.types)) l.given l.number (documents (drop l.number l.elements))
      ≡ elements_broken l.features l.names (map type_view l.types) (documents l.elements);
}
