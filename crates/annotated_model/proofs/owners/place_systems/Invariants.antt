use Rattle.std.proofs.Common.{◌≡◌, map, take}
use Rattle.meaning.specs.Texts.{place_of}
use Rattle.annotated_model.specs.View.{element_view}
use Rattle.annotated_model.proofs.owners.place_systems.Given as goal

abbrev pub invariant-elements : goal.invariant-elements
invariant-elements l = record {
  elements : map element_view l.elements ≡ map element_view l.initial.elements;
  systems : map (λ e. e.system) (take l.element-index l.elements) ≡ map (λ e. place_of e.name l.owners) (map element_view (take l.element-index l.initial.elements));
}
