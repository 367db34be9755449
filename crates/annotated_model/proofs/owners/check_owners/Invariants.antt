use Rattle.std.proofs.Common.{◌≡◌, map, drop}
use Rattle.annotated_model.specs.View.{type_view, element_view}
use Rattle.annotated_model.specs.Owners.{owners_broken}
use Rattle.annotated_model.proofs.owners.check_owners.Given as goal

abbrev pub invariant-elements : goal.invariant-elements
invariant-elements l =
    owners_broken (map type_view l.types) l.owners l.number (map element_view (drop l.number l.elements))
    ≡ owners_broken (map type_view l.types) l.owners 0 (map element_view l.elements)
