use Rattle.std.proofs.Common.{◌≡◌, ◌≤◌, [], map, take, drop}
use Rattle.meaning.specs.BundlePlaces.{name_in}
use Rattle.doc_tree.specs.View.{documents}
use Rattle.annotated_model.specs.View.{type_view}
use Rattle.annotated_model.specs.Items.{types_broken_after, types_broken, types_told}
use Rattle.annotated_model.proofs.types.types_of.Given as goal

abbrev pub invariant-types : goal.invariant-types
invariant-types l = record {
  few : l.number ≤ 256;
  values : types_told l.names (map type_view l.types.items) (documents (drop l.number l.items)) ≡ types_told [] [] (documents l.items);
  names : l.names ≡ map name_in (documents (take l.number l.items));
  faults : types_broken_after l.names (map type_view l.types.items) l.number (documents (drop l.number l.items)) ≡ types_broken (documents l.items);
}
