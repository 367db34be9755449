use Rattle.std.proofs.Common.{◌≡◌, map, drop}
use Rattle.std.specs.List.{list_all}
use Rattle.meaning.specs.BundlePlaces as places
use Rattle.doc_tree.specs.View.{members}
use Rattle.annotated_model.proofs.attributes.are_given.Given as goal

abbrev pub invariant-attributes : goal.invariant-attributes
invariant-attributes l =
    list_all (places.is_among (map (λ e. e.0) (members l.values))) (drop l.number l.attributes) ≡ list_all (places.is_among (map (λ e. e.0) (members l.values))) l.attributes
