use Rattle.std.proofs.Common.{◌≡◌, map, drop}
use Rattle.meaning.specs.BundlePlaces as places
use Rattle.doc_tree.specs.View.{members}
use Rattle.annotated_model.proofs.attributes.is_given.Given as goal

abbrev pub invariant-values : goal.invariant-values
invariant-values l =
    places.is_among (map (λ e. e.0) (members (drop l.entry-index l.values))) l.attribute ≡ places.is_among (map (λ e. e.0) (members l.values)) l.attribute
