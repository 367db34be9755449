use Rattle.std.proofs.Common.{◌≡◌, map, drop}
use Rattle.std.specs.List.{list_all}
use Rattle.meaning.specs.BundlePlaces as places
use Rattle.doc_tree.specs.View.{members}
use Rattle.annotated_model.proofs.attributes.are_known.Given as goal

abbrev pub invariant-values : goal.invariant-values
invariant-values l =
    list_all (places.is_among l.attributes) (map (λ e. e.0) (members (drop l.entry-index l.values))) ≡ list_all (places.is_among l.attributes) (map (λ e. e.0) (members l.values))
