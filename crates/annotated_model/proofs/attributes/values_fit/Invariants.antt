use Rattle.std.proofs.Common.{◌≡◌, drop}
use Rattle.std.specs.List.{list_all}
use Rattle.meaning.specs.BundlePlaces as places
use Rattle.meaning.specs.ModelRules as rules
use Rattle.doc_tree.specs.View.{members}
use Rattle.annotated_model.proofs.attributes.values_fit.Given as goal

abbrev pub invariant-values : goal.invariant-values
invariant-values l =
    list_all (λ e. places.text_within 128 (rules.label_text e.1)) (members (drop l.entry-index l.values)) ≡ list_all (λ e. places.text_within 128 (rules.label_text e.1)) (members l.values)
