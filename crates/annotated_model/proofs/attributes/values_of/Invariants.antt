use Rattle.std.proofs.Common.{◌≡◌, take}
use Rattle.doc_tree.specs.View.{document}
use Rattle.annotated_model.specs.Items.{values_told}
use Rattle.annotated_model.proofs.attributes.values_of.Given as goal

abbrev pub invariant-attributes : goal.invariant-attributes
invariant-attributes l =
    l.values.items ≡ values_told (take l.number l.attributes) (document l.element)
