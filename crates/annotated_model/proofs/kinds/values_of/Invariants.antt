use Rattle.std.proofs.Common.{◌≡◌, map, take}
use Rattle.meaning.specs.Models.{kind_of}
use Rattle.doc_tree.specs.View.{documents}
use Rattle.annotated_model.specs.View.{kind_view}
use Rattle.annotated_model.proofs.kinds.values_of.Given as goal

abbrev pub invariant-kinds : goal.invariant-kinds
invariant-kinds l = map kind_view l.values.items ≡ map (kind_of l.types) (documents (take l.kind-index l.kinds))
