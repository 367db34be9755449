use Rattle.std.proofs.Common.{◌≡◌, drop}
use Rattle.std.specs.List.{list_all}
use Rattle.meaning.specs.Texts as texts
use Rattle.meaning.specs.Documents.{texts_in}
use Rattle.doc_tree.specs.View.{documents}
use Rattle.annotated_model.proofs.types.are_names.Given as goal

abbrev pub invariant-items : goal.invariant-items
invariant-items l = list_all texts.is_name (texts_in (documents (drop l.item-index l.items))) ≡ list_all texts.is_name (texts_in (documents l.items))
