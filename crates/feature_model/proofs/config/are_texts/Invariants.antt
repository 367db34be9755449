use Rattle.std.proofs.Common.{◌≡◌, drop}
use Rattle.std.specs.List.{list_all}
use Rattle.meaning.specs.BundlePlaces.{is_text_value}
use Rattle.doc_tree.specs.View.{documents}
use Rattle.feature_model.proofs.config.are_texts.Given as goal

abbrev pub invariant-items : goal.invariant-items
invariant-items l = list_all is_text_value (documents (drop l.item-index l.items)) ≡ list_all is_text_value (documents l.items)
