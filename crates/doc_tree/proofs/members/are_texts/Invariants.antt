use Rattle.std.proofs.Common.{◌≡◌, drop}
use Rattle.std.specs.List.{list_all}
use Rattle.meaning.specs.BundlePlaces as places
use Rattle.doc_tree.specs.View.{documents}
use Rattle.doc_tree.proofs.members.are_texts.Given as goal

-- the items so far are texts
abbrev pub invariant-items : goal.invariant-items
invariant-items l = list_all places.is_text_value (documents (drop l.item-index l.items)) ≡ list_all places.is_text_value (documents l.items)
