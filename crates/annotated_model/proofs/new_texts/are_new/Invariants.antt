use Rattle.std.proofs.Common.{◌≡◌, drop}
use Rattle.meaning.specs.Documents.{texts_in}
use Rattle.meaning.specs.BundlePlaces as places
use Rattle.doc_tree.specs.View.{documents}
use Rattle.annotated_model.specs.NewTexts.{are_new_after}
use Rattle.annotated_model.proofs.new_texts.are_new.Given as goal

-- whether the texts are new is whether those are that are left
abbrev pub invariant-items : goal.invariant-items
invariant-items l =
    are_new_after l.before l.texts (texts_in (documents (drop l.item-index l.items))) ≡ places.are_new l.before (texts_in (documents l.items))
