use Rattle.std.proofs.Common.{◌≡◌, [], ◌∷◌, ◌++◌, ◌+◌, false, sym, ap, subst, ◌∙◌, drop}
use Rattle.std.specs.Prelude.{bytes_eq}
use Rattle.std.specs.List.{list_any}
use Rattle.meaning.specs.Documents.{texts_in}
use Rattle.doc_tree.specs.View.{documents}
use Rattle.lifted_case.specs.ReadFaults.{first_bad_after}
use Rattle.lifted_case.proofs.SeenNames.{next_is_new, one_name_more}
use Rattle.lifted_case.proofs.values.lists.names.Goals as goal

pub add_new-requires-clause-new : goal.add_new-requires-clause-new
add_new-requires-clause-new c =
    let new = next_is_new c.args.items.now c.items.item-index c.item-item.result c.items-test.true c.item-item.is c.items.names c.items.invariant.1 in
    subst (λ s. list_any (bytes_eq s) c.items.names ≡ false) (sym c.text_of.ensures) new.0

pub items-preserved : goal.items-preserved
items-preserved c =
    let items = c.args.items.now in
    let i = c.items.item-index in
    let new = next_is_new items i c.item-item.result c.items-test.true c.item-item.is c.items.names c.items.invariant.1 in
    let added = c.in_ok-add_new.ensures ∙ ap (λ s. c.items.names ++ s ∷ []) c.text_of.ensures in (
      added ∙ one_name_more items i c.item-item.result c.items-test.true c.item-item.is c.items.names c.items.invariant.0,
      ap (λ ns. first_bad_after ns (i + 1) (texts_in (documents (drop (i + 1) items)))) added ∙ new.1,
    )
