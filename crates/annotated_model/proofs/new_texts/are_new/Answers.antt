use Rattle.std.proofs.Common.{sym, ap, ◌∙◌}
use Rattle.meaning.specs.Documents.{texts_in}
use Rattle.doc_tree.specs.View.{documents}
use Rattle.annotated_model.specs.NewTexts.{are_new_after}
use Rattle.annotated_model.proofs.NewTexts.{are_new_is}
use Rattle.annotated_model.proofs.new_texts.are_new.Goals as goal

pub items-init : goal.items-init
items-init c =
    let texts = texts_in (documents c.args.items.now) in
    ap (λ met. are_new_after c.args.before.now met texts) c.new-texts.ensures ∙ sym (are_new_is c.args.before.now texts)
