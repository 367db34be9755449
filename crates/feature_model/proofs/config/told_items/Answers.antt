use Rattle.std.proofs.Common.{◌∙◌, ap, Some, None}
use Rattle.std.specs.Prelude.{if◌then◌else◌, option_and_then}
use Rattle.meaning.specs.Texts.{with_each}
use Rattle.meaning.specs.Documents.{as_text, as_list, texts_in}
use Rattle.doc_tree.specs.View.{documents}
use Rattle.feature_model.proofs.NamedWorlds.{texts_told}
use Rattle.feature_model.proofs.config.told_items.Goals as goal

pub returns-then-are_texts : goal.returns-then-are_texts
returns-then-are_texts c =
    let texts = documents c.in_ok-items.items.now in
    ap (λ b. if b then Some (texts_in texts) else None) c.if-are_texts.ensures
    ∙ (texts_told texts ∙ (ap (option_and_then (with_each as_text)) c.in_ok-items.ensures
    ∙ ap (λ m. option_and_then (with_each as_text) (option_and_then as_list m)) c.in_ok-member.ensures))

pub returns-else-are_texts : goal.returns-else-are_texts
returns-else-are_texts c =
    let texts = documents c.in_ok-items.items.now in
    ap (λ b. if b then Some (texts_in texts) else None) c.if-are_texts.ensures
    ∙ (texts_told texts ∙ (ap (option_and_then (with_each as_text)) c.in_ok-items.ensures
    ∙ ap (λ m. option_and_then (with_each as_text) (option_and_then as_list m)) c.in_ok-member.ensures))
