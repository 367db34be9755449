use Rattle.std.proofs.Common.{sym, ◌∙◌}
use Rattle.std.proofs.lemmas.List.{append-nil}
use Rattle.meaning.specs.Documents.{texts_in}
use Rattle.doc_tree.specs.View.{documents}
use Rattle.annotated_model.proofs.NewTexts.{are_new_is}
use Rattle.annotated_model.proofs.types.attributes_of.Goals as goal

pub own-init : goal.own-init
own-init c = record {
  names = c.in_ok-names.ensures.same ∙ sym (append-nil c.args.inherited.now);
  new = sym (are_new_is c.args.inherited.now (texts_in (documents c.args.own.now))) ∙ c.requires.new;
}
