use Rattle.std.proofs.Common.{◌≡◌, ◌++◌, take, drop, true}
use Rattle.meaning.specs.Documents.{texts_in}
use Rattle.doc_tree.specs.View.{documents}
use Rattle.annotated_model.specs.NewTexts.{are_new_after}
use Rattle.annotated_model.proofs.types.attributes_of.Given as goal

abbrev pub invariant-own : goal.invariant-own
invariant-own l = record {
  names : l.names ≡ l.inherited ++ texts_in (documents (take l.attribute-index l.own));
  new : are_new_after l.inherited (texts_in (documents (take l.attribute-index l.own))) (texts_in (documents (drop l.attribute-index l.own))) ≡ true;
}
