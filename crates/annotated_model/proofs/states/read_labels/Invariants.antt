use Rattle.std.proofs.Common.{◌≡◌, ◌++◌, map, drop}
use Rattle.std.specs.List.{list_all}
use Rattle.meaning.specs.Documents.{texts_in}
use Rattle.meaning.specs.BundlePlaces.{is_among}
use Rattle.meaning.specs.Models as meaning
use Rattle.doc_tree.specs.View.{documents}
use Rattle.annotated_model.proofs.states.read_labels.Given as goal

abbrev pub invariant-given : goal.invariant-given
invariant-given l = record {
  value : l.numbers.items ++ map (meaning.number_in l.labels) (texts_in (documents (drop l.label-index l.given))) ≡ map (meaning.number_in l.labels) (texts_in (documents l.given));
  known : list_all (is_among l.labels) (texts_in (documents (drop l.label-index l.given))) ≡ list_all (is_among l.labels) (texts_in (documents l.given));
}
