use Rattle.std.proofs.Common.{◌≡◌, ◌≤◌, take, drop}
use Rattle.meaning.specs.Documents.{texts_in}
use Rattle.meaning.specs.BundlePlaces.{Labels}
use Rattle.meaning.specs.ModelRules.{label_text}
use Rattle.doc_tree.specs.View.{documents}
use Rattle.annotated_model.specs.Items.{faults_after, label_broken, labels_broken}
use Rattle.annotated_model.proofs.labels.names_of.Given as goal

abbrev pub invariant-labels : goal.invariant-labels
invariant-labels l = record {
  few : l.number ≤ 256;
  names : l.names ≡ texts_in (documents (take l.number l.labels));
  faults : faults_after Labels label_text label_broken l.names l.number (documents (drop l.number l.labels)) ≡ labels_broken (documents l.labels);
}
