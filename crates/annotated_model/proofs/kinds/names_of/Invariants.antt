use Rattle.std.proofs.Common.{◌≡◌, ◌≤◌, map, take, drop}
use Rattle.meaning.specs.BundlePlaces.{Kinds, name_in}
use Rattle.doc_tree.specs.View.{documents}
use Rattle.annotated_model.specs.Items.{faults_after, kind_broken, kinds_broken}
use Rattle.annotated_model.proofs.kinds.names_of.Given as goal

abbrev pub invariant-kinds : goal.invariant-kinds
invariant-kinds l = record {
  few : l.number ≤ 256;
  names : l.names ≡ map name_in (documents (take l.number l.kinds));
  faults : faults_after Kinds name_in (kind_broken l.types) l.names l.number (documents (drop l.number l.kinds)) ≡ kinds_broken l.types (documents l.kinds);
}
