use Rattle.std.proofs.Common.{◌≡◌, ◌≤◌, ◌++◌, [], map, drop, length, codes}
use Rattle.meaning.specs.Documents.{text_at}
use Rattle.doc_tree.specs.View.{documents}
use Rattle.annotated_model.specs.SystemRules.{systems_broken}
use Rattle.annotated_model.proofs.systems.read_owners.Given as goal

abbrev pub invariant-systems : goal.invariant-systems
invariant-systems l = record {
  few : l.no ≤ 256;
  many : length l.owners ≡ l.no;
  owners : l.owners ++ map (text_at (codes "element")) (documents (drop l.no l.systems)) ≡ map (text_at (codes "element")) (documents l.systems);
  none : systems_broken l.known l.owners l.counted l.no (documents (drop l.no l.systems)) ≡ systems_broken l.known [] 0 0 (documents l.systems);
}
