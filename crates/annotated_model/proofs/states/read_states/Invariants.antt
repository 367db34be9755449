use Rattle.std.proofs.Common.{◌≡◌, ◌≤◌, ◌++◌, map, drop}
use Rattle.doc_tree.specs.View.{documents}
use Rattle.annotated_model.specs.StateRules.{names_given, states_view, states_given, all_states_broken}
use Rattle.annotated_model.proofs.states.read_states.Given as goal

abbrev pub invariant-systems : goal.invariant-systems
invariant-systems l = record {
  counted : l.counted ≤ 4096;
  names : map (λ s. s.names) l.all.items ++ map names_given (documents (drop l.item l.systems)) ≡ map names_given (documents l.systems);
  value : map states_view l.all.items ++ map (states_given l.labels) (documents (drop l.item l.systems)) ≡ map (states_given l.labels) (documents l.systems);
  none : all_states_broken l.labels l.item l.counted (documents (drop l.item l.systems)) ≡ all_states_broken l.labels 0 0 (documents l.systems);
}
