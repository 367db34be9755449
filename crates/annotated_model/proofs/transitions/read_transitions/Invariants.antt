use Rattle.std.proofs.Common.{◌≡◌, ◌≤◌, ◌++◌, map, drop}
use Rattle.std.specs.Vec.Iter.{into_iter_items}
use Rattle.meaning.specs.Models as meaning
use Rattle.doc_tree.specs.View.{documents}
use Rattle.annotated_model.specs.StateRules.{names_given, states_view, states_given}
use Rattle.annotated_model.specs.TransitionRules.{all_transitions_broken}
use Rattle.annotated_model.specs.View.{system_view}
use Rattle.annotated_model.proofs.transitions.read_transitions.Given as goal

abbrev pub invariant-systems : goal.invariant-systems
invariant-systems l = record {
  counted : l.counted ≤ 16384;
  names : map (λ s. s.names) (into_iter_items l.rest) ≡ map names_given (documents (drop l.item l.systems));
  states : map states_view (into_iter_items l.rest) ≡ map (states_given l.known.labels) (documents (drop l.item l.systems));
  value : map system_view l.all.items ++ map (meaning.system_from l.features l.known.labels l.known.element_names) (documents (drop l.item l.systems))
      ≡ map (meaning.system_from l.features l.known.labels l.known.element_names) (documents l.systems);
  none : all_transitions_broken l.features l.item l.counted (documents (drop l.item l.systems)) ≡ all_transitions_broken l.features 0 0 (documents l.systems);
}
