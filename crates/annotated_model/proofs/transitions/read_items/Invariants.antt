use Rattle.std.proofs.Common.{◌≡◌, ◌+◌, ◌≤◌, ◌++◌, map, drop}
use Rattle.meaning.specs.Models as meaning
use Rattle.doc_tree.specs.View.{documents}
use Rattle.annotated_model.specs.TransitionRules.{transitions_broken}
use Rattle.annotated_model.specs.View.{transition_view}
use Rattle.annotated_model.proofs.transitions.read_items.Given as goal

abbrev pub invariant-items : goal.invariant-items
invariant-items l = record {
  few : l.counted + l.no ≤ 16384;
  value : map transition_view l.all.items ++ map (meaning.transition_of l.features l.states) (documents (drop l.no l.items))
      ≡ map (meaning.transition_of l.features l.states) (documents l.items);
  none : transitions_broken l.features l.item l.counted l.states l.no (documents (drop l.no l.items)) ≡ transitions_broken l.features l.item l.counted l.states 0 (documents l.items);
}
