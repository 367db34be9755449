use Rattle.std.proofs.Common.{◌≡◌, ◌+◌, ◌≤◌, ◌++◌, [], map, drop, length}
use Rattle.meaning.specs.BundlePlaces.{name_in}
use Rattle.meaning.specs.Models as meaning
use Rattle.doc_tree.specs.View.{documents}
use Rattle.annotated_model.specs.StateRules.{states_broken}
use Rattle.annotated_model.specs.View.{state_view}
use Rattle.annotated_model.proofs.states.read_items.Given as goal

abbrev pub invariant-items : goal.invariant-items
invariant-items l = record {
  few : l.counted + l.no ≤ 4096;
  many : length l.names ≡ l.no;
  names : l.names ++ map name_in (documents (drop l.no l.items)) ≡ map name_in (documents l.items);
  value : map state_view l.states.items ++ map (meaning.state_of l.labels) (documents (drop l.no l.items)) ≡ map (meaning.state_of l.labels) (documents l.items);
  none : states_broken l.labels l.item l.counted l.names l.no (documents (drop l.no l.items)) ≡ states_broken l.labels l.item l.counted [] 0 (documents l.items);
}
