use Rattle.std.proofs.Common.{◌≡◌, ℕ, [], map, length, get_or, take, vec_len}
use Rattle.std.specs.List.{sum_by}
use Rattle.featured_systems.specs.Rounds.{places, states_at}
use Rattle.featured_systems.proofs.lists.numbers_by_state.Given as goal

abbrev pub invariant-transitions : goal.invariant-transitions
invariant-transitions l = record {
  sized : vec_len l.lists ≡ l.states;
  lists : (y : ℕ) → get_or (map (λ list. list.items) l.lists.items) y [] ≡ places 0 y (states_at l.end (take l.number l.transitions));
  each_once : sum_by length (map (λ list. list.items) l.lists.items) ≡ l.number;
}
