use Rattle.std.proofs.Common.{◌≡◌, ℕ, [], map, length, get_or, vec_len}
use Rattle.std.specs.List.{sum_by}
use Rattle.featured_systems.proofs.lists.no_lists.Given as goal

abbrev pub invariant-loop-state : goal.invariant-loop-state
invariant-loop-state l = record {
  sized : vec_len l.lists ≡ l._state;
  empty : (y : ℕ) → get_or (map (λ list. list.items) l.lists.items) y [] ≡ [];
  none : sum_by length (map (λ list. list.items) l.lists.items) ≡ 0;
}
