use Rattle.std.proofs.Common.{◌≡◌, ℕ, [], map, get_or, vec_len}
use Rattle.case_text.proofs.targets.no_targets.Given as goal

abbrev pub invariant-nodes : goal.invariant-nodes
invariant-nodes l = record {
  sized : vec_len l.lists ≡ l._node;
  empty : (x : ℕ) → get_or (map (λ list. list.items) l.lists.items) x [] ≡ [];
}
