use Rattle.std.proofs.Common.{◌≡◌, ℕ, [], map, get_or, take, vec_len}
use Rattle.gsn.specs.View.{relation_kind_of}
use Rattle.case_text.specs.Parts.{targets_of}
use Rattle.case_text.proofs.targets.targets.Given as goal

abbrev pub invariant-relations : goal.invariant-relations
invariant-relations l = record {
  sized : vec_len l.lists ≡ l.nodes;
  targets : (x : ℕ) → get_or (map (λ list. list.items) l.lists.items) x [] ≡ targets_of (relation_kind_of l.kind) x (take l.relation-index l.relations);
}
