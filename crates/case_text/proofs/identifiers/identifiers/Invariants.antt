use Rattle.std.proofs.Common.{◌≡◌, ◌<◌, ℕ, map, length, take, get_or, string_bytes}
use Rattle.std.specs.Prelude.{count_by, ◌==◌}
use Rattle.std.specs.List.{range_with_len}
use Rattle.meaning.specs.Cases as plain
use Rattle.gsn.specs.View.{case_of, node_of}
use Rattle.case_text.proofs.identifiers.identifiers.Given as goal

abbrev pub invariant-nodes : goal.invariant-nodes
invariant-nodes l = record {
  names : map string_bytes l.all.items ≡ map (plain.identifier (case_of l.case)) (range_with_len 0 l.node-index);
  kinds : length l.counts ≡ 6;
  counts : (j : ℕ) → j < 6 → get_or l.counts j 0 ≡ count_by (λ y. plain.kind_number y.kind == j) (take l.node-index (map node_of l.case.nodes));
}
