use Rattle.std.proofs.Common.{◌≡◌, map}
use Rattle.std.specs.List.{range_with_len}
use Rattle.meaning.specs.Texts.{holds_at}
use Rattle.meaning.specs.Cases as plain
use Rattle.gsn.specs.View.{status_view}
use Rattle.gsn.proofs.status.statuses.Given as goal

abbrev pub invariant-nodes : goal.invariant-nodes
invariant-nodes l =
    map status_view l.all.items ≡ map (λ i. plain.status_of (holds_at l.refuted.items i) (holds_at l.supported.items i)) (range_with_len 0 l.k)
