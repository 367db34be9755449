use Rattle.std.proofs.Common.{◌≡◌, length, take, map, ◌&&◌}
use Rattle.worlds.specs.Rows.{RowWhere}
use Rattle.featured_systems.proofs.steps.starts.Given as goal

abbrev pub invariant-loop-state : goal.invariant-loop-state
invariant-loop-state g l =
    let algebra = g.W.Worlds.algebra in
    record {
      made : RowWhere (algebra l.w) l.first.items (λ x. map (λ s. (algebra l.w).holds l.there x && s.initial) (take l.state-index l.states));
      one_for_each : length l.first.items ≡ l.state-index;
    }
