use Rattle.std.proofs.Common.{◌≡◌, ◌*◌, length, map, take}
use Rattle.std.specs.List.{sum_by}
use Rattle.worlds.specs.Algebra.{Worked}
use Rattle.worlds.specs.Rows.{RowWhere, row_at}
use Rattle.featured_systems.specs.Rounds.{front_at, entered_below, seen_below, parents_below}
use Rattle.featured_systems.proofs.entering.next_layer.Given as goal

abbrev pub invariant-states : goal.invariant-states
invariant-states g l =
    let algebra = g.W.Worlds.algebra in
    let front = λ (x : _). front_at (algebra l.fn.w) l.transitions l.steps l.last x in
    let seen = λ (x : _). row_at (algebra l.fn.w) l.fn.found.reached.items x in
    record {
      worked : Worked (5 * sum_by length (take l.y (map (λ list. list.items) l.into))) (algebra l.fn.w) (algebra l.w);
      entered : RowWhere (algebra l.w) l.next.items (λ x. entered_below (front x) (seen x) l.y);
      reached : RowWhere (algebra l.w) l.found.reached.items (λ x. seen_below (front x) (seen x) l.y);
      parents : RowWhere (algebra l.w) l.found.parents.items (λ x. parents_below (front x) (seen x) (row_at (algebra l.fn.w) l.fn.found.parents.items x) l.y);
      one_for_each : length l.next.items ≡ l.y;
      states : length l.found.reached.items ≡ length l.last;
      transitions : length l.found.parents.items ≡ length l.transitions;
      layers : l.found.layers.items ≡ l.fn.found.layers.items;
    }
