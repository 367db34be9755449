use Rattle.std.proofs.Common.{◌≡◌, ◌*◌, length, take, ◌&&◌, ◌||◌}
use Rattle.std.specs.Prelude.{not, find}
use Rattle.meaning.specs.Systems.{is_some_number}
use Rattle.worlds.specs.Algebra.{Worked, HoldsWhere}
use Rattle.worlds.specs.Rows.{RowWhere, row_at}
use Rattle.featured_systems.specs.Rounds.{comes, marked, front_at}
use Rattle.featured_systems.proofs.entering.enter.Given as goal

abbrev pub invariant-loop-number : goal.invariant-loop-number
invariant-loop-number g l =
    let algebra = g.W.Worlds.algebra in
    let first = λ (x : _). find (comes (front_at (algebra l.fn.w) l.transitions l.steps l.last x)) (take l.number-index l.numbers) in
    record {
      worked : Worked (5 * l.number-index) (algebra l.fn.w) (algebra l.w);
      seen : HoldsWhere (algebra l.w) l.seen (λ x. (algebra l.fn.w).holds l.fn.before x || is_some_number (first x));
      entered : HoldsWhere (algebra l.w) l.entered (λ x. not ((algebra l.fn.w).holds l.fn.before x) && is_some_number (first x));
      parents : RowWhere (algebra l.w) l.parents.items (λ x. marked ((algebra l.fn.w).holds l.fn.before x) (first x) (row_at (algebra l.fn.w) l.fn.parents.items x));
      size : length l.parents.items ≡ length l.fn.parents.items;
    }
