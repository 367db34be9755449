use Rattle.std.proofs.Common.{◌≡◌, ◌*◌, length, take}
use Rattle.worlds.specs.Algebra.{Worked, HoldsWhere}
use Rattle.worlds.specs.Rows.{RowWhere}
use Rattle.invariant_check.specs.Searching.{is_open, firsts_at}
use Rattle.invariant_check.proofs.nearest.nearest.Given as goal

abbrev pub invariant-loop-layer : goal.invariant-loop-layer
invariant-loop-layer g l =
    let algebra = g.W.Worlds.algebra in
    record {
      worked : Worked (4 * l.layer-index) (algebra l.fn.w) (algebra l.w);
      left : HoldsWhere (algebra l.w) l.left (is_open (algebra l.fn.w) l.fn.under l.violating (take l.layer-index l.layers));
      targets : RowWhere (algebra l.w) l.targets.items (firsts_at (algebra l.fn.w) l.fn.under l.violating (take l.layer-index l.layers));
      sized : length l.targets.items ≡ length l.violating;
    }
