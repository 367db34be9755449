use Rattle.std.proofs.Common.{◌≡◌, length, replicate, false}
use Rattle.worlds.specs.Rows.{RowWhere}
use Rattle.invariant_check.proofs.checking.nowhere.Given as goal

abbrev pub invariant-loop-place : goal.invariant-loop-place
invariant-loop-place g l =
    let algebra = g.W.Worlds.algebra in
    record {
      made : RowWhere (algebra l.w) l.conditions.items (λ x. replicate l._place false);
      sized : length l.conditions.items ≡ l._place;
    }
