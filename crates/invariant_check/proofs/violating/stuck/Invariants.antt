use Rattle.std.proofs.Common.{◌≡◌, length, take, map}
use Rattle.std.specs.Prelude.{not}
use Rattle.meaning.specs.Texts.{numbers_from}
use Rattle.worlds.specs.Algebra.{Worked}
use Rattle.worlds.specs.Rows.{RowWhere, row_at}
use Rattle.invariant_check.proofs.LeftStates.{is_left}
use Rattle.invariant_check.proofs.violating.stuck.Given as goal

abbrev pub invariant-loop-number : goal.invariant-loop-number
invariant-loop-number g l =
    let algebra = g.W.Worlds.algebra in
    record {
      worked : Worked l.number (algebra l.fn.w) (algebra l.w);
      made : RowWhere (algebra l.w) l.stuck.items
          (λ x. map (λ i. not (is_left (take l.number (map (λ t. t.from) l.system.transitions)) (row_at (algebra l.fn.w) l.steps x) i)) (numbers_from 0 (length l.system.states)));
      sized : length l.stuck.items ≡ length l.system.states;
    }
