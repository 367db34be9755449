use Rattle.std.proofs.Common.{◌≡◌, ◌+◌, ◌*◌, length, take, map, ◌&&◌}
use Rattle.std.specs.List.{sum_by}
use Rattle.meaning.specs.Expressions.{size_of, truth}
use Rattle.cond_text.specs.View.{expression}
use Rattle.worlds.specs.Algebra.{Worked}
use Rattle.worlds.specs.Rows.{RowWhere}
use Rattle.featured_systems.proofs.steps.steps_of.Given as goal

abbrev pub invariant-loop-transition : goal.invariant-loop-transition
invariant-loop-transition g l =
    let algebra = g.W.Worlds.algebra in
    record {
      worked : Worked (sum_by (λ t. 8 * size_of (expression t.when) + 1) (take l.transition-index l.transitions)) (algebra l.fn.w) (algebra l.w);
      made : RowWhere (algebra l.w) l.steps.items (λ x. map (λ t. (algebra l.fn.w).holds l.there x && truth (expression t.when) x) (take l.transition-index l.transitions));
      one_for_each : length l.steps.items ≡ l.transition-index;
    }
