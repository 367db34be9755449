use Rattle.std.proofs.Common.{◌≡◌, length, take, map}
use Rattle.worlds.specs.Rows.{RowWhere}
use Rattle.meaning.specs.Expressions.{truth}
use Rattle.meaning.specs.Systems.{labels_true}
use Rattle.cond_text.specs.View.{expression}
use Rattle.annotated_model.specs.View.{state_view}
use Rattle.invariant_check.proofs.violating.satisfying.Given as goal

abbrev pub invariant-loop-state : goal.invariant-loop-state
invariant-loop-state g l =
    let algebra = g.W.Worlds.algebra in
    record {
      made : RowWhere (algebra l.w) l.violating.items (λ x. map (λ s. truth (expression l.over) (labels_true l.labels (state_view s))) (take l.state-index l.system.states));
      sized : length l.violating.items ≡ l.state-index;
    }
