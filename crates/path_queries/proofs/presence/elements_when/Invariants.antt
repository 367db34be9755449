use Rattle.std.proofs.Common.{◌≡◌, ◌*◌, take, length, map}
use Rattle.std.specs.List.{sum_by}
use Rattle.meaning.specs.Expressions.{truth, size_of}
use Rattle.worlds.specs.Algebra.{Worked}
use Rattle.worlds.specs.Rows.{RowWhere}
use Rattle.path_queries.proofs.presence.elements_when.Given as goal

abbrev pub invariant-loop-element : goal.invariant-loop-element
invariant-loop-element g l =
    let algebra = g.W.Worlds.algebra in
    record {
      worked : Worked (8 * sum_by (λ e. size_of e.presence) (take l.element-index l.model.elements)) (algebra l.fn.w) (algebra l.w);
      size : length l.conditions.items ≡ l.element-index;
      rows : RowWhere (algebra l.w) l.conditions.items (λ x. map (λ e. truth e.presence x) (take l.element-index l.model.elements));
    }
