use Rattle.std.proofs.Common.{◌≡◌, ◌≤◌, ◌+◌, ◌*◌, ℕ, List, [], length, take}
use Rattle.std.specs.Prelude.{cond, false}
use Rattle.worlds.specs.Algebra.{Kept}
use Rattle.path_queries.specs.Answering.{tuples_of, tuples_at}
use Rattle.templates.specs.View.{template_view}
use Rattle.lifting.specs.Sites.{templates_of, below_among, LiesBelow, instances_below, keys_below, instances_of_tuples, keys_of_tuples, AddsBelow}
use Rattle.lifting.proofs.OverflowSteps.{Fills}
use Rattle.lifting.proofs.lift.+lifting.Given as goal

abbrev pub decreases-lift_node : goal.decreases-lift_node
decreases-lift_node g l = 5 * l.levels

abbrev pub decreases-lift_first : goal.decreases-lift_first
decreases-lift_first g l = 5 * l.levels + 1

abbrev pub decreases-lift_below : goal.decreases-lift_below
decreases-lift_below g l = 5 * l.levels + 2

abbrev pub decreases-lift_rows : goal.decreases-lift_rows
decreases-lift_rows g l = 5 * l.levels + 3

abbrev pub decreases-lift_plain : goal.decreases-lift_plain
decreases-lift_plain g l = 5 * l.levels + 4

-- the rows so far
abbrev pub invariant-lift_rows-rows : goal.invariant-lift_rows-rows
invariant-lift_rows-rows g l =
    let algebra = g.W.Worlds.algebra in
    let t = template_view l.template in
    record {
      kept : Kept (algebra l.fn.w) (algebra l.w);
      room : length l.out.nodes.items + l.out.left ≤ 32768;
      adds : AddsBelow (algebra l.w) l.key l.place
          (λ x. instances_of_tuples l.model (templates_of l.templates) l.levels t l.key l.bound (below_among t.nodes l.number false) (tuples_at (algebra l.fn.w) (take l.row-index l.rows) x) x)
          (keys_of_tuples l.model (templates_of l.templates) l.levels t l.key (below_among t.nodes l.number false) (tuples_of (take l.row-index l.rows))) l.fn.out l.out;
    }

-- the nodes so far
abbrev pub invariant-lift_below-nodes : goal.invariant-lift_below-nodes
invariant-lift_below-nodes g l =
    let algebra = g.W.Worlds.algebra in
    let t = template_view l.template in
    record {
      kept : Kept (algebra l.fn.w) (algebra l.w);
      nodes : l.nodes ≡ l.template.nodes;
      other : l.other ≡ l.node-index;
      room : length l.out.nodes.items + l.out.left ≤ 32768;
      adds : (upper : List ℕ) → LiesBelow l.front upper → AddsBelow (algebra l.w) upper l.place
          (λ x. cond ((algebra l.fn.w).holds l.under x) (instances_below l.model (templates_of l.templates) l.levels t l.front l.bound (below_among (take l.other t.nodes) l.number l.annotating) x) [])
          (keys_below l.model (templates_of l.templates) l.levels t l.front (below_among (take l.other t.nodes) l.number l.annotating)) l.fn.out l.out;
      fills : Fills (algebra l.w) (λ x. cond ((algebra l.fn.w).holds l.under x) (instances_below l.model (templates_of l.templates) l.levels t l.front l.bound (below_among (take l.other t.nodes) l.number l.annotating) x) [])
          (keys_below l.model (templates_of l.templates) l.levels t l.front (below_among (take l.other t.nodes) l.number l.annotating)) l.fn.out.left l.out.left;
    }
