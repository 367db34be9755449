use Rattle.std.proofs.Common.{◌*◌}
use Rattle.worlds.specs.Algebra.{Worked, HoldsWhere}
use Rattle.path_queries.specs.Relations.{composed}
use Rattle.path_queries.specs.Matrices.{relation_at}
use Rattle.path_queries.proofs.matrix.composed_cell.Given as goal

abbrev pub invariant-loop-k : goal.invariant-loop-k
invariant-loop-k g l =
    let algebra = g.W.Worlds.algebra in
    record {
      worked : Worked (2 * l.k) (algebra l.fn.w) (algebra l.w);
      made : HoldsWhere (algebra l.w) l.found (λ x. composed l.k (relation_at (algebra l.fn.w) l.n l.a x) (relation_at (algebra l.fn.w) l.n l.b x) l.i l.j);
    }
