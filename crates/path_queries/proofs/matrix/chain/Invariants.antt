use Rattle.std.proofs.Common.{◌*◌}
use Rattle.worlds.specs.Algebra.{Worked}
use Rattle.path_queries.specs.Relations.{closed}
use Rattle.path_queries.specs.Matrices.{relation_at, MatrixWhere}
use Rattle.path_queries.proofs.matrix.chain.Given as goal

abbrev pub invariant-loop-middle : goal.invariant-loop-middle
invariant-loop-middle g l =
    let algebra = g.W.Worlds.algebra in
    record {
      worked : Worked (l.middle * (l.n * l.n * 2)) (algebra l.fn.w) (algebra l.w);
      made : MatrixWhere (algebra l.w) l.n l.cells.items (λ x. closed l.middle (relation_at (algebra l.fn.w) l.n l.a x));
    }
