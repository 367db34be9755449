use Rattle.std.proofs.Common.{◌*◌}
use Rattle.worlds.specs.Algebra.{Worked}
use Rattle.path_queries.specs.Relations.{through}
use Rattle.path_queries.specs.Matrices.{relation_at, FilledWhere}
use Rattle.path_queries.proofs.matrix.by_way.Given as goal

abbrev pub invariant-loop-place : goal.invariant-loop-place
invariant-loop-place g l =
    let algebra = g.W.Worlds.algebra in
    record {
      worked : Worked (l.place * 2) (algebra l.fn.w) (algebra l.w);
      filled : FilledWhere (algebra l.w) l.n l.place l.cells.items (λ x. through l.middle (relation_at (algebra l.fn.w) l.n l.a x));
    }
