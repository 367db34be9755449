use Rattle.std.proofs.Common.{map, take}
use Rattle.worlds.specs.Algebra.{Worked}
use Rattle.path_queries.specs.Presence.{arrow_at}
use Rattle.path_queries.specs.Relations.{turned}
use Rattle.path_queries.specs.Matrices.{linked, MatrixWhere}
use Rattle.path_queries.proofs.matrix.of_kind.Given as goal

abbrev pub invariant-loop-edge : goal.invariant-loop-edge
invariant-loop-edge g l =
    let algebra = g.W.Worlds.algebra in
    record {
      worked : Worked l.edge-index (algebra l.fn.w) (algebra l.w);
      made : MatrixWhere (algebra l.w) l.n l.cells.items (λ x. turned l.back (linked (take l.edge-index (map (arrow_at (algebra l.fn.w) x) l.edges)) l.kind));
    }
