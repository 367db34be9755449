use Rattle.std.proofs.Common.{false}
use Rattle.path_queries.specs.Matrices.{FilledWhere}
use Rattle.path_queries.proofs.matrix.nothing.Given as goal

abbrev pub invariant-loop-cell : goal.invariant-loop-cell
invariant-loop-cell g l = FilledWhere (g.W.Worlds.algebra l.w) l.n l._cell l.cells.items (λ x i j. false)
