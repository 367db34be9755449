use Rattle.worlds.specs.Algebra.{Kept}
use Rattle.diagram_tests.proofs.queens.queens.Given as goal

abbrev pub invariant-squares : goal.invariant-squares
invariant-squares g l = record {
  kept : Kept (g.W.Worlds.algebra l.initial.w) (g.W.Worlds.algebra l.w);
  live : (g.W.Worlds.algebra l.w).live l.board;
}
