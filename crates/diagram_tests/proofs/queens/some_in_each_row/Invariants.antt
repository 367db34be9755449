use Rattle.worlds.specs.Algebra.{Kept}
use Rattle.diagram_tests.proofs.queens.some_in_each_row.Given as goal

abbrev pub invariant-rows : goal.invariant-rows
invariant-rows g l = record {
  kept : Kept (g.W.Worlds.algebra l.initial.w) (g.W.Worlds.algebra l.w);
  live : (g.W.Worlds.algebra l.w).live l.board;
}
