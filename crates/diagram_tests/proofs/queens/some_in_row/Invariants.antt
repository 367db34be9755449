use Rattle.worlds.specs.Algebra.{Kept}
use Rattle.diagram_tests.proofs.queens.some_in_row.Given as goal

abbrev pub invariant-columns : goal.invariant-columns
invariant-columns g l = record {
  kept : Kept (g.W.Worlds.algebra l.initial.w) (g.W.Worlds.algebra l.w);
  live : (g.W.Worlds.algebra l.w).live l.some;
}
