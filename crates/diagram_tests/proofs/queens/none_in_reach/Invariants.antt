use Rattle.worlds.specs.Algebra.{Kept}
use Rattle.diagram_tests.proofs.queens.none_in_reach.Given as goal

abbrev pub invariant-others : goal.invariant-others
invariant-others g l = record {
  kept : Kept (g.W.Worlds.algebra l.initial.w) (g.W.Worlds.algebra l.w);
  live : (g.W.Worlds.algebra l.w).live l.free;
}
