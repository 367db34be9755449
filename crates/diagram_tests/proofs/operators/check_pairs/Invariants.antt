use Rattle.std.proofs.Common.{◌≡◌}
use Rattle.diagram_tests.proofs.operators.check_pairs.Given as goal

abbrev pub invariant-pairs : goal.invariant-pairs
invariant-pairs g l = (g.W.Worlds.algebra l.w).count ≡ 4
