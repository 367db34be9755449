use Rattle.std.proofs.Common.{sym}
use Rattle.std.proofs.lemmas.Bool.{eqb-true}
use Rattle.conditions.proofs.Laws.{never_nowhere}
use Rattle.conditions.proofs.diagrams.DiagramsWorlds.pick.Goals as goal

pub returns-then-eq-clause-never : goal.returns-then-eq-clause-never
returns-then-eq-clause-never c = never_nowhere c.args.self.now c.args.a (eqb-true c.args.a.0 0 (sym c.if-eq.ensures))
