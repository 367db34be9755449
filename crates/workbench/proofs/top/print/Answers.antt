use Rattle.workbench.proofs.TopCauses.{nothing_said}
use Rattle.workbench.proofs.top.print.Goals as goal

pub returns-in-Ok-clause-said : goal.returns-in-Ok-clause-said
returns-in-Ok-clause-said g c = nothing_said (g.E.Sink.got c.args.err.now) (g.E.Sink.faults c.args.err.now)
