use Rattle.lifting.proofs.WorldsTried.{somewhere_told, nowhere_told}
use Rattle.lifting.proofs.lift.holds_somewhere.Goals as goal

pub returns-clause-somewhere : goal.returns-clause-somewhere
returns-clause-somewhere g c = somewhere_told (g.W.Worlds.algebra c.args.w.now) c.args.condition c.is_never.result c.count-features.ensures.lengths c.is_never.ensures

pub returns-clause-nowhere : goal.returns-clause-nowhere
returns-clause-nowhere g c = nowhere_told (g.W.Worlds.algebra c.args.w.now) c.args.condition c.is_never.result c.is_never.ensures
