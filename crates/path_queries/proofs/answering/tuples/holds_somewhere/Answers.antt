use Rattle.path_queries.proofs.Worldly.{somewhere_told, nowhere_told}
use Rattle.path_queries.proofs.answering.tuples.holds_somewhere.Goals as goal

pub returns-clause-somewhere : goal.returns-clause-somewhere
returns-clause-somewhere g c = somewhere_told (g.W.Worlds.algebra c.args.w.now) c.args.c c.is_never.result c.count-features.ensures.lengths c.is_never.ensures

pub returns-clause-nowhere : goal.returns-clause-nowhere
returns-clause-nowhere g c = nowhere_told (g.W.Worlds.algebra c.args.w.now) c.args.c c.is_never.result c.is_never.ensures
