use Rattle.diagram_tests.proofs.operators.joined.Goals as goal

pub either-requires-clause-a_live : goal.either-requires-clause-a_live
either-requires-clause-a_live g c = c.both.ensures.kept.live c.args.a c.requires.a_live

pub either-requires-clause-b_live : goal.either-requires-clause-b_live
either-requires-clause-b_live g c = c.both.ensures.kept.live c.args.b c.requires.b_live

pub without-requires-clause-a_live : goal.without-requires-clause-a_live
without-requires-clause-a_live g c = c.either.ensures.kept.live c.args.a (c.both.ensures.kept.live c.args.a c.requires.a_live)

pub without-requires-clause-b_live : goal.without-requires-clause-b_live
without-requires-clause-b_live g c = c.either.ensures.kept.live c.args.b (c.both.ensures.kept.live c.args.b c.requires.b_live)
