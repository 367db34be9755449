use Rattle.worlds.proofs.OneWorld.{truth_there}
use Rattle.diagram_tests.proofs.one_world.truth_by_condition.Goals as goal

pub returns : goal.returns
returns c =
    truth_there c.args.world.now c.in-Ok.c c.new-one.ensures.only c.in-Ok.ensures.worked.kept c.in-Ok.ensures.made
