use Rattle.std.proofs.Common.{refl}
use Rattle.worlds.proofs.OneWorld.{itself_and, not_lower_than}
use Rattle.worlds.proofs.one.OneWorlds.pick.Goals as goal

pub returns-then-a-clause-found : goal.returns-then-a-clause-found
returns-then-a-clause-found c =
    let world = c.args.self.now.world.now in
    rw (c.if-a.true, c.copy_from_slice.ensures.after) (record {
      of_line = refl;
      inside_it = itself_and world;
      least = λ y long inside. not_lower_than world y inside;
    })
