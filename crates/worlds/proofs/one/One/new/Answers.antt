use Rattle.std.proofs.Common.{refl}
use Rattle.worlds.proofs.OneWorld.{same_list, itself}
use Rattle.worlds.proofs.one.One.new.Goals as goal

pub returns-clause-only : goal.returns-clause-only
returns-clause-only c =
    let world = c.args.world.now in
    record {
      count = refl;
      worlds = λ x. (λ h. same_list x world h, λ h. rw h (itself world));
      live = λ k. tt;
      holds = λ k x. refl;
      refused = refl;
      limit = refl;
      taken = refl;
    }
