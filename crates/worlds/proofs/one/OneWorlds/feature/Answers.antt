use Rattle.cond_text.proofs.Values.{value_at_place}
use Rattle.worlds.proofs.OneWorld.{same_list}
use Rattle.worlds.proofs.one.OneWorlds.feature.Goals as goal

pub returns-clause-made : goal.returns-clause-made
returns-clause-made c = record {
  live = tt;
  holds = λ x w. rw (same_list x c.args.self.now.world.now w) (rw c.from.ensures (value_at_place c.args.self.now.world.now c.args.f));
}
