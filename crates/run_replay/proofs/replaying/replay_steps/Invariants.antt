use Rattle.std.proofs.Common.{◌≡◌, drop}
use Rattle.meaning.specs.Replay.{steps_replayed}
use Rattle.annotated_model.specs.View.{system_view}
use Rattle.run_replay.proofs.replaying.replay_steps.Given as goal

abbrev pub invariant-loop-step : goal.invariant-loop-step
invariant-loop-step l =
    steps_replayed (system_view l.system) l.world 0 l.fn.start l.steps ≡ steps_replayed (system_view l.system) l.world l.step l.state (drop l.step l.steps)
