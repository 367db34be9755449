use Rattle.std.proofs.Common.{sym, ap, ◌∙◌, cond}
use Rattle.meaning.specs.Replay.{NotInitial, replay_answer, steps_replayed}
use Rattle.annotated_model.specs.View.{system_view}
use Rattle.run_replay.proofs.Steps.{marked_initial}
use Rattle.run_replay.proofs.replaying.replay_in.Goals as goal

pub returns-then-states-from : goal.returns-then-states-from
unfolding replay_answer
returns-then-states-from c =
    let s = system_view c.args.system.now in
    let x = c.index-states-from.result in
    let is = marked_initial c.list-states.result.now c.args.system.now.states c.from.result c.args.start x c.list-states.ensures c.from.ensures c.requires.start c.index-states-from.is in
    c.replay_steps.ensures ∙ sym (ap (λ b. cond b (steps_replayed s c.args.world.now 0 c.args.start c.args.steps.now) NotInitial) (is ∙ ap (λ z. z.initial) c.index-states-from.is ∙ c.if-states-from.true))

pub returns-else-states-from : goal.returns-else-states-from
unfolding replay_answer
returns-else-states-from c =
    let s = system_view c.args.system.now in
    let x = c.index-states-from.result in
    let is = marked_initial c.list-states.result.now c.args.system.now.states c.from.result c.args.start x c.list-states.ensures c.from.ensures c.requires.start c.index-states-from.is in
    sym (ap (λ b. cond b (steps_replayed s c.args.world.now 0 c.args.start c.args.steps.now) NotInitial) (is ∙ ap (λ z. z.initial) c.index-states-from.is ∙ c.if-states-from.false))
