use Rattle.std.proofs.Common.{sym, ap, ◌∙◌, ◌+◌, drop}
use Rattle.meaning.specs.Replay.{NotJoined, NotPresent, or_on, steps_replayed}
use Rattle.annotated_model.specs.View.{system_view, transition_view}
use Rattle.run_replay.proofs.Steps.{taken_item, one_step, not_joined, not_present, goes_on}
use Rattle.run_replay.proofs.replaying.replay_steps.Goals as goal

pub returns-then-transition-state : goal.returns-then-transition-state
returns-then-transition-state c =
    let s = system_view c.args.system.now in
    let i = c.loop-step.step in
    let d = transition_view c.index-transitions-from.result in
    let at = taken_item c.list-transitions.result.now c.args.system.now.transitions c.from.result _ c.index-transitions-from.result c.list-transitions.ensures c.from.ensures (c.requires.steps i 0 c.loop-step-test.true) c.index-transitions-from.is in
    let rest = steps_replayed s c.args.world.now (i + 1) d.target (drop (i + 1) c.args.steps.now) in
    ap NotJoined c.told.ensures
    ∙ sym (c.loop-step.invariant ∙ one_step s c.args.world.now i c.loop-step.state c.args.steps.now d c.loop-step-test.true at
    ∙ ap (λ o. or_on o rest) (not_joined c.args.world.now i c.loop-step.state d c.if-transition-state.true))

pub returns-then-not-truth : goal.returns-then-not-truth
returns-then-not-truth c =
    let s = system_view c.args.system.now in
    let i = c.loop-step.step in
    let d = transition_view c.index-transitions-from.result in
    let at = taken_item c.list-transitions.result.now c.args.system.now.transitions c.from.result _ c.index-transitions-from.result c.list-transitions.ensures c.from.ensures (c.requires.steps i 0 c.loop-step-test.true) c.index-transitions-from.is in
    let rest = steps_replayed s c.args.world.now (i + 1) d.target (drop (i + 1) c.args.steps.now) in
    ap NotPresent c.told-then-not-truth.ensures
    ∙ sym (c.loop-step.invariant ∙ one_step s c.args.world.now i c.loop-step.state c.args.steps.now d c.loop-step-test.true at
    ∙ ap (λ o. or_on o rest) (not_present c.args.world.now i c.loop-step.state d c.if-transition-state.false (sym c.truth.ensures ∙ c.if-not-truth.true)))

pub loop-step-preserved : goal.loop-step-preserved
loop-step-preserved c =
    let s = system_view c.args.system.now in
    let i = c.loop-step.step in
    let d = transition_view c.index-transitions-from.result in
    let at = taken_item c.list-transitions.result.now c.args.system.now.transitions c.from.result _ c.index-transitions-from.result c.list-transitions.ensures c.from.ensures (c.requires.steps i 0 c.loop-step-test.true) c.index-transitions-from.is in
    let rest = steps_replayed s c.args.world.now (i + 1) d.target (drop (i + 1) c.args.steps.now) in
    c.loop-step.invariant ∙ one_step s c.args.world.now i c.loop-step.state c.args.steps.now d c.loop-step-test.true at
    ∙ ap (λ o. or_on o rest) (goes_on c.args.world.now i c.loop-step.state d c.if-transition-state.false (sym c.truth.ensures ∙ c.if-not-truth.false))
