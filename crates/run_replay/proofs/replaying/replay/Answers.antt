use Rattle.std.proofs.Common.{◌<◌, ◌≤◌, sym, ap, ◌∙◌, subst, length, arith}
use Rattle.std.specs.List.{All}
use Rattle.meaning.specs.Expressions.{name_bound}
use Rattle.meaning.specs.Replay.{replay_answer}
use Rattle.annotated_model.specs.View.{state_view, system_view, transition_view}
use Rattle.std.proofs.lemmas.List.{length-map}
use Rattle.annotated_model.proofs.ViewedItems.{viewed, all_at, all_viewed, same_some}
use Rattle.run_replay.proofs.replaying.replay.Goals as goal

pub replay_in-requires-clause-start : goal.replay_in-requires-clause-start
replay_in-requires-clause-start c =
    let x = c.index-systems-from.result in
    let at = viewed system_view c.systems-systems.result.now c.args.model.now.systems c.from.result c.args.system x c.systems-systems.ensures.systems c.from.ensures c.requires.system c.index-systems-from.is in
    let below = c.requires.start (system_view x) at in
    let long = length-map x.states state_view in
    omega (arith, below, long)

pub replay_in-requires-clause-steps : goal.replay_in-requires-clause-steps
replay_in-requires-clause-steps c =
    let x = c.index-systems-from.result in
    let at = viewed system_view c.systems-systems.result.now c.args.model.now.systems c.from.result c.args.system x c.systems-systems.ensures.systems c.from.ensures c.requires.system c.index-systems-from.is in
    subst (λ n. All (λ t. t < n) c.args.steps.now) (length-map x.transitions transition_view) (c.requires.steps (system_view x) at)

pub replay_in-requires-clause-names : goal.replay_in-requires-clause-names
replay_in-requires-clause-names c =
    let x = c.index-systems-from.result in
    let at = viewed system_view c.systems-systems.result.now c.args.model.now.systems c.from.result c.args.system x c.systems-systems.ensures.systems c.from.ensures c.requires.system c.index-systems-from.is in
    all_viewed transition_view (λ t. name_bound t.presence ≤ length c.args.world.now) x.transitions
    (all_at (λ s. All (λ t. name_bound t.presence ≤ length c.args.world.now) s.transitions) c.args.model.now.systems c.args.system (system_view x) c.requires.names.transitions at)

pub returns : goal.returns
returns c =
    let x = c.index-systems-from.result in
    let at = viewed system_view c.systems-systems.result.now c.args.model.now.systems c.from.result c.args.system x c.systems-systems.ensures.systems c.from.ensures c.requires.system c.index-systems-from.is in
    λ s is. c.replay_in.ensures ∙ ap (λ y. replay_answer y c.args.world.now c.args.start c.args.steps.now) (same_some (system_view x) s (sym at ∙ is))
