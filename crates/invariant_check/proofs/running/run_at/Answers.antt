use Rattle.std.proofs.Common.{◌≡◌, ◌∙◌, sym, ap, subst, length, arith}
use Rattle.std.specs.List.{All, slice_get}
use Rattle.std.specs.Prelude.{Some, option_map}
use Rattle.std.proofs.lemmas.List.{length-map}
use Rattle.std.proofs.lemmas.Result.{IfOk-weaker}
use Rattle.meaning.specs.Models.{projection}
use Rattle.meaning.specs.Systems.{run_to}
use Rattle.annotated_model.specs.ModelFacts.{SystemFits}
use Rattle.annotated_model.specs.View.{system_view, transition_view}
use Rattle.worlds.specs.Rows.{AllLive}
use Rattle.featured_systems.specs.Exploring.{IsExplored}
use Rattle.invariant_check.specs.Findings.{IsSomeFinding}
use Rattle.invariant_check.specs.Running.{all_has, first_target}
use Rattle.annotated_model.proofs.ViewedItems.{viewed, all_at, same_some}
use Rattle.invariant_check.proofs.RunsThere.{back_there, first_there, run_is}
use Rattle.invariant_check.proofs.running.run_at.Goals as goal
use Rattle.invariant_check.proofs.running.run_at.Goals.{After-index-systems-from}
use Rattle.invariant_check.proofs.running.run_at.Given as given

chosen : (g : given.Over) (c : After-index-systems-from g) → slice_get c.args.model.now.systems c.args.system ≡ Some (system_view c.index-systems-from.result)
chosen g c = viewed system_view c.systems-systems.result.now c.args.model.now.systems c.from.result c.args.system c.index-systems-from.result c.systems-systems.ensures.systems c.from.ensures c.requires.system c.index-systems-from.is

explored : (g : given.Over) (c : After-index-systems-from g) → IsExplored (g.W.Worlds.algebra c.args.w.now) c.args.model.now (system_view c.index-systems-from.result) c.args.explored.now
explored g c = c.requires.explored (system_view c.index-systems-from.result) (chosen g c)

found : (g : given.Over) (c : After-index-systems-from g) → IsSomeFinding (g.W.Worlds.algebra c.args.w.now) c.args.model.now (system_view c.index-systems-from.result) c.args.finding.now
found g c = c.requires.finding (system_view c.index-systems-from.result) (chosen g c)

pub run_there-requires-clause-few : goal.run_there-requires-clause-few
run_there-requires-clause-few g c =
    let m = c.args.model.now in
    let x = c.index-systems-from.result in
    let fits = all_at (SystemFits m) m.systems c.args.system (system_view x) c.systems-systems.ensures.fit (chosen g (goal.at.run_there-requires-clause-few g c).After-index-systems-from) in
    let long = length-map x.transitions transition_view in
    omega (arith, long, fits.few_transitions)

pub run_there-requires-clause-one_for_each : goal.run_there-requires-clause-one_for_each
run_there-requires-clause-one_for_each g c =
    ap length c.list.ensures ∙ (explored g (goal.at.run_there-requires-clause-one_for_each g c).After-index-systems-from).one_for_each_transition
    ∙ length-map c.index-systems-from.result.transitions transition_view

pub run_there-requires-clause-parents : goal.run_there-requires-clause-parents
run_there-requires-clause-parents g c =
    subst (AllLive (g.W.Worlds.algebra c.args.w.now)) (sym c.list.ensures) (explored g (goal.at.run_there-requires-clause-parents g c).After-index-systems-from).parents.live

pub run_there-requires-clause-targets : goal.run_there-requires-clause-targets
run_there-requires-clause-targets g c =
    let each = (found g (goal.at.run_there-requires-clause-targets g c).After-index-systems-from).is.each in
    subst (All (λ t. (g.W.Worlds.algebra c.args.w.now).live t.1)) (sym c.list-2.ensures) (λ k d below. (each k d below).live)

pub run_there-requires-clause-back : goal.run_there-requires-clause-back
run_there-requires-clause-back g c = λ state first.
    let a = g.W.Worlds.algebra c.args.w.now in
    let m = c.args.model.now in
    let s = system_view c.index-systems-from.result in
    let here = (goal.at.run_there-requires-clause-back g c).After-index-systems-from in
    let there = first_there a m s c.args.finding.now (found g here) c.args.world.now state (ap (λ ts. first_target a ts c.args.world.now) (sym c.list-2.ensures) ∙ first) in
    ap (λ cs. all_has a cs c.args.world.now) c.list.ensures ∙ back_there a m s c.args.explored.now.parents c.args.world.now (explored g here).parents there.0 there.1

pub returns : goal.returns
returns g c =
    let a = g.W.Worlds.algebra c.args.w.now in
    let m = c.args.model.now in
    let s0 = system_view c.index-systems-from.result in
    let x = c.args.world.now in
    IfOk-weaker c.run_there.result _ _
    (λ run made s is some.
    let same : s0 ≡ s = same_some s0 s (sym (chosen g (goal.at.returns g c).After-index-systems-from) ∙ is) in
    made
    ∙ ap (λ ts. option_map (run_to (projection x s0)) (first_target a ts x)) c.list-2.ensures
    ∙ ap (λ k. option_map (run_to (projection x k)) (first_target a c.args.finding.now.targets x)) same
    ∙ run_is a m s c.args.finding.now some x)
    c.run_there.ensures
