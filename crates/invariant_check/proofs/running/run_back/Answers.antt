use Rattle.std.proofs.Common.{◌≡◌, ◌∙◌, ◌<◌, ◌++◌, ◌∷◌, [], ℕ, List, sym, ap, subst, map, length, reverse, get_or, arith}
use Rattle.std.specs.List.{slice_get}
use Rattle.std.specs.Prelude.{option_map, unwrap_or}
use Rattle.std.proofs.lemmas.List.{length-map}
use Rattle.std.proofs.lemmas.Option.{slice_get_within}
use Rattle.meaning.specs.Models.{projection, Transition}
use Rattle.meaning.specs.Systems.{distance, run_to}
use Rattle.annotated_model.specs.View.{system_view, transition_view}
use Rattle.invariant_check.specs.Running.{all_has, marked_into}
use Rattle.invariant_check.proofs.RunsBack.{IsLastStep, last_step, run_starts}
use Rattle.invariant_check.proofs.RunsThere.{item_viewed, step_told}
use Rattle.invariant_check.proofs.running.run_back.Goals as goal
use Rattle.invariant_check.proofs.running.run_back.Given as given
use Rattle.invariant_check.proofs.running.run_back.Goals.{In-Some}

last : (g : given.Over) (c : In-Some g) → IsLastStep c.args.world.now (system_view c.args.system.now) c.back.state c.in-Some.step
last g c =
    let a = g.W.Worlds.algebra c.args.w.now in
    let view = system_view c.args.system.now in
    last_step c.args.world.now view c.back.state c.in-Some.step
    (c.in-Some.ensures
    ∙ ap (λ ts. option_map (λ t. t.0) (marked_into (map transition_view ts) (all_has a c.args.parents.now c.args.world.now) c.back.state)) c.list-transitions.ensures
    ∙ ap (λ marks. option_map (λ t. t.0) (marked_into view.transitions marks c.back.state)) c.requires.back)

pub bounds-transitions-from : goal.bounds-transitions-from
bounds-transitions-from g c =
    let l = last g (goal.at.bounds-transitions-from g c).In-Some in
    let within = slice_get_within (system_view c.args.system.now).transitions c.in-Some.step l.transition l.item in
    let long = length-map c.args.system.now.transitions transition_view in
    let list = ap length c.list-transitions.ensures in
    omega (arith, within, long, list, c.from.ensures)

pub bounds-transitions-from-in_ok-push : goal.bounds-transitions-from-in_ok-push
bounds-transitions-from-in_ok-push g c =
    let l = last g (goal.at.bounds-transitions-from-in_ok-push g c).In-Some in
    let within = slice_get_within (system_view c.args.system.now).transitions c.in-Some.step l.transition l.item in
    let long = length-map c.args.system.now.transitions transition_view in
    let list = ap length c.list-transitions.ensures in
    omega (arith, within, long, list, c.from.ensures)

pub back-smaller : goal.back-smaller
back-smaller g c =
    let view = system_view c.args.system.now in
    let s = projection c.args.world.now view in
    let x = c.index-transitions-from.result in
    let ts = c.list-transitions.result.now in
    let l = last g (goal.at.back-smaller g c).In-Some in
    let within = slice_get_within view.transitions c.in-Some.step l.transition l.item in
    let long = length-map c.args.system.now.transitions transition_view in
    let list = ap length c.list-transitions.ensures in
    let below : c.from.result < length ts = omega (arith, within, long, list, c.from.ensures) in
    let item = ap (λ us. slice_get (map transition_view us) c.from.result) c.list-transitions.ensures ∙ ap (slice_get view.transitions) c.from.ensures ∙ l.item in
    let is : transition_view (get_or ts c.from.result x) ≡ l.transition = item_viewed transition_view ts c.from.result x l.transition below item in
    subst (λ n. unwrap_or (distance s n) 0 < unwrap_or (distance s c.back.state) 0) (sym (ap (λ (t : Transition). t.source) is)) l.nearer

pub back-preserved : goal.back-preserved
back-preserved g c =
    let view = system_view c.args.system.now in
    let s = projection c.args.world.now view in
    let x = c.index-transitions-from.result in
    let ts = c.list-transitions.result.now in
    let l = last g (goal.at.back-preserved g c).In-Some in
    let within = slice_get_within view.transitions c.in-Some.step l.transition l.item in
    let long = length-map c.args.system.now.transitions transition_view in
    let list = ap length c.list-transitions.ensures in
    let below : c.from.result < length ts = omega (arith, within, long, list, c.from.ensures) in
    let item = ap (λ us. slice_get (map transition_view us) c.from.result) c.list-transitions.ensures ∙ ap (slice_get view.transitions) c.from.ensures ∙ l.item in
    let is : transition_view (get_or ts c.from.result x) ≡ l.transition = item_viewed transition_view ts c.from.result x l.transition below item in
    let told = step_told (run_to s c.args.last) (run_to s c.back.state) (run_to s l.transition.source) c.back.steps.items c.in-Some.step c.back.invariant l.run in
    told
    ∙ ap (λ n. ((run_to s n).0, (run_to s n).1 ++ reverse (c.back.steps.items ++ c.in-Some.step ∷ []))) (sym (ap (λ (t : Transition). t.source) is))
    ∙ ap (λ ks. ((run_to s (get_or ts c.from.result x).from).0, (run_to s (get_or ts c.from.result x).from).1 ++ reverse ks)) (sym c.in_ok-push.ensures.items)

pub returns : goal.returns
returns g c =
    let a = g.W.Worlds.algebra c.args.w.now in
    let view = system_view c.args.system.now in
    let s = projection c.args.world.now view in
    let starts = run_starts c.args.world.now view c.back.state
    (c.in_default.ensures
    ∙ ap (λ ts. option_map (λ t. t.0) (marked_into (map transition_view ts) (all_has a c.args.parents.now c.args.world.now) c.back.state)) c.list-transitions.ensures
    ∙ ap (λ marks. option_map (λ t. t.0) (marked_into view.transitions marks c.back.state)) c.requires.back) in
    ap (λ ks. (c.back.state, ks)) (c.of.ensures ∙ c.reverse.ensures.items)
    ∙ sym (c.back.invariant ∙ ap (λ (r : ℕ × List ℕ). (r.0, r.1 ++ reverse c.back.steps.items)) starts)
