use Rattle.std.proofs.Common.{◌≡◌, ℕ, sym, ap, ◌∙◌, ◌+◌, ◌<◌, length, drop, map, get_or, arith}
use Rattle.std.specs.Prelude.{◌&&◌, ◌==◌, not, filter}
use Rattle.std.specs.List.{list_any, enumerate_from}
use Rattle.meaning.specs.Expressions.{truth}
use Rattle.meaning.specs.Models.{Transition}
use Rattle.annotated_model.specs.View.{transition_view}
use Rattle.invariant_check.proofs.PlainChecks.{any_kept_step, found, not_found}
use Rattle.invariant_check.proofs.violation.is_stuck.Goals as goal

pub returns-then-leaves : goal.returns-then-leaves
returns-then-leaves c =
    let ts = c.args.system.now.transitions in
    let i = c.loop-transition.transition-index in
    let x = c.transition-item.result in
    let here : ℕ × Transition = (i, transition_view x) in
    let p = λ (t : ℕ × Transition). truth t.1.presence c.args.world.now in
    let f = λ (t : ℕ × Transition). t.1.source == c.args.state in
    let below : i < length ts = (let long = ap length c.list-transition-items.ensures in let l = c.loop-transition-test.true in omega (arith, l, long)) in
    let is : x ≡ get_or ts i x = c.transition-item.is ∙ ap (λ xs. get_or xs i x) c.list-transition-items.ensures in
    let step = any_kept_step transition_view p f ts i x below is in
    let rest = list_any f (filter p (enumerate_from (i + 1) (map transition_view (drop (i + 1) ts)))) in
    sym (ap not (c.loop-transition.invariant ∙ step ∙ found (p here && f here) rest (sym c.leaves.ensures ∙ c.if-leaves.true)))

pub loop-transition-preserved : goal.loop-transition-preserved
loop-transition-preserved c =
    let ts = c.args.system.now.transitions in
    let i = c.loop-transition.transition-index in
    let x = c.transition-item.result in
    let here : ℕ × Transition = (i, transition_view x) in
    let p = λ (t : ℕ × Transition). truth t.1.presence c.args.world.now in
    let f = λ (t : ℕ × Transition). t.1.source == c.args.state in
    let below : i < length ts = (let long = ap length c.list-transition-items.ensures in let l = c.loop-transition-test.true in omega (arith, l, long)) in
    let is : x ≡ get_or ts i x = c.transition-item.is ∙ ap (λ xs. get_or xs i x) c.list-transition-items.ensures in
    let step = any_kept_step transition_view p f ts i x below is in
    let rest = list_any f (filter p (enumerate_from (i + 1) (map transition_view (drop (i + 1) ts)))) in
    c.loop-transition.invariant ∙ step ∙ not_found (p here && f here) rest (sym c.leaves.ensures ∙ c.if-leaves.false)
