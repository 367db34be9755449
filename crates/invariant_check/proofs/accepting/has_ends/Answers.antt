use Rattle.std.proofs.Common.{◌≡◌, ℕ, sym, ap, ◌∙◌, ◌+◌, ◌<◌, length, drop, map, get_or, arith}
use Rattle.std.specs.Prelude.{◌||◌, not, filter}
use Rattle.std.specs.List.{list_all, enumerate_from}
use Rattle.meaning.specs.Expressions.{truth}
use Rattle.meaning.specs.Models.{Transition}
use Rattle.meaning.specs.Texts.{holds_at}
use Rattle.annotated_model.specs.View.{transition_view}
use Rattle.invariant_check.proofs.PlainChecks.{all_kept_step, refused, passed}
use Rattle.invariant_check.proofs.accepting.has_ends.Goals as goal

pub returns-then-not-has_end : goal.returns-then-not-has_end
returns-then-not-has_end c =
    let ts = c.args.system.now.transitions in
    let i = c.loop-transition.transition-index in
    let x = c.transition-item.result in
    let here : ℕ × Transition = (i, transition_view x) in
    let p = λ (t : ℕ × Transition). truth t.1.presence c.args.world.now in
    let f = λ (t : ℕ × Transition). not (holds_at c.args.inside.now t.1.source) || holds_at c.args.inside.now t.1.target in
    let below : i < length ts = (let long = ap length c.list-transition-items.ensures in let l = c.loop-transition-test.true in omega (arith, l, long)) in
    let is : x ≡ get_or ts i x = c.transition-item.is ∙ ap (λ xs. get_or xs i x) c.list-transition-items.ensures in
    let step = all_kept_step transition_view p f ts i x below is in
    let rest = list_all f (filter p (enumerate_from (i + 1) (map transition_view (drop (i + 1) ts)))) in
    refused (not (p here) || f here) rest (sym c.has_end.ensures ∙ c.if-not-has_end.true) ∙ sym step ∙ sym c.loop-transition.invariant

pub loop-transition-preserved : goal.loop-transition-preserved
loop-transition-preserved c =
    let ts = c.args.system.now.transitions in
    let i = c.loop-transition.transition-index in
    let x = c.transition-item.result in
    let here : ℕ × Transition = (i, transition_view x) in
    let p = λ (t : ℕ × Transition). truth t.1.presence c.args.world.now in
    let f = λ (t : ℕ × Transition). not (holds_at c.args.inside.now t.1.source) || holds_at c.args.inside.now t.1.target in
    let below : i < length ts = (let long = ap length c.list-transition-items.ensures in let l = c.loop-transition-test.true in omega (arith, l, long)) in
    let is : x ≡ get_or ts i x = c.transition-item.is ∙ ap (λ xs. get_or xs i x) c.list-transition-items.ensures in
    let step = all_kept_step transition_view p f ts i x below is in
    let rest = list_all f (filter p (enumerate_from (i + 1) (map transition_view (drop (i + 1) ts)))) in
    c.loop-transition.invariant ∙ step ∙ passed (not (p here) || f here) rest (sym c.has_end.ensures ∙ c.if-not-has_end.false)
