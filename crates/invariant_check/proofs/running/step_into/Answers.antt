use Rattle.std.proofs.Common.{◌∙◌, ℕ, ◌+◌, sym, ap, map, drop, arith}
use Rattle.std.specs.Prelude.{◌==◌, ◌&&◌, find, option_map}
use Rattle.std.specs.List.{enumerate_from}
use Rattle.meaning.specs.Models.{Transition}
use Rattle.meaning.specs.Texts.{holds_at}
use Rattle.annotated_model.specs.View.{transition_view}
use Rattle.invariant_check.specs.Running.{all_has}
use Rattle.invariant_check.proofs.RunsBack.{find_numbered_step, if_true, if_false}
use Rattle.invariant_check.proofs.RunsThere.{all_has_at}
use Rattle.invariant_check.proofs.running.step_into.Goals as goal

pub returns-then-leads_into : goal.returns-then-leads_into
returns-then-leads_into g c =
    let a = g.W.Worlds.algebra c.args.w.now in
    let ts = c.args.transitions.now in
    let i = c.loop-step.step in
    let x = c.index-transitions-step.result in
    let marks = all_has a c.args.parents.now c.args.world.now in
    let f = λ (t : ℕ × Transition). (t.1.target == c.args.state) && holds_at marks t.0 in
    let marked = all_has_at a c.args.parents.now c.args.world.now i c.index-parents-step.result (omega (arith, c.loop-step-test.true, c.requires.one_for_each)) c.index-parents-step.is in
    let here = ap (λ b. (x.to == c.args.state) && b) marked ∙ sym c.leads_into.ensures ∙ c.if-leads_into.true in
    let step = find_numbered_step transition_view f ts i x c.loop-step-test.true c.index-transitions-step.is in
    let rest = find f (enumerate_from (i + 1) (map transition_view (drop (i + 1) ts))) in
    sym (ap (option_map (λ (t : ℕ × Transition). t.0)) (c.loop-step.invariant ∙ step ∙ if_true (f (i, transition_view x)) _ rest here))

pub loop-step-preserved : goal.loop-step-preserved
loop-step-preserved g c =
    let a = g.W.Worlds.algebra c.args.w.now in
    let ts = c.args.transitions.now in
    let i = c.loop-step.step in
    let x = c.index-transitions-step.result in
    let marks = all_has a c.args.parents.now c.args.world.now in
    let f = λ (t : ℕ × Transition). (t.1.target == c.args.state) && holds_at marks t.0 in
    let marked = all_has_at a c.args.parents.now c.args.world.now i c.index-parents-step.result (omega (arith, c.loop-step-test.true, c.requires.one_for_each)) c.index-parents-step.is in
    let here = ap (λ b. (x.to == c.args.state) && b) marked ∙ sym c.leads_into.ensures ∙ c.if-leads_into.false in
    let step = find_numbered_step transition_view f ts i x c.loop-step-test.true c.index-transitions-step.is in
    let rest = find f (enumerate_from (i + 1) (map transition_view (drop (i + 1) ts))) in
    c.loop-step.invariant ∙ step ∙ if_false (f (i, transition_view x)) _ rest here
