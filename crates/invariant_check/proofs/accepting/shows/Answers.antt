use Rattle.std.proofs.Common.{◌≡◌, ℕ, sym, ap, ◌∙◌, ◌+◌, ◌<◌, length, drop, map, false, arith}
use Rattle.std.specs.Prelude.{◌||◌, not}
use Rattle.std.specs.List.{list_all, enumerate_from}
use Rattle.meaning.specs.Models.{State, projection}
use Rattle.meaning.specs.Systems.{violates}
use Rattle.meaning.specs.Texts.{holds_at}
use Rattle.annotated_model.specs.View.{state_view, system_view}
use Rattle.invariant_check.specs.View.{property}
use Rattle.invariant_check.proofs.PlainChecks.{number_step, place_holds, refused, passed}
use Rattle.invariant_check.proofs.accepting.shows.Goals as goal

pub returns-then-not-is_fine : goal.returns-then-not-is_fine
returns-then-not-is_fine c =
    let states = c.args.system.now.states in
    let inside = c.args.inside.now in
    let i = c.loop-state.state in
    let v = λ (x : ℕ). violates c.args.labels (projection c.args.world.now (system_view c.args.system.now)) (property c.args.property.now) x in
    let g = λ (x : ℕ). not (holds_at inside x) || not (v x) in
    let below : i < length states = (let long = ap length c.list-state-end.ensures in let l = c.loop-state-test.true in omega (arith, l, long)) in
    let within : i < length inside = (let size = c.requires.size in omega (arith, below, size)) in
    let step = number_step state_view g states i below in
    let kept : g i ≡ c.is_fine.result = ap (λ b. not b || not (v i)) (place_holds inside i false within) ∙ sym c.is_fine.ensures in
    let rest = list_all (λ (y : ℕ × State). g y.0) (enumerate_from (i + 1) (map state_view (drop (i + 1) states))) in
    refused (g i) rest (kept ∙ c.if-not-is_fine.true) ∙ sym step ∙ sym c.loop-state.invariant

pub loop-state-preserved : goal.loop-state-preserved
loop-state-preserved c =
    let states = c.args.system.now.states in
    let inside = c.args.inside.now in
    let i = c.loop-state.state in
    let v = λ (x : ℕ). violates c.args.labels (projection c.args.world.now (system_view c.args.system.now)) (property c.args.property.now) x in
    let g = λ (x : ℕ). not (holds_at inside x) || not (v x) in
    let below : i < length states = (let long = ap length c.list-state-end.ensures in let l = c.loop-state-test.true in omega (arith, l, long)) in
    let within : i < length inside = (let size = c.requires.size in omega (arith, below, size)) in
    let step = number_step state_view g states i below in
    let kept : g i ≡ c.is_fine.result = ap (λ b. not b || not (v i)) (place_holds inside i false within) ∙ sym c.is_fine.ensures in
    let rest = list_all (λ (y : ℕ × State). g y.0) (enumerate_from (i + 1) (map state_view (drop (i + 1) states))) in
    c.loop-state.invariant ∙ step ∙ passed (g i) rest (kept ∙ c.if-not-is_fine.false)
