use Rattle.std.proofs.Common.{◌≡◌, sym, ap, ◌∙◌, ◌+◌, ◌<◌, length, drop, map, get_or, false, arith}
use Rattle.std.specs.Prelude.{◌||◌, not}
use Rattle.std.specs.List.{list_all, enumerate_from}
use Rattle.meaning.specs.Texts.{holds_at}
use Rattle.annotated_model.specs.View.{state_view}
use Rattle.invariant_check.proofs.PlainChecks.{all_step, place_holds, refused, passed}
use Rattle.invariant_check.proofs.accepting.has_initial.Goals as goal

pub returns-then-not-follows : goal.returns-then-not-follows
returns-then-not-follows c =
    let inside = c.args.inside.now in
    let i = c.loop-number.number in
    let x = c.state-item.result in
    let states = c.args.system.now.states in
    let below : i < length states = (let long = ap length c.list-state-items.ensures in let l = c.loop-number-test.true in omega (arith, l, long)) in
    let is : x ≡ get_or states i x = c.state-item.is ∙ ap (λ xs. get_or xs i x) c.list-state-items.ensures in
    let step = all_step state_view (λ y. not y.1.initial || holds_at inside y.0) states i x below is in
    let within : i < length inside = (let size = c.requires in omega (arith, below, size)) in
    let kept : (not x.initial || holds_at inside i) ≡ c.follows.result = ap (λ b. not x.initial || b) (place_holds inside i false within) ∙ sym c.follows.ensures in
    let rest = list_all (λ y. not y.1.initial || holds_at inside y.0) (enumerate_from (i + 1) (map state_view (drop (i + 1) states))) in
    refused (not x.initial || holds_at inside i) rest (kept ∙ c.if-not-follows.true) ∙ sym step ∙ sym c.loop-number.invariant

pub loop-number-preserved : goal.loop-number-preserved
loop-number-preserved c =
    let inside = c.args.inside.now in
    let i = c.loop-number.number in
    let x = c.state-item.result in
    let states = c.args.system.now.states in
    let below : i < length states = (let long = ap length c.list-state-items.ensures in let l = c.loop-number-test.true in omega (arith, l, long)) in
    let is : x ≡ get_or states i x = c.state-item.is ∙ ap (λ xs. get_or xs i x) c.list-state-items.ensures in
    let step = all_step state_view (λ y. not y.1.initial || holds_at inside y.0) states i x below is in
    let within : i < length inside = (let size = c.requires in omega (arith, below, size)) in
    let kept : (not x.initial || holds_at inside i) ≡ c.follows.result = ap (λ b. not x.initial || b) (place_holds inside i false within) ∙ sym c.follows.ensures in
    let rest = list_all (λ y. not y.1.initial || holds_at inside y.0) (enumerate_from (i + 1) (map state_view (drop (i + 1) states))) in
    c.loop-number.invariant ∙ step ∙ passed (not x.initial || holds_at inside i) rest (kept ∙ c.if-not-follows.false)
