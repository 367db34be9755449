use Rattle.std.proofs.Common.{◌≡◌, ℕ, refl, sym, ap, ◌∙◌, ◌+◌, map, get_or, arith}
use Rattle.std.specs.Prelude.{◌&&◌, ◌==◌}
use Rattle.std.specs.List.{list_any, enumerate_from}
use Rattle.std.proofs.lemmas.List.{length-map}
use Rattle.meaning.specs.Expressions.{truth}
use Rattle.meaning.specs.Models.{State, projection}
use Rattle.meaning.specs.Systems.{labels_true, violates}
use Rattle.cond_text.specs.View.{expression}
use Rattle.annotated_model.specs.View.{state_view, system_view}
use Rattle.invariant_check.specs.View.{property}
use Rattle.annotated_model.proofs.ViewedItems.{viewed, any_at}
use Rattle.invariant_check.proofs.violation.violates.Goals as goal

pub returns-in-Never : goal.returns-in-Never
returns-in-Never c =
    let states = c.args.system.now.states in
    let i = c.args.state in
    let x = c.index-list-state.result in
    let is : x ≡ get_or states i x = c.index-list-state.is ∙ ap (λ xs. get_or xs i x) c.list.ensures in
    let long = length-map states state_view in
    let at = viewed state_view states (map state_view states) i i x refl refl (let l = c.requires.state in omega (arith, l, long)) is in
    let test = λ (y : State). truth (expression c.in-Never.over) (labels_true c.args.labels y) in
    let same : 0 + i ≡ i = omega arith in
    c.satisfies.ensures
    ∙ sym (any_at test (map state_view states) 0 i (state_view x) at)
    ∙ ap (λ j. list_any (λ (y : ℕ × State). (y.0 == j) && test y.1) (enumerate_from 0 (map state_view states))) same
    ∙ ap (λ p. violates c.args.labels (projection c.args.world.now (system_view c.args.system.now)) (property p) i) (sym c.in-Never.is)
