use Rattle.std.proofs.Common.{◌≡◌, sym, ap, ◌∙◌, get_or, true, false}
use Rattle.std.specs.Prelude.{◌||◌, not}
use Rattle.meaning.specs.Expressions.{truth}
use Rattle.meaning.specs.Texts.{holds_at}
use Rattle.annotated_model.specs.View.{transition_view}
use Rattle.invariant_check.proofs.PlainChecks.{place_holds}
use Rattle.invariant_check.proofs.accepting.has_end.Goals as goal

pub returns-else-not-truth : goal.returns-else-not-truth
returns-else-not-truth c =
    let inside = c.args.inside.now in
    let t = c.args.transition.now in
    let present : truth (transition_view t).presence c.args.world.now ≡ true = sym c.truth.ensures ∙ c.if-not-truth.false in
    let from : holds_at inside t.from ≡ get_or inside c.from.result false = place_holds inside t.from false c.requires.from ∙ ap (λ k. get_or inside k false) (sym c.from.ensures) in
    let to : holds_at inside t.to ≡ get_or inside c.from-else-not-truth.result false = place_holds inside t.to false c.requires.to ∙ ap (λ k. get_or inside k false) (sym c.from-else-not-truth.ensures) in
    c.follows.ensures
    ∙ sym (ap (λ x. not x || (not (holds_at inside t.from) || holds_at inside t.to)) present ∙ ap (λ x. not x || holds_at inside t.to) from ∙ ap (λ y. not (get_or inside c.from.result false) || y) to)
