use Rattle.std.proofs.Common.{◌≡◌, ◌∙◌, ◌+◌, ◌*◌, ◌∷◌, ◌++◌, [], List, Bool, ◌&&◌, get_or, length, map, take, sym, ap, subst, arith}
use Rattle.std.proofs.lemmas.List.{map_more, length-append}
use Rattle.std.proofs.lemmas.List.Sums.{sum_by_more}
use Rattle.meaning.specs.Expressions.{truth, size_of}
use Rattle.cond_text.specs.View.{expression}
use Rattle.annotated_model.specs.declared.data.Transition.{Transition}
use Rattle.worlds.specs.Rows.{RowWhere}
use Rattle.worlds.proofs.Kept.{worked_then, worked_at_most, holds_as}
use Rattle.worlds.proofs.Rows.{row_push, row_is}
use Rattle.featured_systems.proofs.steps.steps_of.Goals as goal

pub loop-transition-preserved : goal.loop-transition-preserved
loop-transition-preserved g c =
    let a = g.W.Worlds.algebra c.args.w.now in
    let now = g.W.Worlds.algebra c.step.new.w in
    let ts = c.args.transitions.now in
    let there = c.args.there in
    let i = c.loop-transition.transition-index in
    let d = c.transition-item.result in
    let so_far = c.loop-transition.invariant in
    let call = c.in_ok-present.ensures in
    let asks = λ (t : Transition). 8 * size_of (expression t.when) + 1 in
    let test = λ (x : List Bool) (t : Transition). a.holds there x && truth (expression t.when) x in
    let more = sum_by_more asks ts i d c.loop-transition-test.true in
    let here : asks (get_or ts i d) ≡ asks d = ap asks (sym c.transition-item.is) in
    let longer = length-append c.loop-transition.steps.items (c.in_ok-present.present ∷ []) in
    record {
      worked = worked_at_most (worked_then so_far.worked call.worked) (omega (arith, more, here));
      made = subst (λ cs. RowWhere now cs (λ x. map (test x) (take (i + 1) ts))) (sym c.in_ok-push.ensures.items)
          (row_is (λ x. map (test x) (take i ts) ++ test x d ∷ []) (λ x. map (test x) (take (i + 1) ts))
          (λ x. sym (map_more (test x) ts i d c.loop-transition-test.true ∙ ap (λ t. map (test x) (take i ts) ++ test x t ∷ []) (sym c.transition-item.is)))
          (row_push c.in_ok-present.present call.worked.kept so_far.made
          (holds_as _ (λ x. test x d) (λ x w. ap (λ p. p && truth (expression d.when) x) (so_far.worked.kept.holds there c.requires.live x)) call.made)));
      one_for_each = ap length c.in_ok-push.ensures.items ∙ omega (arith, longer, so_far.one_for_each);
    }
