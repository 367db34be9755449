use Rattle.std.proofs.Common.{◌≡◌, sym, ap, ◌∙◌, subst, ◌+◌, ◌*◌, ◌≤◌, [], ◌∷◌, ◌++◌, length, map, take, arith}
use Rattle.std.proofs.lemmas.List.{length-append}
use Rattle.std.specs.List.{sum_by}
use Rattle.meaning.specs.Expressions.{name_bound, truth, size_of}
use Rattle.annotated_model.specs.View.{element_view}
use Rattle.worlds.specs.Rows.{RowWhere}
use Rattle.worlds.proofs.Kept.{worked_then, worked_at_most}
use Rattle.worlds.proofs.Rows.{row_is, row_push}
use Rattle.path_queries.proofs.Presences.{all_at, viewed_item, sum_more, sum_within, map_more}
use Rattle.path_queries.proofs.presence.elements_when.Goals as goal

pub condition-requires : goal.condition-requires
condition-requires g c =
    let m = c.args.model.now in
    let at = viewed_item element_view c.elements-elements.result.now m.elements c.loop-element.element-index c.element-item.result c.elements-elements.ensures.elements c.loop-element-test.true c.element-item.is in
    let fits = all_at (λ y. name_bound y.presence ≤ (g.W.Worlds.algebra c.args.w.now).count) m.elements c.loop-element.element-index _ c.requires.names.elements at in
    omega (arith, fits, c.loop-element.invariant.worked.kept.count)

pub returns-in_err-here-clause-worked : goal.returns-in_err-here-clause-worked
returns-in_err-here-clause-worked g c =
    let m = c.args.model.now in
    let at = viewed_item element_view c.elements-elements.result.now m.elements c.loop-element.element-index c.element-item.result c.elements-elements.ensures.elements c.loop-element-test.true c.element-item.is in
    worked_at_most (worked_then c.loop-element.invariant.worked c.condition.ensures.worked) (omega (arith, sum_within (λ e. size_of e.presence) m.elements c.loop-element.element-index _ at))

pub returns-in_err-push-clause-worked : goal.returns-in_err-push-clause-worked
returns-in_err-push-clause-worked g c =
    let m = c.args.model.now in
    let at = viewed_item element_view c.elements-elements.result.now m.elements c.loop-element.element-index c.element-item.result c.elements-elements.ensures.elements c.loop-element-test.true c.element-item.is in
    worked_at_most (worked_then c.loop-element.invariant.worked c.condition.ensures.worked) (omega (arith, sum_within (λ e. size_of e.presence) m.elements c.loop-element.element-index _ at))

pub loop-element-preserved : goal.loop-element-preserved
loop-element-preserved g c =
    let m = c.args.model.now in
    let i = c.loop-element.element-index in
    let so_far = c.loop-element.invariant in
    let at = viewed_item element_view c.elements-elements.result.now m.elements i c.element-item.result c.elements-elements.ensures.elements c.loop-element-test.true c.element-item.is in
    let longer = length-append c.loop-element.conditions.items (c.in_ok-here.here ∷ []) in
    record {
      worked = worked_at_most (worked_then so_far.worked c.condition.ensures.worked) (omega (arith, sum_more (λ e. size_of e.presence) m.elements i _ at));
      size = ap length c.in_ok-push.ensures.items ∙ omega (arith, longer, so_far.size);
      rows =
          subst (λ cs. RowWhere (g.W.Worlds.algebra c.condition.new.w) cs (λ x. map (λ e. truth e.presence x) (take (i + 1) m.elements))) (sym c.in_ok-push.ensures.items)
          (row_is _ _ (λ x. sym (map_more (λ e. truth e.presence x) m.elements i _ at)) (row_push c.in_ok-here.here c.condition.ensures.worked.kept so_far.rows c.in_ok-here.ensures.made));
    }
