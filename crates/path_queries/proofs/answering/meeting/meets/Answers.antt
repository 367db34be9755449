use Rattle.std.proofs.Common.{◌≡◌, ◌∙◌, sym, ap, subst, ◌++◌, ◌<◌, length, Some, arith}
use Rattle.std.specs.List.{slice_get}
use Rattle.std.proofs.lemmas.List.{length-map}
use Rattle.std.proofs.lemmas.Result.{IfOk-weaker}
use Rattle.annotated_model.specs.View.{element_view}
use Rattle.path_queries.specs.Matrices.{IsMatrix}
use Rattle.path_queries.proofs.Preparing.{item_of}
use Rattle.path_queries.proofs.MetConstraints.{walk_told, walk_met, attribute_met}
use Rattle.path_queries.proofs.answering.meeting.meets.Goals as goal

pub meets_walk-requires-clause-cells : goal.meets_walk-requires-clause-cells
meets_walk-requires-clause-cells g c =
    let before = g.W.Worlds.algebra c.args.w.now in
    let s = c.args.search.now in
    let n : length c.elements.result.now ≡ length s.model.now.elements = sym (length-map c.elements.result.now element_view) ∙ ap length c.elements.ensures.elements in
    let at = item_of s.query.now.constraints c.list.result.now c.args.number c.index-list-number.result c.list.ensures c.requires.number c.index-list-number.is in
    let size = c.requires.ready.relations.size in
    let row = item_of s.relations c.list-in-Walk.result.now c.args.number c.index-list-number-in-Walk.result c.list-in-Walk.ensures (omega (arith, size, c.requires.number)) c.index-list-number-in-Walk.is in
    let told = walk_told s c.args.number c.index-list-number-in-Walk.result c.index-list-number.result c.in-Walk.from c.in-Walk.to c.in-Walk.path c.in-Walk.negated c.requires.ready row at c.in-Walk.is in
    subst (λ k. IsMatrix before k c.list-cells.result.now) (sym n) (subst (λ cs. IsMatrix before (length s.model.now.elements) cs) (sym c.list-cells.ensures) told.matrix)

pub returns-in-Walk-clause-made : goal.returns-in-Walk-clause-made
returns-in-Walk-clause-made g c =
    let before = g.W.Worlds.algebra c.args.w.now in
    let s = c.args.search.now in
    let n : length c.elements.result.now ≡ length s.model.now.elements = sym (length-map c.elements.result.now element_view) ∙ ap length c.elements.ensures.elements in
    let at = item_of s.query.now.constraints c.list.result.now c.args.number c.index-list-number.result c.list.ensures c.requires.number c.index-list-number.is in
    let size = c.requires.ready.relations.size in
    let row = item_of s.relations c.list-in-Walk.result.now c.args.number c.index-list-number-in-Walk.result c.list-in-Walk.ensures (omega (arith, size, c.requires.number)) c.index-list-number-in-Walk.is in
    let cells : slice_get s.relations c.args.number ≡ Some c.list-cells.result.now = row ∙ ap Some (sym c.list-cells.ensures) in
    let told = walk_told s c.args.number c.list-cells.result.now c.index-list-number.result c.in-Walk.from c.in-Walk.to c.in-Walk.path c.in-Walk.negated c.requires.ready cells at c.in-Walk.is in
    IfOk-weaker c.meets_walk.result _ _
    (λ made h. walk_met s c.args.number (s.bound.now ++ c.args.given.now) c.args.under c.index-list-number.result at c.meets_walk.ensures.worked.kept (length c.elements.result.now) c.list-cells.result.now
    c.in-Walk.from c.in-Walk.to c.element_of-from.result c.element_of-to.result c.in-Walk.path c.in-Walk.negated c.in-Walk.is n c.element_of-from.ensures c.element_of-to.ensures told h)
    c.meets_walk.ensures.made

pub returns-in-Attr-clause-made : goal.returns-in-Attr-clause-made
returns-in-Attr-clause-made g c =
    let s = c.args.search.now in
    let at = item_of s.query.now.constraints c.list.result.now c.args.number c.index-list-number.result c.list.ensures c.requires.number c.index-list-number.is in
    IfOk-weaker c.meets_attribute.result _ _
    (λ made h. attribute_met s c.args.number (s.bound.now ++ c.args.given.now) c.args.under c.index-list-number.result at c.meets_attribute.ensures.worked.kept
    c.in-Attr.var c.in-Attr.attr c.element_of-e.result c.in-Attr.text c.text.result.now c.in-Attr.equal c.in-Attr.is c.text.ensures c.element_of-e.ensures h)
    c.meets_attribute.ensures.made
