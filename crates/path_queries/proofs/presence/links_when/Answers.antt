use Rattle.std.proofs.Common.{◌≡◌, sym, ap, ◌∙◌, subst, ◌+◌, ◌*◌, ◌≤◌, ◌<◌, [], ◌∷◌, ◌++◌, length, map, take, arith}
use Rattle.std.proofs.lemmas.List.{length-append}
use Rattle.std.specs.List.{All}
use Rattle.std.proofs.lemmas.List.Elements.{All-push}
use Rattle.meaning.specs.Expressions.{size_of}
use Rattle.annotated_model.specs.View.{link_view}
use Rattle.worlds.proofs.Kept.{worked_then, worked_at_most, world_before}
use Rattle.path_queries.specs.Presence.{IsEdge, arrow_at, arrow_of}
use Rattle.path_queries.proofs.Presences.{below_view, there_is, link_asks_is, sum_more, sum_within, names_later, elements_later}
use Rattle.path_queries.proofs.Arrows.{edges_later, one_more_arrow}
use Rattle.path_queries.proofs.presence.links_when.Goals as goal

pub edge_of-requires : goal.edge_of-requires
edge_of-requires g c =
    let kept = c.loop-l.invariant.worked.kept in
    record { there = below_view link_view c.links-l-end.result.now c.args.model.now.links c.loop-l.l c.links-l-end.ensures.links c.loop-l-test.true; names = names_later kept c.requires.names; elements = elements_later kept c.requires.elements }

pub returns-in_err-made-clause-worked : goal.returns-in_err-made-clause-worked
returns-in_err-made-clause-worked g c =
    let m = c.args.model.now in
    let k = there_is m.links c.loop-l.l (below_view link_view c.links-l-end.result.now c.args.model.now.links c.loop-l.l c.links-l-end.ensures.links c.loop-l-test.true) in
    let asks = link_asks_is m c.loop-l.l k.0 k.1 in
    worked_at_most (worked_then c.loop-l.invariant.worked c.edge_of.ensures.worked) (omega (arith, asks, sum_within (λ l. 8 * size_of l.presence + 2) m.links c.loop-l.l k.0 k.1))

pub returns-in_err-push-clause-worked : goal.returns-in_err-push-clause-worked
returns-in_err-push-clause-worked g c =
    let m = c.args.model.now in
    let k = there_is m.links c.loop-l.l (below_view link_view c.links-l-end.result.now c.args.model.now.links c.loop-l.l c.links-l-end.ensures.links c.loop-l-test.true) in
    let asks = link_asks_is m c.loop-l.l k.0 k.1 in
    worked_at_most (worked_then c.loop-l.invariant.worked c.edge_of.ensures.worked) (omega (arith, asks, sum_within (λ l. 8 * size_of l.presence + 2) m.links c.loop-l.l k.0 k.1))

pub loop-l-preserved : goal.loop-l-preserved
loop-l-preserved g c =
    let m = c.args.model.now in
    let l = c.loop-l.l in
    let so_far = c.loop-l.invariant in
    let now = g.W.Worlds.algebra c.edge_of.new.w in
    let k = there_is m.links l (below_view link_view c.links-l-end.result.now c.args.model.now.links l c.links-l-end.ensures.links c.loop-l-test.true) in
    let asks = link_asks_is m l k.0 k.1 in
    let longer = length-append c.loop-l.edges.items (c.in_ok-made.made ∷ []) in
    record {
      worked = worked_at_most (worked_then so_far.worked c.edge_of.ensures.worked) (omega (arith, asks, sum_more (λ l. 8 * size_of l.presence + 2) m.links l k.0 k.1));
      size = ap length c.in_ok-push.ensures.items ∙ omega (arith, longer, so_far.size);
      edges = subst (All (IsEdge now (length m.elements))) (sym c.in_ok-push.ensures.items) (All-push (IsEdge now (length m.elements)) c.loop-l.edges.items c.in_ok-made.made (edges_later (length m.elements) c.loop-l.edges.items c.edge_of.ensures.worked.kept so_far.edges) c.in_ok-made.ensures.made);
      arrows = λ x w.
          ap (map (arrow_at now x)) c.in_ok-push.ensures.items
          ∙ one_more_arrow m x l c.loop-l.edges.items c.in_ok-made.made c.edge_of.ensures.worked.kept so_far.edges (so_far.arrows x (world_before x c.edge_of.ensures.worked.kept w)) (c.in_ok-made.ensures.arrow x w);
    }
