use Rattle.std.proofs.Common.{◌+◌, ◌*◌, ◌≡◌, ◌<◌, length, arith}
use Rattle.worlds.proofs.Kept.{worked_then, worked_at_most}
use Rattle.worlds.proofs.Rows.{element_has, live_at}
use Rattle.path_queries.specs.Presence.{IsEdge}
use Rattle.path_queries.proofs.Edges.{edge_added}
use Rattle.path_queries.proofs.matrix.of_kind.Goals as goal

pub or_by_edge-requires : goal.or_by_edge-requires
or_by_edge-requires g c =
    let before = g.W.Worlds.algebra c.args.w.now in
    let now = g.W.Worlds.algebra c.loop-edge.w in
    let edge = c.edge-item.result in
    let so_far = c.loop-edge.invariant in
    let fits = element_has (IsEdge before c.args.n) c.args.edges.now c.loop-edge.edge-index edge c.requires.edges c.loop-edge-test.true c.edge-item.is in
    let size = so_far.made.matrix.size in
    let within : c.place-cell.result < length c.loop-edge.cells.items = omega (arith, size, c.place-cell.ensures.within) in
    record {
      before_live = live_at now c.loop-edge.cells.items c.place-cell.result c.index-before.result.now so_far.made.matrix.live within c.index-before.ensures;
      edge_live = so_far.worked.kept.live edge.when fits.live;
    }

pub returns-in_err-after-clause-worked : goal.returns-in_err-after-clause-worked
returns-in_err-after-clause-worked g c =
    worked_at_most (worked_then c.loop-edge.invariant.worked c.or_by_edge.ensures.worked) (omega arith)

pub loop-edge-preserved : goal.loop-edge-preserved
loop-edge-preserved g c =
    let so_far = c.loop-edge.invariant in
    record {
      worked = worked_at_most (worked_then so_far.worked c.or_by_edge.ensures.worked) (omega arith);
      made =
          edge_added c.args.back c.args.kind c.args.edges.now c.loop-edge.edge-index c.edge-item.result c.place-cell.result c.index-before.result.now c.in_ok-after.after so_far.worked.kept
          c.or_by_edge.ensures.worked.kept c.requires.edges c.loop-edge-test.true c.edge-item.is c.place-cell.ensures.place c.index-before.ensures so_far.made c.in_ok-after.ensures.made;
    }
