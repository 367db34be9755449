use Rattle.std.proofs.Common.{◌+◌, ◌*◌, ◌≡◌, ◌<◌, refl, arith}
use Rattle.std.specs.Prelude.{◌&&◌, ◌||◌}
use Rattle.worlds.proofs.Kept.{worked_then, worked_at_most, holds_as}
use Rattle.path_queries.specs.Relations.{composed}
use Rattle.path_queries.specs.Matrices.{relation_at}
use Rattle.path_queries.proofs.Cells.{cell_told, way_told, any_more}
use Rattle.path_queries.proofs.matrix.composed_cell.Goals as goal

pub or_by_way-requires : goal.or_by_way-requires
or_by_way-requires g c =
    let n = c.args.n in
    let k = c.loop-k.k in
    let kept = c.loop-k.invariant.worked.kept in
    record {
      direct_live = c.loop-k.invariant.made.live;
      to_live = (cell_told c.args.i k (c.args.i * n + k) c.index-a-row.result kept c.requires.a c.requires.row c.loop-k-test.true refl c.index-a-row.is).live;
      from_live = (cell_told k c.args.j (k * n + c.args.j) c.index-b-column.result kept c.requires.b c.loop-k-test.true c.requires.column refl c.index-b-column.is).live;
    }

pub loop-k-preserved : goal.loop-k-preserved
loop-k-preserved g c =
    let before = g.W.Worlds.algebra c.args.w.now in
    let n = c.args.n in
    let k = c.loop-k.k in
    let i = c.args.i in
    let j = c.args.j in
    let first = c.args.a.now in
    let second = c.args.b.now in
    let so_far = c.loop-k.invariant in
    let to = cell_told i k (i * n + k) c.index-a-row.result so_far.worked.kept c.requires.a c.requires.row c.loop-k-test.true refl c.index-a-row.is in
    let from = cell_told k j (k * n + j) c.index-b-column.result so_far.worked.kept c.requires.b c.loop-k-test.true c.requires.column refl c.index-b-column.is in
    record {
      worked = worked_at_most (worked_then so_far.worked c.or_by_way.ensures.worked) (omega arith);
      made =
          holds_as _ (λ x. composed (k + 1) (relation_at before n first x) (relation_at before n second x) i j) (λ x w. any_more k (λ m. relation_at before n first x i m && relation_at before n second x m j))
          (way_told (λ x. composed k (relation_at before n first x) (relation_at before n second x) i j) (λ x. relation_at before n first x i k) (λ x. relation_at before n second x k j) c.or_by_way.ensures.worked.kept so_far.made to from c.in_ok-further.ensures.made);
    }
