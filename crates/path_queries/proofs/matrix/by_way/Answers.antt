use Rattle.std.proofs.Common.{sym, subst, ◌+◌, ◌*◌, ◌/◌, ◌%◌, ◌≡◌, ◌<◌, refl, arith}
use Rattle.worlds.proofs.Kept.{worked_then, worked_at_most}
use Rattle.path_queries.specs.Relations.{through}
use Rattle.path_queries.specs.Matrices.{relation_at, FilledWhere}
use Rattle.path_queries.proofs.Cells.{filled_more, filled_all, row_below, column_below, cell_told, cell_place, way_told, rows_within}
use Rattle.path_queries.proofs.matrix.by_way.Goals as goal

pub or_by_way-requires : goal.or_by_way-requires
or_by_way-requires g c =
    let n = c.args.n in
    let p = c.loop-place.place in
    let k = c.args.middle in
    let kept = c.loop-place.invariant.worked.kept in
    let row = row_below n p c.loop-place-test.true in
    let column = column_below n p c.loop-place-test.true in
    record {
      direct_live = (cell_told (p / n) (p % n) p c.index-a-place.result kept c.requires.a row column (cell_place n p) c.index-a-place.is).live;
      to_live = (cell_told (p / n) k (p / n * n + k) c.index-a-row.result kept c.requires.a row c.requires.middle refl c.index-a-row.is).live;
      from_live = (cell_told k (p % n) (k * n + p % n) c.index-a-column.result kept c.requires.a c.requires.middle column refl c.index-a-column.is).live;
    }

pub returns-in_err-cell-clause-worked : goal.returns-in_err-cell-clause-worked
returns-in_err-cell-clause-worked g c =
    worked_at_most (worked_then c.loop-place.invariant.worked c.or_by_way.ensures.worked) (rows_within c.loop-place.place (c.args.n * c.args.n) 2 c.loop-place-test.true)

pub returns-in_err-push-clause-worked : goal.returns-in_err-push-clause-worked
returns-in_err-push-clause-worked g c =
    worked_at_most (worked_then c.loop-place.invariant.worked c.or_by_way.ensures.worked) (rows_within c.loop-place.place (c.args.n * c.args.n) 2 c.loop-place-test.true)

pub loop-place-preserved : goal.loop-place-preserved
loop-place-preserved g c =
    let before = g.W.Worlds.algebra c.args.w.now in
    let n = c.args.n in
    let p = c.loop-place.place in
    let k = c.args.middle in
    let a = c.args.a.now in
    let so_far = c.loop-place.invariant in
    let row = row_below n p c.loop-place-test.true in
    let column = column_below n p c.loop-place-test.true in
    let direct = cell_told (p / n) (p % n) p c.index-a-place.result so_far.worked.kept c.requires.a row column (cell_place n p) c.index-a-place.is in
    let to = cell_told (p / n) k (p / n * n + k) c.index-a-row.result so_far.worked.kept c.requires.a row c.requires.middle refl c.index-a-row.is in
    let from = cell_told k (p % n) (k * n + p % n) c.index-a-column.result so_far.worked.kept c.requires.a c.requires.middle column refl c.index-a-column.is in
    record {
      worked = worked_at_most (worked_then so_far.worked c.or_by_way.ensures.worked) (omega arith);
      filled =
          subst (λ cs. FilledWhere (g.W.Worlds.algebra c.or_by_way.new.w) n (p + 1) cs (λ x. through k (relation_at before n a x))) (sym c.in_ok-push.ensures.items)
          (filled_more c.in_ok-cell.cell c.or_by_way.ensures.worked.kept so_far.filled
          (way_told (λ x. relation_at before n a x (p / n) (p % n)) (λ x. relation_at before n a x (p / n) k) (λ x. relation_at before n a x k (p % n)) c.or_by_way.ensures.worked.kept direct to from c.in_ok-cell.ensures.made) (λ x w. refl));
    }

pub returns-clause-made : goal.returns-clause-made
returns-clause-made g c =
    let before = g.W.Worlds.algebra c.args.w.now in
    let n = c.args.n in
    let full : c.loop-place.place ≡ n * n = omega arith in
    filled_all
    (subst (λ k. FilledWhere (g.W.Worlds.algebra c.loop-place.w) n k c.loop-place.cells.items (λ x. through c.args.middle (relation_at before n c.args.a.now x))) full c.loop-place.invariant.filled)
