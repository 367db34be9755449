use Rattle.std.proofs.Common.{sym, subst, ◌+◌, ◌*◌, ◌/◌, ◌%◌, ◌≡◌, ◌<◌, refl, arith}
use Rattle.worlds.proofs.Kept.{worked_then, worked_at_most, one_call}
use Rattle.path_queries.specs.Relations.{united}
use Rattle.path_queries.specs.Matrices.{relation_at, FilledWhere}
use Rattle.path_queries.proofs.Cells.{filled_more, filled_all, row_below, column_below, cell_told, cell_place, either_told}
use Rattle.path_queries.proofs.matrix.unite.Goals as goal

pub either-requires-clause-a_live : goal.either-requires-clause-a_live
either-requires-clause-a_live g c =
    let n = c.args.n in
    let p = c.loop-place.place in
    (cell_told (p / n) (p % n) p c.index-a-place.result c.loop-place.invariant.worked.kept c.requires.a (row_below n p c.loop-place-test.true) (column_below n p c.loop-place-test.true) (cell_place n p) c.index-a-place.is).live

pub either-requires-clause-b_live : goal.either-requires-clause-b_live
either-requires-clause-b_live g c =
    let n = c.args.n in
    let p = c.loop-place.place in
    (cell_told (p / n) (p % n) p c.index-b-place.result c.loop-place.invariant.worked.kept c.requires.b (row_below n p c.loop-place-test.true) (column_below n p c.loop-place-test.true) (cell_place n p) c.index-b-place.is).live

pub returns-in_err-cell-clause-worked : goal.returns-in_err-cell-clause-worked
returns-in_err-cell-clause-worked g c =
    worked_at_most (worked_then c.loop-place.invariant.worked (one_call c.either.ensures.kept c.either.ensures.asked)) (omega arith)

pub returns-in_err-push-clause-worked : goal.returns-in_err-push-clause-worked
returns-in_err-push-clause-worked g c =
    worked_at_most (worked_then c.loop-place.invariant.worked (one_call c.either.ensures.kept c.either.ensures.asked)) (omega arith)

pub loop-place-preserved : goal.loop-place-preserved
loop-place-preserved g c =
    let before = g.W.Worlds.algebra c.args.w.now in
    let n = c.args.n in
    let p = c.loop-place.place in
    let a = c.args.a.now in
    let b = c.args.b.now in
    let so_far = c.loop-place.invariant in
    let row = row_below n p c.loop-place-test.true in
    let column = column_below n p c.loop-place-test.true in
    let first = cell_told (p / n) (p % n) p c.index-a-place.result so_far.worked.kept c.requires.a row column (cell_place n p) c.index-a-place.is in
    let second = cell_told (p / n) (p % n) p c.index-b-place.result so_far.worked.kept c.requires.b row column (cell_place n p) c.index-b-place.is in
    record {
      worked = worked_at_most (worked_then so_far.worked (one_call c.either.ensures.kept c.either.ensures.asked)) (omega arith);
      filled =
          subst (λ cs. FilledWhere (g.W.Worlds.algebra c.either.new.self) n (p + 1) cs (λ x. united (relation_at before n a x) (relation_at before n b x))) (sym c.in_ok-push.ensures.items)
          (filled_more c.in_ok-cell.cell c.either.ensures.kept so_far.filled
          (either_told (λ x. relation_at before n a x (p / n) (p % n)) (λ x. relation_at before n b x (p / n) (p % n)) c.either.ensures.kept first second c.in_ok-cell.ensures.made) (λ x w. refl));
    }

pub returns-clause-made : goal.returns-clause-made
returns-clause-made g c =
    let before = g.W.Worlds.algebra c.args.w.now in
    let n = c.args.n in
    let full : c.loop-place.place ≡ n * n = omega arith in
    filled_all
    (subst (λ k. FilledWhere (g.W.Worlds.algebra c.loop-place.w) n k c.loop-place.cells.items (λ x. united (relation_at before n c.args.a.now x) (relation_at before n c.args.b.now x))) full c.loop-place.invariant.filled)
