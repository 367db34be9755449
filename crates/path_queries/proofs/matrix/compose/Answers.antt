use Rattle.std.proofs.Common.{sym, subst, ◌+◌, ◌*◌, ◌/◌, ◌%◌, ◌≡◌, ◌<◌, arith}
use Rattle.worlds.proofs.Kept.{worked_then, worked_at_most}
use Rattle.path_queries.specs.Relations.{composed}
use Rattle.path_queries.specs.Matrices.{relation_at, FilledWhere}
use Rattle.path_queries.proofs.Cells.{filled_more, filled_all, is_matrix_later, row_below, column_below, composed_kept, rows_within}
use Rattle.path_queries.proofs.matrix.compose.Goals as goal

pub composed_cell-requires : goal.composed_cell-requires
composed_cell-requires g c = record {
  bound = c.requires.bound;
  row = row_below c.args.n c.loop-place.place c.loop-place-test.true;
  column = column_below c.args.n c.loop-place.place c.loop-place-test.true;
  a = is_matrix_later c.loop-place.invariant.worked.kept c.requires.a;
  b = is_matrix_later c.loop-place.invariant.worked.kept c.requires.b;
}

pub returns-in_err-cell-clause-worked : goal.returns-in_err-cell-clause-worked
returns-in_err-cell-clause-worked g c =
    worked_at_most (worked_then c.loop-place.invariant.worked c.composed_cell.ensures.worked) (rows_within c.loop-place.place (c.args.n * c.args.n) (2 * c.args.n) c.loop-place-test.true)

pub returns-in_err-push-clause-worked : goal.returns-in_err-push-clause-worked
returns-in_err-push-clause-worked g c =
    worked_at_most (worked_then c.loop-place.invariant.worked c.composed_cell.ensures.worked) (rows_within c.loop-place.place (c.args.n * c.args.n) (2 * c.args.n) c.loop-place-test.true)

pub loop-place-preserved : goal.loop-place-preserved
loop-place-preserved g c =
    let before = g.W.Worlds.algebra c.args.w.now in
    let n = c.args.n in
    let p = c.loop-place.place in
    let a = c.args.a.now in
    let b = c.args.b.now in
    let so_far = c.loop-place.invariant in
    record {
      worked = worked_at_most (worked_then so_far.worked c.composed_cell.ensures.worked) (omega arith);
      filled =
          subst (λ cs. FilledWhere (g.W.Worlds.algebra c.composed_cell.new.w) n (p + 1) cs (λ x. composed n (relation_at before n a x) (relation_at before n b x))) (sym c.in_ok-push.ensures.items)
          (filled_more c.in_ok-cell.cell c.composed_cell.ensures.worked.kept so_far.filled c.in_ok-cell.ensures.made
          (λ x w. composed_kept n (p / n) (p % n) a b x so_far.worked.kept c.requires.a.live c.requires.b.live));
    }

pub returns-clause-made : goal.returns-clause-made
returns-clause-made g c =
    let before = g.W.Worlds.algebra c.args.w.now in
    let n = c.args.n in
    let full : c.loop-place.place ≡ n * n = omega arith in
    filled_all
    (subst (λ k. FilledWhere (g.W.Worlds.algebra c.loop-place.w) n k c.loop-place.cells.items (λ x. composed n (relation_at before n c.args.a.now x) (relation_at before n c.args.b.now x))) full c.loop-place.invariant.filled)
