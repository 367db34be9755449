use Rattle.std.proofs.Common.{sym, subst, ◌∙◌, ◌+◌, ◌*◌, ◌≡◌, ◌<◌, ◌≤◌, arith}
use Rattle.worlds.proofs.Kept.{worked_then, worked_at_most, world_before}
use Rattle.path_queries.specs.Relations.{through, closed}
use Rattle.path_queries.specs.Matrices.{relation_at, IsMatrix, MatrixWhere}
use Rattle.path_queries.proofs.RelationsAlike.{through_alike}
use Rattle.path_queries.proofs.Cells.{matrix_is, closed_more, rows_within}
use Rattle.path_queries.proofs.matrix.chain.Goals as goal

pub by_way-requires : goal.by_way-requires
by_way-requires g c = record {
  bound = c.requires.bound;
  middle = c.loop-middle-test.true;
  a = subst (λ cs. IsMatrix (g.W.Worlds.algebra c.loop-middle.w) c.args.n cs) (sym c.deref.ensures.value) c.loop-middle.invariant.made.matrix;
}

pub returns-in_err-next-clause-worked : goal.returns-in_err-next-clause-worked
returns-in_err-next-clause-worked g c =
    worked_at_most (worked_then c.loop-middle.invariant.worked c.by_way.ensures.worked) (rows_within c.loop-middle.middle c.args.n (c.args.n * c.args.n * 2) c.loop-middle-test.true)

pub loop-middle-preserved : goal.loop-middle-preserved
loop-middle-preserved g c =
    let before = g.W.Worlds.algebra c.args.w.now in
    let now = g.W.Worlds.algebra c.loop-middle.w in
    let after = g.W.Worlds.algebra c.by_way.new.w in
    let n = c.args.n in
    let k = c.loop-middle.middle in
    let so_far = c.loop-middle.invariant in
    record {
      worked = worked_at_most (worked_then so_far.worked c.by_way.ensures.worked) (omega arith);
      made =
          matrix_is (λ x. through k (relation_at now n c.loop-middle.cells.items x)) (λ x. closed (k + 1) (relation_at before n c.args.a.now x))
          (λ x w i j row column.
          through_alike n k (relation_at now n c.loop-middle.cells.items x) (closed k (relation_at before n c.args.a.now x)) c.loop-middle-test.true (so_far.made.holds x (world_before x c.by_way.ensures.worked.kept w)) i j row column
          ∙ closed_more k (relation_at before n c.args.a.now x) i j)
          (subst (λ cs. MatrixWhere after n c.in_ok-next.next.items (λ x. through k (relation_at now n cs x))) c.deref.ensures.value c.in_ok-next.ensures.made);
    }

pub returns-clause-made : goal.returns-clause-made
returns-clause-made g c =
    let before = g.W.Worlds.algebra c.args.w.now in
    let n = c.args.n in
    let full : c.loop-middle.middle ≡ n = omega arith in
    subst (λ k. MatrixWhere (g.W.Worlds.algebra c.loop-middle.w) n c.loop-middle.cells.items (λ x. closed k (relation_at before n c.args.a.now x))) full c.loop-middle.invariant.made
