use Rattle.std.proofs.Common.{sym, subst, ◌+◌, ◌*◌, false, refl, arith, ◌≡◌}
use Rattle.std.proofs.lemmas.Result.{IfOk-weaker}
use Rattle.worlds.proofs.Kept.{kept_itself}
use Rattle.path_queries.specs.Matrices.{FilledWhere}
use Rattle.path_queries.proofs.Cells.{filled_more, filled_all}
use Rattle.path_queries.proofs.matrix.nothing.Goals as goal

pub loop-cell-preserved : goal.loop-cell-preserved
loop-cell-preserved g c =
    let now = g.W.Worlds.algebra c.args.w.now in
    subst (λ cs. FilledWhere now c.args.n (c.loop-cell._cell + 1) cs (λ x i j. false)) (sym c.in_ok-push.ensures.items)
    (filled_more c.never-never.result (kept_itself now) c.loop-cell.invariant c.never-never.ensures (λ x w. refl))

pub returns : goal.returns
returns g c =
    let now = g.W.Worlds.algebra c.args.w.now in
    let full : c.loop-cell._cell ≡ c.args.n * c.args.n = omega arith in
    record { made = filled_all (subst (λ k. FilledWhere now c.args.n k c.loop-cell.cells.items (λ x i j. false)) full c.loop-cell.invariant) }
