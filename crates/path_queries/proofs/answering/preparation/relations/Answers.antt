use Rattle.std.proofs.Common.{◌≡◌, refl, sym, subst, ◌+◌, take, arith}
use Rattle.std.proofs.lemmas.List.Sums.{sum_by_more_le}
use Rattle.worlds.proofs.Kept.{worked_then, worked_at_most}
use Rattle.path_queries.specs.Searching.{TellConstraints, walk_asks}
use Rattle.path_queries.proofs.Presences.{sum_within, sum_more, all_at}
use Rattle.path_queries.proofs.Preparing.{links_later, told_more, item_of}
use Rattle.path_queries.proofs.answering.preparation.relations.Goals as goal

pub relation-requires-clause-edges : goal.relation-requires-clause-edges
relation-requires-clause-edges g c = links_later c.loop-constraint.invariant.worked.kept c.requires.edges

pub returns-in_err-cells-clause-worked : goal.returns-in_err-cells-clause-worked
returns-in_err-cells-clause-worked g c =
    let cs = c.args.constraints.now in
    let at = item_of cs cs c.loop-constraint.constraint-index c.constraint-item.result refl c.loop-constraint-test.true c.constraint-item.is in
    worked_at_most (worked_then c.loop-constraint.invariant.worked c.relation.ensures.worked) (sum_within (walk_asks c.args.model.now) cs c.loop-constraint.constraint-index c.constraint-item.result at)

pub returns-in_err-push-clause-worked : goal.returns-in_err-push-clause-worked
returns-in_err-push-clause-worked g c =
    let cs = c.args.constraints.now in
    let at = item_of cs cs c.loop-constraint.constraint-index c.constraint-item.result refl c.loop-constraint-test.true c.constraint-item.is in
    worked_at_most (worked_then c.loop-constraint.invariant.worked c.relation.ensures.worked) (sum_within (walk_asks c.args.model.now) cs c.loop-constraint.constraint-index c.constraint-item.result at)

pub loop-constraint-preserved : goal.loop-constraint-preserved
loop-constraint-preserved g c =
    let cs = c.args.constraints.now in
    let i = c.loop-constraint.constraint-index in
    let m = c.args.model.now in
    let so_far = c.loop-constraint.invariant in
    let at = item_of cs cs i c.constraint-item.result refl c.loop-constraint-test.true c.constraint-item.is in
    let asks = sum_more (walk_asks m) cs i c.constraint-item.result at in
    record {
      worked = worked_at_most (worked_then so_far.worked c.relation.ensures.worked) (omega (arith, asks));
      told =
          subst (λ rows. TellConstraints (g.W.Worlds.algebra c.relation.new.w) m rows (take (i + 1) cs)) (sym c.in_ok-push.ensures.items)
          (told_more c.loop-constraint.rows.items cs i c.in_ok-cells.cells c.constraint-item.result c.relation.ensures.worked.kept so_far.told c.in_ok-cells.ensures.made c.loop-constraint-test.true c.constraint-item.is);
    }
