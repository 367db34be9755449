use Rattle.std.proofs.Common.{◌≡◌, ap, ◌++◌, ◌<◌, length, arith}
use Rattle.std.proofs.lemmas.List.{length-map}
use Rattle.worlds.proofs.Kept.{worked_then}
use Rattle.path_queries.specs.View.{constraint, query}
use Rattle.path_queries.proofs.MetConstraints.{met_one_more, met_nowhere}
use Rattle.path_queries.proofs.Trying.{ready_later}
use Rattle.path_queries.proofs.answering.meeting.meets_all.Goals as goal

pub is_never-requires : goal.is_never-requires
is_never-requires g c = c.loop-number.invariant.met.live

pub returns-then-is_never-clause-made : goal.returns-then-is_never-clause-made
returns-then-is_never-clause-made g c =
    let s = c.args.search.now in
    met_nowhere (g.W.Worlds.algebra c.args.w.now) s (s.bound.now ++ c.args.given.now) c.args.under c.loop-number.number (c.is_never.ensures.0 c.if-is_never.true) c.loop-number.invariant.met

pub meets-requires-clause-ready : goal.meets-requires-clause-ready
meets-requires-clause-ready g c = ready_later c.loop-number.invariant.worked.kept c.requires.ready

pub loop-number-preserved : goal.loop-number-preserved
loop-number-preserved g c =
    let s = c.args.search.now in
    let so_far = c.loop-number.invariant in
    let end = ap length c.list-number-end.ensures in
    let below : c.loop-number.number < length (query s.query.now).constraints = omega (arith, c.loop-number-test.true, end, length-map s.query.now.constraints constraint) in
    record {
      worked = worked_then so_far.worked c.meets.ensures.worked;
      met = met_one_more s (s.bound.now ++ c.args.given.now) c.args.under c.loop-number.number so_far.worked.kept c.meets.ensures.worked.kept below so_far.met c.in_ok-here.ensures.made;
    }
