use Rattle.std.proofs.Common.{sym, subst}
use Rattle.worlds.specs.Rows.{AllLive}
use Rattle.std.specs.List.{All}
use Rattle.system_tests.proofs.FirstItem.{first_item}
use Rattle.system_tests.proofs.checking.told.Goals as goal

pub at-requires-clause-live : goal.at-requires-clause-live
at-requires-clause-live g c = let s = first_item c.args.model.now.systems c.requires.there in (c.requires.finding s.item s.stands).is.refuted.live

pub at-requires-2-clause-live : goal.at-requires-2-clause-live
at-requires-2-clause-live g c = let s = first_item c.args.model.now.systems c.requires.there in (c.requires.finding s.item s.stands).is.supported.live

pub targets-requires-clause-live : goal.targets-requires-clause-live
targets-requires-clause-live g c =
    let s = first_item c.args.model.now.systems c.requires.there in
    let each = (c.requires.finding s.item s.stands).is.each in
    subst (All (λ t. (g.W.Worlds.algebra c.args.w.now).live t.1)) (sym c.list.ensures) (λ k d below. (each k d below).live)

pub marks-requires-clause-live : goal.marks-requires-clause-live
marks-requires-clause-live g c =
    let s = first_item c.args.model.now.systems c.requires.there in
    subst (AllLive (g.W.Worlds.algebra c.args.w.now)) (sym c.list-2.ensures) (c.requires.explored s.item s.stands).reached.live
