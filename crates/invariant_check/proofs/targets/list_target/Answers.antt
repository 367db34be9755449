use Rattle.std.proofs.Common.{◌+◌, sym, subst, rules}
use Rattle.invariant_check.specs.Targets.{AreTargets}
use Rattle.invariant_check.proofs.ListedTargets.{targets_push}
use Rattle.invariant_check.proofs.targets.list_target.Goals as goal

pub returns-clause-listed : goal.returns-clause-listed
returns-clause-listed g c =
    let a = g.W.Worlds.algebra c.args.w.now in
    subst (λ targets. AreTargets a targets (c.args.state + 1)) (sym c.in_ok-push.ensures.items)
    (targets_push c.args.targets.now.items c.args.state c.args.there c.requires.listed (record { live = c.requires.live; somewhere = search rules }))
