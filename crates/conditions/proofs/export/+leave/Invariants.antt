use Rattle.conditions.proofs.export.+leave.Given as goal

abbrev pub decreases-leave : goal.decreases-leave
decreases-leave l = l.number.0
