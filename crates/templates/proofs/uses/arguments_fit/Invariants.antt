use Rattle.templates.proofs.UseLaws.{FitSoFar}
use Rattle.templates.proofs.uses.arguments_fit.Given as goal

abbrev pub invariant-arguments : goal.invariant-arguments
invariant-arguments l = FitSoFar l.model l.scope l.arguments l.parameters l.number
