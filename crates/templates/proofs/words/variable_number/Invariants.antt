use Rattle.templates.proofs.PlaceWalk.{NotBefore}
use Rattle.templates.proofs.words.variable_number.Given as goal

abbrev pub invariant-variables : goal.invariant-variables
invariant-variables l = NotBefore (λ v. v.0) l.name l.scope l.number
