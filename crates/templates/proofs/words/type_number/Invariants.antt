use Rattle.templates.proofs.PlaceWalk.{NotBefore}
use Rattle.templates.proofs.words.type_number.Given as goal

abbrev pub invariant-all : goal.invariant-all
invariant-all l = NotBefore (λ t. t.name) l.name l.types l.number
