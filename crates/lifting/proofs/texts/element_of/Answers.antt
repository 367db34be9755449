use Rattle.lifting.proofs.ElementTexts.{bound_at, unbound_at}
use Rattle.lifting.proofs.texts.element_of.Goals as goal

pub returns-in-Some : goal.returns-in-Some
returns-in-Some c = let at = rw c.from.ensures at c.in-Some.ensures.lookup in bound_at c.args.bound.now c.args.variable c.in-Some.element.now at.3.0 at.1

pub returns-in-None : goal.returns-in-None
returns-in-None c = let past = rw c.from.ensures at c.in-None.ensures.lookup in unbound_at c.args.bound.now c.args.variable past.3
