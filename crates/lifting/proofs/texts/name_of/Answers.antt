use Rattle.lifting.proofs.ElementTexts.{name_is, no_name}
use Rattle.lifting.proofs.texts.name_of.Goals as goal

pub returns-in-Some : goal.returns-in-Some
returns-in-Some c =
    let at = rw c.from.ensures at c.in-Some.ensures.lookup in
    name_is c.args.model.now c.elements.result.now c.elements.ensures.elements c.args.element c.in-Some.element.now c.text.result.now at.3.0 at.1 c.text.ensures

pub returns-in-None : goal.returns-in-None
returns-in-None c =
    let past = rw c.from.ensures at c.in-None.ensures.lookup in
    no_name c.args.model.now c.elements.result.now c.elements.ensures.elements c.args.element past.3
