use Rattle.lifting.proofs.ElementTexts.{attribute_is, no_attribute, no_attribute_of_none}
use Rattle.lifting.proofs.texts.attribute_of.Goals as goal

pub returns-in-Some-get : goal.returns-in-Some-get
returns-in-Some-get c =
    let at = rw c.from.ensures at c.in-Some.ensures.lookup in
    let value = rw (c.list.ensures, c.from-in-Some.ensures) at c.in-Some-get.ensures.lookup in
    attribute_is c.args.model.now c.elements.result.now c.elements.ensures.elements c.args.element c.args.attribute c.in-Some.element.now c.text.result.now at.3.0 at.1 value.3.0 (rw c.text.ensures value.1)

pub returns-in-None-get : goal.returns-in-None-get
returns-in-None-get c =
    let at = rw c.from.ensures at c.in-Some.ensures.lookup in
    let past = rw (c.list.ensures, c.from-in-Some.ensures) at c.in-None-get.ensures.lookup in
    no_attribute c.args.model.now c.elements.result.now c.elements.ensures.elements c.args.element c.args.attribute c.in-Some.element.now at.3.0 at.1 past.3

pub returns-in-None : goal.returns-in-None
returns-in-None c =
    let past = rw c.from.ensures at c.in-None.ensures.lookup in
    no_attribute_of_none c.args.model.now c.elements.result.now c.elements.ensures.elements c.args.element c.args.attribute past.3
