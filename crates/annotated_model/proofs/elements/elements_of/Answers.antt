use Rattle.std.proofs.Common.{map}
use Rattle.std.proofs.lemmas.Result.{err_from_is_err_and}
use Rattle.meaning.specs.BundlePlaces.{Elements, name_in}
use Rattle.doc_tree.specs.View.{documents}
use Rattle.annotated_model.specs.View.{type_view}
use Rattle.annotated_model.specs.Items.{element_broken, elements_broken}
use Rattle.annotated_model.proofs.Walks.{stops}
use Rattle.annotated_model.proofs.elements.elements_of.Goals as goal

pub returns-in_err-read_next-clause-fault : goal.returns-in_err-read_next-clause-fault
returns-in_err-read_next-clause-fault c =
    let p = err_from_is_err_and c.from_residual.result c.from_residual.ensures.1 in
    let types = map type_view c.args.types.now in
    rw (p.1, p.2)
    (stops Elements name_in (element_broken c.args.features.now c.args.names.now types) c.elements.given c.elements.number c.args.elements.now c.index-elements-number.result
    (elements_broken c.args.features.now c.args.names.now types (documents c.args.elements.now)) c.in_err-read_next.field-0.0 c.elements-test.true c.index-elements-number.is
    c.elements.invariant.faults c.in_err-read_next.ensures.fault)
