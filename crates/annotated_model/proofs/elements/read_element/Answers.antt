use Rattle.std.proofs.Common.{◌++◌, map}
use Rattle.std.specs.Prelude.{codes}
use Rattle.std.proofs.lemmas.Result.{err_from_is_err_and}
use Rattle.meaning.specs.Documents.{text_at}
use Rattle.meaning.specs.BundlePlaces.{Elements, requires, is_among}
use Rattle.meaning.specs.LineRules.{expression_rules}
use Rattle.doc_tree.specs.View.{document}
use Rattle.annotated_model.specs.View.{type_view}
use Rattle.annotated_model.specs.Items.{element_form_broken, attributes_given}
use Rattle.annotated_model.proofs.Firsts.{broken_form}
use Rattle.annotated_model.proofs.elements.read_element.Goals as goal

pub returns-in_err-check_form-clause-fault : goal.returns-in_err-check_form-clause-fault
returns-in_err-check_form-clause-fault c =
    let p = err_from_is_err_and c.from_residual.result c.from_residual.ensures.1 in
    let d = document c.args.element.now in
    let names = c.args.names.now in
    rw (p.1, p.2)
    (broken_form Elements c.args.number 0 (element_form_broken c.args.before.now c.args.number d)
    (expression_rules c.args.features.now (codes "when") d ++ requires 15 (is_among names (text_at (codes "type") d))
    ++ requires 16 (attributes_given names (map type_view c.args.types.now) d)) c.in_err-check_form.field-0.0 c.in_err-check_form.ensures.fault)
