use Rattle.std.proofs.Common.{◌+◌, refl, arith}
use Rattle.doc_tree.specs.View.{document, documents}
use Rattle.templates.specs.Faults.{IsFirst}
use Rattle.templates.specs.ListRules.{template_parameters_broken, all_parameters_broken}
use Rattle.templates.proofs.Firsts.{at_error, first_of_left}
use Rattle.templates.proofs.params.read_parameters.Goals as goal

pub returns-in_err-read_template-clause-fault : goal.returns-in_err-read_template-clause-fault
returns-in_err-read_template-clause-fault c =
    let m = c.args.model.now in
    let templates = c.args.templates.now in
    let number = c.templates.number in
    let template = c.index-templates-number.result in
    let stop = c.in_err-read_template.field-0.0 in
    let all = all_parameters_broken m 0 (documents templates) in
    at_error c.from_residual.result stop (IsFirst all)
    (first_of_left (all_parameters_broken m number) templates number template (template_parameters_broken m number (document template)) all
    (all_parameters_broken m (number + 1)) stop (omega arith) c.index-templates-number.is c.templates.invariant.none (λ ds. refl)
    c.in_err-read_template.ensures.fault) c.from_residual.ensures.1
