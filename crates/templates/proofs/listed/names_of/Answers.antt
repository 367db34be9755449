use Rattle.std.proofs.Common.{[], ◌∷◌, ◌++◌, ◌+◌, ◌∙◌, length, refl, sym, subst, arith}
use Rattle.std.proofs.lemmas.List.{length-map}
use Rattle.meaning.specs.BundlePlaces.{Templates, faults_at, name_in}
use Rattle.doc_tree.specs.View.{document, documents}
use Rattle.annotated_model.specs.Items.{faults_after}
use Rattle.templates.specs.Faults.{IsFirst}
use Rattle.templates.specs.ListRules.{template_broken, templates_broken}
use Rattle.templates.proofs.Firsts.{at_error, first_of_left}
use Rattle.templates.proofs.listed.names_of.Goals as goal

pub returns-in_err-check-clause-fault : goal.returns-in_err-check-clause-fault
returns-in_err-check-clause-fault c =
    let templates = c.args.templates.now in
    let number = c.templates.number in
    let names = c.templates.names in
    let template = c.index-templates-number.result in
    let stop = c.in_err-check.field-0.0 in
    let all = templates_broken (documents templates) in
    let rules = template_broken (length (documents templates)) in
    at_error c.from_residual.result stop (IsFirst all)
    (first_of_left (faults_after Templates name_in rules names number) templates number template
    (faults_at Templates number 0 (rules names number (document template))) all
    (faults_after Templates name_in rules (names ++ name_in (document template) ∷ []) (number + 1)) stop (omega arith) c.index-templates-number.is c.templates.invariant.faults (λ ds. refl)
    (subst (λ n. IsFirst (faults_at Templates number 0 (template_broken n names number (document template))) stop) (sym (length-map templates document)) c.in_err-check.ensures.fault))
    c.from_residual.ensures.1
