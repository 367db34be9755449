use Rattle.std.proofs.Common.{[], ◌∷◌, ◌++◌, ◌+◌, refl, arith}
use Rattle.meaning.specs.BundlePlaces.{Params, faults_at, name_in}
use Rattle.doc_tree.specs.View.{document, documents}
use Rattle.templates.specs.Faults.{IsFirst}
use Rattle.templates.specs.ListRules.{parameter_broken, parameters_broken}
use Rattle.templates.proofs.Firsts.{at_error, first_of_left}
use Rattle.templates.proofs.params.add_items.Goals as goal

pub returns-in_err-read_parameter-clause-fault : goal.returns-in_err-read_parameter-clause-fault
returns-in_err-read_parameter-clause-fault c =
    let m = c.args.model.now in
    let t = c.args.template in
    let items = c.args.items.now in
    let number = c.items.number in
    let names = c.items.names in
    let item = c.index-items-number.result in
    let stop = c.in_err-read_parameter.field-0.0 in
    let all = parameters_broken m t [] 0 (documents items) in
    at_error c.from_residual.result stop (IsFirst all)
    (first_of_left (parameters_broken m t names number) items number item
    (faults_at Params t number (parameter_broken m names number (document item))) all
    (parameters_broken m t (names ++ name_in (document item) ∷ []) (number + 1)) stop (omega arith) c.index-items-number.is c.items.invariant.none (λ ds. refl)
    c.in_err-read_parameter.ensures.fault) c.from_residual.ensures.1
