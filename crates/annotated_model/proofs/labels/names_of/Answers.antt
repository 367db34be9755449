use Rattle.std.proofs.lemmas.Result.{err_from_is_err_and}
use Rattle.meaning.specs.BundlePlaces.{Labels}
use Rattle.meaning.specs.ModelRules.{label_text}
use Rattle.doc_tree.specs.View.{documents}
use Rattle.annotated_model.specs.Items.{label_broken, labels_broken}
use Rattle.annotated_model.proofs.Walks.{stops}
use Rattle.annotated_model.proofs.labels.names_of.Goals as goal

pub returns-in_err-check-clause-fault : goal.returns-in_err-check-clause-fault
returns-in_err-check-clause-fault c =
    let p = err_from_is_err_and c.from_residual.result c.from_residual.ensures.1 in
    rw (p.1, p.2)
    (stops Labels label_text label_broken c.labels.names c.labels.number c.args.labels.now c.index-labels-number.result
    (labels_broken (documents c.args.labels.now)) c.in_err-check.field-0.0 c.labels-test.true c.index-labels-number.is
    c.labels.invariant.faults c.in_err-check.ensures.fault)
