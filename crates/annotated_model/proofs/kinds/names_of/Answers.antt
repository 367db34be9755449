use Rattle.std.proofs.lemmas.Result.{err_from_is_err_and}
use Rattle.meaning.specs.BundlePlaces.{Kinds, name_in}
use Rattle.doc_tree.specs.View.{documents}
use Rattle.annotated_model.specs.Items.{kind_broken, kinds_broken}
use Rattle.annotated_model.proofs.Walks.{stops}
use Rattle.annotated_model.proofs.kinds.names_of.Goals as goal

pub returns-in_err-check-clause-fault : goal.returns-in_err-check-clause-fault
returns-in_err-check-clause-fault c =
    let p = err_from_is_err_and c.from_residual.result c.from_residual.ensures.1 in
    rw (p.1, p.2)
    (stops Kinds name_in (kind_broken c.args.types.now) c.kinds.names c.kinds.number c.args.kinds.now c.index-kinds-number.result
    (kinds_broken c.args.types.now (documents c.args.kinds.now)) c.in_err-check.field-0.0 c.kinds-test.true c.index-kinds-number.is
    c.kinds.invariant.faults c.in_err-check.ensures.fault)
