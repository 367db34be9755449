use Rattle.std.proofs.Common.{map}
use Rattle.std.proofs.lemmas.Result.{err_from_is_err_and}
use Rattle.doc_tree.specs.View.{documents}
use Rattle.annotated_model.specs.View.{type_view}
use Rattle.annotated_model.specs.Items.{types_broken}
use Rattle.annotated_model.proofs.TypeWalks.{type_stops}
use Rattle.annotated_model.proofs.types.types_of.Goals as goal

pub returns-in_err-read_next-clause-fault : goal.returns-in_err-read_next-clause-fault
returns-in_err-read_next-clause-fault c =
    let p = err_from_is_err_and c.from_residual.result c.from_residual.ensures.1 in
    rw (p.1, p.2)
    (type_stops c.types.names (map type_view c.types.types.items) c.types.number c.args.items.now c.index-items-number.result
    (types_broken (documents c.args.items.now)) c.in_err-read_next.field-0.0 c.types-test.true c.index-items-number.is c.types.invariant.faults
    c.in_err-read_next.ensures.fault)
