use Rattle.std.proofs.Common.{[]}
use Rattle.std.proofs.lemmas.Result.{err_from_is_err_and}
use Rattle.doc_tree.specs.View.{document}
use Rattle.annotated_model.proofs.ReadTogether.{at_types}
use Rattle.annotated_model.proofs.known.read_known.Goals as goal

pub returns-in_err-types-clause-fault : goal.returns-in_err-types-clause-fault
returns-in_err-types-clause-fault c =
    let p = err_from_is_err_and c.from_residual.result c.from_residual.ensures.1 in
    rw (p.1, p.2) (at_types c.args.features.now (document c.args.model.now) [] [] c.in_err-types.field-0.0 c.in_err-types.ensures.fault)
