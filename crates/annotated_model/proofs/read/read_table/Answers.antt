use Rattle.std.proofs.lemmas.Result.{err_from_is_err_and}
use Rattle.annotated_model.proofs.read.read_table.Goals as goal

pub returns-in_err-links-clause-fault : goal.returns-in_err-links-clause-fault
returns-in_err-links-clause-fault c =
    let p = err_from_is_err_and c.from_residual-in_err-links.result c.from_residual-in_err-links.ensures.1 in
    rw (p.1, p.2) c.in_err-links.ensures.fault
