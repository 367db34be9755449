use Rattle.std.proofs.Common.{subst, map}
use Rattle.std.proofs.lemmas.Result.{err_from_is_err_and}
use Rattle.meaning.specs.BundlePlaces.{Types, faults_at}
use Rattle.doc_tree.specs.View.{document}
use Rattle.annotated_model.specs.View.{type_view}
use Rattle.annotated_model.specs.Faults.{IsFirst}
use Rattle.annotated_model.specs.Items.{type_broken}
use Rattle.annotated_model.proofs.types.read_next.Goals as goal

pub returns-in_err-value-clause-fault : goal.returns-in_err-value-clause-fault
returns-in_err-value-clause-fault c =
    let p = err_from_is_err_and c.from_residual.result c.from_residual.ensures.1 in
    let stop = c.in_err-value.field-0.0 in
    rw (p.1, p.2)
    (subst (λ ts. IsFirst (faults_at Types c.args.number 0 (type_broken c.args.names.now (map type_view ts) c.args.number (document c.args.item.now))) stop)
    c.as_slice.ensures.value c.in_err-value.ensures.fault)
