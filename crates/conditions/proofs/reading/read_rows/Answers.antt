use Rattle.std.proofs.Common.{◌≡◌, arith, sym, subst}
use Rattle.conditions.specs.TableRows.{TellsOf}
use Rattle.doc_tree.specs.View.{documents}
use Rattle.conditions.proofs.TableRows.{AreRead-all, TellsOf-first}
use Rattle.std.specs.Prelude.{Result, Ok, Err, IfErr, IsErrAnd}
use Rattle.conditions.specs.declared.lines.Lines.{Lines}
use Rattle.conditions.specs.declared.reading.TableStop.{TableStop}
use Rattle.conditions.proofs.reading.read_rows.Goals as goal

at_error : (result : Result Lines TableStop) (stop : TableStop) (P : TableStop → Type 0) → P stop → IsErrAnd result (λ s. s ≡ stop) → IfErr result P
at_error (Ok lines) stop P holds is = tt
at_error (Err other) stop P holds is = subst P (sym is) holds

pub returns-in_err-read_row-clause-stop : goal.returns-in_err-read_row-clause-stop
returns-in_err-read_row-clause-stop c =
    let tells : TellsOf c.args.features (documents c.args.items.now) c.in_err-read_row.field-0.0 =
    TellsOf-first c.args.features c.args.items.now c.items.item-index c.items.lines c.item-item.result c.in_err-read_row.field-0.0 (omega (arith, c.items-test.true)) c.item-item.is c.items.invariant c.in_err-read_row.ensures.stop in
    at_error c.from_residual.result c.in_err-read_row.field-0.0 (TellsOf c.args.features (documents c.args.items.now)) tells c.from_residual.ensures.1

pub returns-clause-ok : goal.returns-clause-ok
returns-clause-ok c = AreRead-all c.args.features c.args.items.now c.items.item-index c.items.lines (omega (arith, c.items-test.false)) c.items.invariant
