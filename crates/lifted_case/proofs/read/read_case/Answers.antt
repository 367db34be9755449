use Rattle.std.proofs.Common.{◌≡◌, sym, ap, subst, ◌∙◌}
use Rattle.std.specs.Prelude.{Some, None, Err, IfOk, IfErr}
use Rattle.meaning.specs.CaseReading as reading
use Rattle.meaning.specs.CaseReading.{Is, Broken}
use Rattle.doc_tree.specs.View.{document}
use Rattle.doc_tree.specs.declared.fault.Part.TheVariants as part
use Rattle.lifted_case.specs.declared.lifted.CaseFault.{CaseFault}
use Rattle.lifted_case.specs.CaseView.{case_document_of_read, fault_view}
use Rattle.lifted_case.specs.ReadFaults.{TellsReading}
use Rattle.lifted_case.proofs.CasesRead.{read_of}
use Rattle.lifted_case.proofs.read.read_case.Goals as goal

pub returns-in-Ok-clause-ok : goal.returns-in-Ok-clause-ok
returns-in-Ok-clause-ok c =
    let read = read_of c.args.bytes.now (Some (document c.in-Ok.doc)) c.in-Ok.ensures.ok in
    subst (λ r. IfOk c.read_document.result (λ k. r ≡ Is (case_document_of_read k))) (sym read) c.read_document.ensures.ok

pub returns-in-Ok-clause-fault : goal.returns-in-Ok-clause-fault
returns-in-Ok-clause-fault c = λ f e.
    read_of c.args.bytes.now (Some (document c.in-Ok.doc)) c.in-Ok.ensures.ok
    ∙ subst (λ r. IfErr r (λ stop. TellsReading stop (reading.read_document (Some (document c.in-Ok.doc))))) e c.read_document.ensures.fault

pub returns-in-Err-NotDocument-clause-fault : goal.returns-in-Err-NotDocument-clause-fault
returns-in-Err-NotDocument-clause-fault c = λ f e.
    let told : CaseFault = record { fault = 1; part = part.Document; item = 0; sub = 0 } in
    let same : told ≡ f = cc in
    read_of c.args.bytes.now None (c.in-Err-NotDocument.ensures.not (ap Err c.in-Err-NotDocument.field-0-is)) ∙ ap (λ g. Broken (fault_view g)) same
