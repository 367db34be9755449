use Rattle.std.proofs.Common.{sym, ◌∙◌, rules}
use Rattle.doc_tree.specs.View.{document}
use Rattle.lifted_case.specs.CaseView.{case_document_of_read}
use Rattle.lifted_case.proofs.CasesRead.{reads_as, breaks_at}
use Rattle.lifted_case.proofs.read.read_document.Goals as goal

pub returns-clause-ok : goal.returns-clause-ok
returns-clause-ok c =
    reads_as (document c.args.doc.now) (case_document_of_read c.in_ok-case_of.field-0) (sym c.is_table.ensures ∙ c.if-not-is_table.false) c.in_ok-check.ensures.kept
    c.in_ok-case_of.ensures.document

pub returns-in_err-check-clause-fault : goal.returns-in_err-check-clause-fault
returns-in_err-check-clause-fault c = search (rules, breaks_at)
