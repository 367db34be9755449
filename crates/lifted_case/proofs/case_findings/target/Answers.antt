use Rattle.lifted_case.proofs.CaseMembers.{IsWritten-natural}
use Rattle.lifted_case.proofs.case_findings.target.Goals as goal

pub returns : goal.returns
returns c = c.in_ok-doc.ensures _ _ (IsWritten-natural c.from.ensures c.number.ensures) (IsWritten-natural c.id.ensures c.number-2.ensures)
