use Rattle.lifted_case.proofs.CaseMembers.{IsWritten-natural}
use Rattle.lifted_case.proofs.case_systems.row.Goals as goal

pub returns : goal.returns
returns c = c.in_ok-doc.ensures _ _ _ (IsWritten-natural c.from.ensures c.number.ensures) c.number-2.ensures c.number-3.ensures
