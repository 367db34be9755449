use Rattle.lifted_case.proofs.CaseMembers.{IsWritten-natural, IsWritten-text}
use Rattle.lifted_case.proofs.case_systems.transition.Goals as goal

pub returns : goal.returns
returns c =
    c.in_ok-doc.ensures _ _ _ (IsWritten-natural c.from.ensures c.number.ensures) (IsWritten-natural c.from-2.ensures c.number-2.ensures) (IsWritten-text c.text.ensures c.in_ok-action.ensures)
