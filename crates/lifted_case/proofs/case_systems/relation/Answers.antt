use Rattle.lifted_case.proofs.CaseMembers.{AddsMembers-all}
use Rattle.lifted_case.proofs.case_systems.relation.Goals as goal

pub returns : goal.returns
returns c = c.table.ensures _ (AddsMembers-all c.new-entries.ensures.items c.in_ok-put_relation.ensures)
