use Rattle.std.proofs.Common.{ap, sym}
use Rattle.lifted_case.specs.CaseMembers.{undeveloped_members}
use Rattle.lifted_case.proofs.CaseMembers.{AddsMembers-as}
use Rattle.lifted_case.proofs.case_nodes.put_undeveloped.Goals as goal

pub returns-in_ok-put : goal.returns-in_ok-put
returns-in_ok-put c = AddsMembers-as (sym (ap undeveloped_members c.if-undeveloped.true)) (c.in_ok-put.ensures _ c.mark.ensures)
