use Rattle.std.proofs.Common.{sym}
use Rattle.lifted_case.specs.CaseWritten.{id_in}
use Rattle.lifted_case.proofs.CaseMembers.{AddsMembers-as, some_branches}
use Rattle.lifted_case.proofs.case_nodes.put_branches.Goals as goal

pub returns : goal.returns
returns c = AddsMembers-as (some_branches (id_in c.args.ids.now) c.args.branches.now (sym c.if-is_empty.ensures)) (c.in_ok-put.ensures _ c.in_ok-branches.ensures)
