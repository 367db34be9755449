use Rattle.lifted_case.proofs.CaseMembers.{AddsMembers-one}
use Rattle.lifted_case.proofs.case_members.put.Goals as goal

pub returns : goal.returns
returns c = λ v one. AddsMembers-one c.args.entries.now.items c.add.new.entries.items c.args.name.now c.args.value v c.in_ok-add.ensures one
