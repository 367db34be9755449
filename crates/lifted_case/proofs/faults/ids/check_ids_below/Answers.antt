use Rattle.std.proofs.Common.{rules}
use Rattle.lifted_case.proofs.FirstFault.{finds_front, finds_behind}
use Rattle.lifted_case.proofs.faults.ids.check_ids_below.Goals as goal

pub returns-in_err-check_items-clause-fault : goal.returns-in_err-check_items-clause-fault
returns-in_err-check_items-clause-fault c = search (rules, finds_front, finds_behind)

pub returns-in_err-check_items-2-clause-fault : goal.returns-in_err-check_items-2-clause-fault
returns-in_err-check_items-2-clause-fault c = search (rules, finds_front, finds_behind)
