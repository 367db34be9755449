use Rattle.std.proofs.Common.{rules}
use Rattle.lifted_case.specs.CaseView.{fault_view}
use Rattle.workbench.proofs.StatusLines.{bad_case_line}
use Rattle.workbench.proofs.status.case_line.Goals as goal

pub returns : goal.returns
returns c = search (rules, bad_case_line (fault_view c.args.fault.now))
