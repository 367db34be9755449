use Rattle.std.proofs.Common.{rules}
use Rattle.workbench.proofs.StatusLines.{too_long_line, not_read_line, node_limit_line}
use Rattle.workbench.proofs.status.Status.line.Goals as goal

pub returns-in-TooLong : goal.returns-in-TooLong
returns-in-TooLong c = search (rules, too_long_line c.in-TooLong.file)

pub returns-in-ReadFault : goal.returns-in-ReadFault
returns-in-ReadFault c = search (rules, not_read_line c.in-ReadFault.file)

pub returns-in-NodeLimit : goal.returns-in-NodeLimit
returns-in-NodeLimit c = search (rules, node_limit_line c.in-NodeLimit.used)
