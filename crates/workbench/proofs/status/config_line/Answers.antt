use Rattle.std.proofs.Common.{rules}
use Rattle.workbench.proofs.StatusLines.{bad_config_line}
use Rattle.workbench.proofs.status.config_line.Goals as goal

pub returns : goal.returns
returns c = search (rules, bad_config_line c.args.rule c.args.at)
