use Rattle.std.proofs.Common.{rules}
use Rattle.doc_tree.specs.Places.{fault_of}
use Rattle.workbench.proofs.StatusLines.{bad_bundle_line}
use Rattle.workbench.proofs.status.bundle_line.Goals as goal

pub returns : goal.returns
returns c = search (rules, bad_bundle_line (fault_of c.args.fault.now))
