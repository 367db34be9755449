use Rattle.doc_tree.specs.View.{document}
use Rattle.workbench.proofs.BundleReadings.{no_top_fault, top_is_first}
use Rattle.workbench.proofs.bundle.bundle_of.Goals as goal

pub without_solutions-requires : goal.without_solutions-requires
without_solutions-requires c = no_top_fault (document c.args.bundle.now) c.top_fault.result c.top_fault.ensures c.in-None.is

pub returns-in-Some-clause-stopped : goal.returns-in-Some-clause-stopped
returns-in-Some-clause-stopped c = top_is_first (document c.args.bundle.now) c.top_fault.result c.in-Some.fault c.top_fault.ensures c.in-Some.is
