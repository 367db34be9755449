use Rattle.std.proofs.Common.{◌≡◌, take, map}
use Rattle.std.specs.Prelude.{codes}
use Rattle.doc_tree.specs.View.{documents}
use Rattle.lifted_case.specs.ReadFaults.{size_at}
use Rattle.lifted_case.proofs.faults.findings.state_counts.Given as goal

abbrev pub invariant-systems : goal.invariant-systems
invariant-systems l = l.counts.items ≡ map (size_at (codes "states")) (documents (take l.system-index l.systems))
