use Rattle.std.proofs.Common.{◌≡◌, ◌++◌, drop}
use Rattle.meaning.specs.Texts.{flat}
use Rattle.lifted_case.specs.CaseWritten.{conditions_of_node}
use Rattle.lifted_case.proofs.case_walk.walk_nodes.Given as goal

abbrev pub invariant-nodes : goal.invariant-nodes
invariant-nodes l = l.walk.items ++ flat conditions_of_node (drop l.node-index l.nodes) ≡ l.initial.walk.items ++ flat conditions_of_node l.nodes
