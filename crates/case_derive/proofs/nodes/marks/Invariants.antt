use Rattle.std.proofs.Common.{◌≡◌, take}
use Rattle.case_derive.specs.AtWorld.{marks_of}
use Rattle.case_derive.proofs.nodes.marks.Given as goal

abbrev pub invariant-nodes : goal.invariant-nodes
invariant-nodes g l = l.marks.items ≡ marks_of (g.T.Truth.holds l.truth) (take l.node-index l.nodes)
