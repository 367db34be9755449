use Rattle.std.proofs.Common.{◌≡◌, map, take}
use Rattle.gsn.specs.View.{node_of}
use Rattle.case_derive.specs.AtWorld.{nodes_at}
use Rattle.case_derive.proofs.nodes.nodes.Given as goal

abbrev pub invariant-nodes : goal.invariant-nodes
invariant-nodes g l = map node_of l.there.items ≡ nodes_at (g.T.Truth.holds l.truth) (take l.one-index l.nodes)
