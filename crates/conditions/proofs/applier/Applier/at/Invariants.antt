use Rattle.std.proofs.Common.{◌≡◌, ◌<◌, ◌+◌, length}
use Rattle.node_pool.specs.Nodes.{value}
use Rattle.node_pool.specs.Functions.{world_of}
use Rattle.conditions.proofs.applier.Applier.at.Given as goal

abbrev pub invariant-loop-number : goal.invariant-loop-number
invariant-loop-number l =
    (l.number.0 < length l.self.nodes + 2) × (value l.self.nodes l.number.0 (world_of l.world) ≡ value l.self.nodes l.initial.number.0 (world_of l.world))

abbrev pub decreases-loop-number : goal.decreases-loop-number
decreases-loop-number l = l.number.0
