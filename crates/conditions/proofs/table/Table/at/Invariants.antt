use Rattle.std.proofs.Common.{◌≡◌, ◌<◌, ◌+◌, length}
use Rattle.node_pool.specs.Nodes.{value}
use Rattle.node_pool.specs.Functions.{world_of}
use Rattle.conditions.specs.Tables.{nodes_of}
use Rattle.conditions.proofs.table.Table.at.Given as goal

abbrev pub invariant-loop-id : goal.invariant-loop-id
invariant-loop-id l =
    (l.id < length l.self.rows + 2) × (value (nodes_of l.self.rows) l.id (world_of l.world) ≡ value (nodes_of l.self.rows) l.fn.id (world_of l.world))

abbrev pub decreases-loop-id : goal.decreases-loop-id
decreases-loop-id l = l.id
