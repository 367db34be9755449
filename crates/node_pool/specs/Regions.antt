-- What contracts see of a pool.
use Rattle.std.specs.Prelude.{◌≡◌, ◌≢◌, ℕ, ◌+◌, ◌-◌, ◌<◌, ◌≤◌, List, length}
use Rattle.node_pool.specs.declared.node.Node.{Node}
use Rattle.node_pool.specs.declared.node.NodeNo.{NodeNo}
use Rattle.node_pool.specs.Nodes.{node_at, IsReduced, IsAbsent}

-- the most nodes that it may hold, how many variables there are, and its nodes by number
pub record Region : Type 0 where
  pub limit : ℕ
  pub vars : ℕ
  pub nodes : List Node

-- what always holds of a pool
pub record IsRegion (r : Region) : Type 0 where
  pub few : r.limit ≤ 1048576
  pub few_vars : r.vars ≤ 256
  pub within : length r.nodes ≤ r.limit
  pub reduced : IsReduced r.vars r.nodes

-- the number is that of an inner node that is there
pub record IsInner (r : Region) (number : NodeNo) : Type 0 where
  pub inner : 2 ≤ number.0
  pub there : number.0 < length r.nodes + 2

-- the node with this number is there, and is this triple
pub record IsNumberOf (r : Region) (number : NodeNo) (node : Node) : Type 0 where
  pub inner : 2 ≤ number.0
  pub there : number.0 < length r.nodes + 2
  pub triple : node_at r.nodes (number.0 - 2) ≡ node

-- the triple is not there, and its children differ
pub record IsNew (r : Region) (node : Node) : Type 0 where
  pub absent : IsAbsent r.nodes node
  pub differ : node.low ≢ node.high

-- the triple is new, and there are as many nodes as the limit
pub record IsFull (r : Region) (node : Node) : Type 0 where
  pub full : length r.nodes ≡ r.limit
  pub absent : IsAbsent r.nodes node
  pub differ : node.low ≢ node.high
