-- What making a node tells.
use Rattle.std.specs.Prelude.{◌≡◌, ◌≢◌, ◌+◌, ◌≤◌, length}
use Rattle.meaning.specs.Cofactors.{IsThere, Agree, AddsCofactors}
use Rattle.node_pool.specs.declared.node.Node.{Node}
use Rattle.node_pool.specs.declared.node.NodeNo.{NodeNo}
use Rattle.node_pool.specs.Nodes.{top_of, Extends}
use Rattle.node_pool.specs.Regions.{Region, IsNumberOf}
use Rattle.node_pool.specs.Functions.{pool_of, function_of, branch, Keeps}

-- the answer has the function that the triple stands for. It is the number of the triple where the children differ. At most one node was added, and it has that function
pub record Makes (old new : Region) (node : Node) (answer : NodeNo) : Type 0 where
  pub there : IsThere (pool_of new) answer.0
  pub function : Agree (function_of new answer.0) (branch node.var (function_of old node.low.0) (function_of old node.high.0))
  pub top : node.var ≤ top_of new.vars new.nodes answer.0
  pub stands : node.low ≢ node.high → IsNumberOf new answer node
  pub one_more : length new.nodes ≤ length old.nodes + 1
  pub adds : AddsCofactors new.vars (pool_of old) (pool_of new) (branch node.var (function_of old node.low.0) (function_of old node.high.0))

-- the limit and the variables stay, and so does each number with its node and its function
pub record Grows (old new : Region) : Type 0 where
  pub limit : new.limit ≡ old.limit
  pub vars : new.vars ≡ old.vars
  pub extends : Extends old.nodes new.nodes
  pub keeps : Keeps (pool_of old) (pool_of new)
