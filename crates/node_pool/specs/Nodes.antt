-- Lists of nodes: which number has which function, and when a list is reduced and ordered.
use Rattle.std.specs.Prelude.{◌≡◌, ◌≢◌, ℕ, zero, suc, ◌+◌, ◌-◌, ◌<◌, ◌≤◌, List, length, slice_index_or, if◌then◌else◌, nat_lt, ◌==◌}
use Rattle.meaning.specs.Cofactors.{Function}
use Rattle.node_pool.specs.declared.node.Node.{Node}
use Rattle.node_pool.specs.declared.node.NodeNo.{NodeNo}

-- the node with this variable and these children
abbrev pub triple : ℕ → NodeNo → NodeNo → Node
triple var low high = record { var = var; low = low; high = high }

-- what a place past the end is read as
abbrev pub no_node : Node
no_node = record { var = 0; low = record { 0 = 0 }; high = record { 0 = 0 } }

-- the node at a place of the list
abbrev pub node_at : List Node → ℕ → Node
node_at nodes k = slice_index_or nodes k no_node

-- the variable at which a number branches; the constants branch after all variables
unfoldable pub top_of : ℕ → List Node → ℕ → ℕ
top_of vars nodes n = if nat_lt n 2 then vars else (node_at nodes (n - 2)).var

-- a walk down of at most so many steps
unfoldable pub walk : List Node → ℕ → ℕ → Function
walk nodes zero n world = n == 1
walk nodes (suc steps) n world =
    if nat_lt n 2 then n == 1
    else (if world (node_at nodes (n - 2)).var
    then walk nodes steps (node_at nodes (n - 2)).high.0 world
    else walk nodes steps (node_at nodes (n - 2)).low.0 world)

-- the function of a number: a child has a smaller number, so that many steps are enough
unfoldable pub value : List Node → ℕ → Function
value nodes n world = walk nodes n n world

-- the node may stand at place k of the list
pub record MayStand (vars : ℕ) (nodes : List Node) (node : Node) (k : ℕ) : Type 0 where
  pub var_in : node.var < vars
  pub low_in : node.low.0 < k + 2
  pub high_in : node.high.0 < k + 2
  pub low_after : node.var < top_of vars nodes node.low.0
  pub high_after : node.var < top_of vars nodes node.high.0
  pub children_differ : node.low.0 ≢ node.high.0

-- a reduced and ordered list: each node has a greater number and a smaller variable than its inner children, no node has equal children, and each triple stands once
pub record IsReduced (vars : ℕ) (nodes : List Node) : Type 0 where
  pub stands : (k : ℕ) → k < length nodes → MayStand vars nodes (node_at nodes k) k
  pub once : (j k : ℕ) → j < k → k < length nodes → node_at nodes j ≢ node_at nodes k

-- the new list has the old one's nodes at their places
pub record Extends (old new : List Node) : Type 0 where
  pub no_shorter : length old ≤ length new
  pub kept : (k : ℕ) → k < length old → node_at new k ≡ node_at old k

-- no node is this one
abbrev pub IsAbsent : List Node → Node → Type 0
IsAbsent nodes node = (k : ℕ) → k < length nodes → node_at nodes k ≢ node
