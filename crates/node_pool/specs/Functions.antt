-- The functions of a pool's numbers, in the words of the definitions.
use Rattle.std.specs.Prelude.{◌≡◌, ℕ, ◌≤◌, Bool, false, List, length, slice_index_or, if◌then◌else◌, ◌==◌}
use Rattle.meaning.specs.Cofactors.{World, Function, Pool, IsThere, Agree}
use Rattle.node_pool.specs.Nodes.{value}
use Rattle.node_pool.specs.Regions.{Region}

-- each number that is there, with its function
abbrev pub pool_of : Region → Pool
pool_of r = record { nodes = length r.nodes; function = value r.nodes }

-- the function of a number
abbrev pub function_of : Region → ℕ → Function
function_of r n = (pool_of r).function n

-- the world that a list of truth values stands for, one for each variable
abbrev pub world_of : List Bool → World
world_of truths v = slice_index_or truths v false

-- the world with the truth of one variable replaced
abbrev pub put : World → ℕ → Bool → World
put world var truth v = if v == var then truth else world v

-- the function that is `high` where the variable is true, and else `low`
abbrev pub branch : ℕ → Function → Function → Function
branch var low high world = if world var then high world else low world

-- two functions agree at all worlds of so many variables
abbrev pub AgreeAtAll : ℕ → Function → Function → Type 0
AgreeAtAll vars f g = (truths : List Bool) → length truths ≡ vars → f (world_of truths) ≡ g (world_of truths)

-- each number that was there is there, with the function that it had
pub record Keeps (old new : Pool) : Type 0 where
  pub no_fewer : old.nodes ≤ new.nodes
  pub same : (n : ℕ) → IsThere old n → Agree (new.function n) (old.function n)
