-- The least world of a function.
use Rattle.std.specs.Prelude.{◌≡◌, ℕ, Bool, true, false, List, length}
use Rattle.meaning.specs.Worlds.{is_lower}
use Rattle.node_pool.specs.Regions.{Region}
use Rattle.node_pool.specs.Functions.{function_of, world_of}

-- the number's function is true there, and at no lower world
pub record IsLeastOf (r : Region) (n : ℕ) (world : List Bool) : Type 0 where
  pub of_line : length world ≡ r.vars
  pub inside : function_of r n (world_of world) ≡ true
  pub least : (other : List Bool) → length other ≡ r.vars → function_of r n (world_of other) ≡ true → is_lower other world ≡ false
