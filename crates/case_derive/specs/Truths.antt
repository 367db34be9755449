-- The truth of each identifier of a table at a world.
use Rattle.std.specs.Prelude.{◌≡◌, ℕ, ◌+◌, List, length, reverse, Bool}
use Rattle.meaning.specs.Texts.{holds_at}
use Rattle.meaning.specs.CaseFiles.{Row, walk_down}

-- at each identifier's place stands where a walk down the rows from it ends; no other identifier holds
pub record TellsTable (rows : List Row) (world values : List Bool) : Type 0 where
  pub length : length values ≡ length rows + 2
  pub each : (id : ℕ) → holds_at values id ≡ walk_down (reverse rows) world id
