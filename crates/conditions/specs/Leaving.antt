-- A walk that leaves rows.
use Rattle.std.specs.Prelude.{◌≡◌, ℕ, ◌+◌, ◌<◌, ◌≤◌, List, [], length, slice_index, slice_index_or}
use Rattle.std.specs.List.{slice_get}
use Rattle.meaning.specs.Cofactors.{Agree}
use Rattle.meaning.specs.Texts.{numbers_from}
use Rattle.meaning.specs.TableOrder.{left_after, left_after_all}
use Rattle.node_pool.specs.declared.node.NodeNo.{NodeNo}
use Rattle.node_pool.specs.Nodes.{top_of, value, IsReduced, Extends}
use Rattle.node_pool.specs.Regions.{Region}
use Rattle.node_pool.specs.Functions.{function_of}
use Rattle.conditions.specs.Tables.{TableRow, nodes_of, case_rows, IsNamed}

-- the identifier stands for the number
pub record StandsFor (r : Region) (rows : List TableRow) (n id : ℕ) : Type 0 where
  pub there : id < length rows + 2
  pub top : top_of r.vars (nodes_of rows) id ≡ top_of r.vars r.nodes n
  pub function : Agree (value (nodes_of rows) id) (function_of r n)

-- the numbers whose row was left have its identifier at their place, the others 0; each row comes from one
pub record IsLeaving (r : Region) (ids : List ℕ) (rows : List TableRow) : Type 0 where
  pub all_places : length ids ≡ length r.nodes
  pub reduced : IsReduced r.vars (nodes_of rows)
  pub known : (place : ℕ) → place < length ids → 0 < slice_index ids place → (2 ≤ slice_index ids place) × StandsFor r rows (place + 2) (slice_index ids place)
  pub source : ℕ → ℕ
  pub source_in : (k : ℕ) → k < length rows → source k < length ids
  pub source_is : (k : ℕ) → k < length rows → slice_index ids (source k) ≡ k + 2

-- the rows that were there are there
pub record Lengthens (old new : List TableRow) : Type 0 where
  pub no_shorter : length old ≤ length new
  pub kept : (k : ℕ) → k < length old → slice_get new k ≡ slice_get old k

-- the number was left, with all below it
pub record IsLeft (r : Region) (n : ℕ) (old_ids : List ℕ) (old : List TableRow) (new_ids : List ℕ) (new : List TableRow) (id : ℕ) : Type 0 where
  pub leaving : IsLeaving r new_ids new
  pub extends : Extends (nodes_of old) (nodes_of new)
  pub lengthens : Lengthens old new
  pub later_same : (place : ℕ) → n < place + 2 → slice_index new_ids place ≡ slice_index old_ids place
  pub stands : StandsFor r new n id
  -- and the walk over the rows leaves just the new ones, whatever rows come later
  pub order : (final : List TableRow) (depth : ℕ) → Lengthens new final → id ≤ depth + 1 → left_after depth (case_rows final) (numbers_from 2 (length old)) id ≡ numbers_from 2 (length new)

-- the first so many conditions were left
pub record IsGathered (r : Region) (conditions : List NodeNo) (count : ℕ) (ids : List ℕ) (rows : List TableRow) (found : List ℕ) : Type 0 where
  pub leaving : IsLeaving r ids rows
  pub as_many : length found ≡ count
  pub each : (k : ℕ) → k < length found → IsNamed r rows (slice_index_or conditions k (record { 0 = 0 })) (slice_index_or found k 0)
  pub order : (final : List TableRow) → Lengthens rows final → left_after_all (case_rows final) [] found ≡ numbers_from 2 (length rows)
