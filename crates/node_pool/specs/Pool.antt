-- The fields of a pool.
use Rattle.std.specs.Prelude.{◌≡◌, ◌+◌, ◌≤◌, length, vec_capacity}
use Rattle.node_pool.specs.declared.pool.Pool.TheInside.{Inside}
use Rattle.node_pool.specs.Nodes.{IsReduced}
use Rattle.node_pool.specs.Regions.{Region}
use Rattle.node_pool.specs.Chains.{HasChains}

abbrev pub region_of : Inside → Region
region_of p = record { limit = p.limit; vars = p.vars; nodes = p.nodes.items }

-- what always holds of a pool's fields
pub record IsSound (p : Inside) : Type 0 where
  pub few : p.limit ≤ 1048576
  pub few_vars : p.vars ≤ 256
  pub within : length p.nodes.items ≤ p.limit
  pub room : p.limit ≤ vec_capacity p.nodes
  pub next_room : p.limit ≤ vec_capacity p.next
  pub same_length : length p.next.items ≡ length p.nodes.items
  pub all_slots : length p.heads.items ≡ p.mask + 1
  pub slots_within : p.mask ≤ p.widest
  pub slots_room : p.widest + 1 ≤ vec_capacity p.heads
  pub reduced : IsReduced p.vars p.nodes.items
  pub chains : HasChains p.mask p.nodes.items p.heads.items p.next.items
