-- The fields of a store.
use Rattle.std.specs.Prelude.{◌≤◌, [], Option, Some, None, IfSome}
use Rattle.node_pool.specs.Regions.{Region, IsRegion}
use Rattle.conditions.specs.declared.store.Store.TheInside.{Inside}

-- the region of a store that is shut
abbrev pub no_region : Region
no_region = record { limit = 0; vars = 0; nodes = [] }

abbrev pub region_in : Option Region → Region
region_in None = no_region
region_in (Some r) = r

abbrev pub region_of : Inside → Region
region_of s = region_in s.opened

-- what always holds of a store's fields
pub record IsSound (s : Inside) : Type 0 where
  pub region : IsRegion (region_in s.opened)
  pub some_room : IfSome s.opened (λ r. 1 ≤ r.limit)
