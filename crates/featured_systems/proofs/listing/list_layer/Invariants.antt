use Rattle.std.proofs.Common.{◌≡◌, ℕ, ◌<◌, ◌++◌, true, false, get_or}
use Rattle.worlds.specs.Rows.{row_at}
use Rattle.featured_systems.specs.Exploring.{layers_at}
use Rattle.featured_systems.specs.Rounds.{states_in, Listed}
use Rattle.featured_systems.proofs.listing.list_layer.Given as goal

abbrev pub invariant-states : goal.invariant-states
invariant-states g l =
    let a = g.W.Worlds.algebra l.w in
    record {
      none : l.any ≡ false → (x : _) → a.is_world x ≡ true → (y : ℕ) → y < l.y → get_or (row_at a l.layer x) y false ≡ false;
      listed : Listed a l.layers.items l.distance l.y;
      layers : (x : _) → a.is_world x ≡ true → layers_at a l.layers.items x ≡ layers_at a l.fn.layers.items x ++ states_in l.distance (row_at a l.layer x) l.y;
    }
