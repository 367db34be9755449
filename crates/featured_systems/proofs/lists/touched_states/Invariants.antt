use Rattle.std.proofs.Common.{◌≡◌, ℕ, ◌<◌, length, get_or, true, false}
use Rattle.worlds.specs.Rows.{row_at}
use Rattle.featured_systems.specs.Rounds.{states_at}
use Rattle.featured_systems.proofs.lists.touched_states.Given as goal

abbrev pub invariant-states : goal.invariant-states
invariant-states g l =
    let algebra = g.W.Worlds.algebra in
    record {
      sized : length l.touched.items ≡ length l.last;
      touched : (t : ℕ) → t < length l.transitions → get_or (states_at false l.transitions) t 0 < l.state → get_or l.touched.items (get_or (states_at true l.transitions) t 0) false ≡ false
          → (x : _) → (algebra l.w).is_world x ≡ true → get_or (row_at (algebra l.w) l.last x) (get_or (states_at false l.transitions) t 0) false ≡ false;
    }
