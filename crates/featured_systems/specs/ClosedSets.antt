-- The reached states of a system in one product: the least set that has the initial states and is closed under the transitions.
use Rattle.std.specs.Prelude.{◌≡◌, ℕ, Bool, true, Contains}
use Rattle.meaning.specs.Models.{Transition, PlainSystem}
use Rattle.meaning.specs.Systems.{IsProperSystem, is_initial, is_reachable}

-- the set has every initial state, and the end of each transition that starts in it
pub record IsClosedSet (s : PlainSystem) (inside : ℕ → Bool) : Type 0 where
  pub initial : (x : ℕ) → is_initial s x ≡ true → inside x ≡ true
  pub step : (t : ℕ × Transition) → Contains s.transitions t → inside t.1.source ≡ true → inside t.1.target ≡ true

-- and every other such set contains it
pub record IsLeastClosed (s : PlainSystem) (inside : ℕ → Bool) : Type 0 where
  pub closed : IsClosedSet s inside
  pub least : (other : ℕ → Bool) → IsClosedSet s other → (x : ℕ) → inside x ≡ true → other x ≡ true

abbrev pub ReachedIsLeastClosed : Type 0
ReachedIsLeastClosed = (s : PlainSystem) → IsProperSystem s → IsLeastClosed s (is_reachable s)
