-- What an exploration tells of a featured transition system.
use Rattle.std.specs.Prelude.{◌≡◌, ℕ, ◌<◌, ◌⊎◌, ⊤, List, [], ◌∷◌, map, length, Bool, true, filter}
use Rattle.std.specs.List.{All}
use Rattle.meaning.specs.Models.{Model, System}
use Rattle.meaning.specs.Layers.{steps_there, reached_there, parents_there, layers_there}
use Rattle.worlds.specs.Algebra.{Algebra, HoldsNowhere}
use Rattle.worlds.specs.Rows.{RowWhere}
use Rattle.featured_systems.specs.declared.explored.Explored.{Explored}

-- the layers that hold at a list: distance and state
abbrev pub layers_at : {C : Type 0} → Algebra C → List (ℕ × ℕ × C) → List Bool → List (ℕ × ℕ)
layers_at a layers x = map (λ l. (l.0, l.1)) (filter (λ l. a.holds l.2 x) layers)

-- by distance, then state
abbrev pub IsNearer : ℕ × ℕ → ℕ × ℕ → Type 0
IsNearer p q = (p.0 < q.0) ⊎ ((p.0 ≡ q.0) × (p.1 < q.1))

abbrev pub Ascending : List (ℕ × ℕ) → Type 0
Ascending [] = ⊤
Ascending (p ∷ []) = ⊤
Ascending (p ∷ q ∷ ps) = IsNearer p q × Ascending (q ∷ ps)

-- a layer is live, and holds at some world
pub record IsLayer {C : Type 0} (a : Algebra C) (l : ℕ × ℕ × C) : Type 0 where
  pub live : a.live l.2
  pub somewhere : HoldsNowhere a l.2 → ⊥

-- at every world: the transitions that are present, the states that are reached, their distances, and over which transitions the shortest runs
-- go back, of the system in the product of that world
pub record IsExplored {C : Type 0} (a : Algebra C) (m : Model) (s : System) (e : Explored C) : Type 0 where
  pub one_for_each_state : length e.reached ≡ length s.states
  pub one_for_each_transition : length e.parents ≡ length s.transitions
  pub one_step_for_each : length e.steps ≡ length s.transitions
  pub reached : RowWhere a e.reached (reached_there m s)
  pub parents : RowWhere a e.parents (parents_there m s)
  pub steps : RowWhere a e.steps (steps_there m s)
  pub layered : All (IsLayer a) e.layers
  pub ascending : Ascending (map (λ l. (l.0, l.1)) e.layers)
  pub layers : (x : List Bool) → a.is_world x ≡ true → layers_at a e.layers x ≡ layers_there m s x
