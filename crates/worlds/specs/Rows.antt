-- Several conditions, and their truth at a world.
use Rattle.std.specs.Prelude.{◌≡◌, List, Bool, true, All, map}
use Rattle.worlds.specs.Algebra.{Algebra}

-- each condition is live
abbrev pub AllLive : {C : Type 0} → Algebra C → List C → Type 0
AllLive a cs = All a.live cs

-- the truth of each condition at a list
abbrev pub row_at : {C : Type 0} → Algebra C → List C → List Bool → List Bool
row_at a cs x = map (λ c. a.holds c x) cs

-- each condition is live, and at each world their truth is the row
pub record RowWhere {C : Type 0} (a : Algebra C) (cs : List C) (row : List Bool → List Bool) : Type 0 where
  pub live : AllLive a cs
  pub holds : (x : List Bool) → a.is_world x ≡ true → row_at a cs x ≡ row x
