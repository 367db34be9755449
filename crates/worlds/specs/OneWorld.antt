-- The conditions over one world, each its truth there.
use Rattle.std.specs.Prelude.{ℕ, ◌≡◌, ◌↔◌, List, Bool, true, length}
use Rattle.std.specs.Cmp.Lexicographic.{pointwise}
use Rattle.std.specs.Bool.{beq}
use Rattle.worlds.specs.Algebra.{Algebra}

abbrev pub one_world : List Bool → ℕ → Algebra Bool
one_world world asked = record {
  count = length world;
  is_world = λ x. pointwise beq x world;
  live = λ _. Unit {0};
  holds = λ c _. c;
  asked = asked;
  refused = 0;
  limit = 0;
  taken = 0;
  size = 0;
  span = λ _ _. 0;
}

-- this list alone is a world, a condition is its truth there, and nothing was refused
pub record HasOnlyWorld (world : List Bool) (a : Algebra Bool) : Type 0 where
  pub count : a.count ≡ length world
  pub worlds : (x : List Bool) → (a.is_world x ≡ true) ↔ (x ≡ world)
  pub live : (c : Bool) → a.live c
  pub holds : (c : Bool) (x : List Bool) → a.holds c x ≡ c
  pub refused : a.refused ≡ 0
  pub limit : a.limit ≡ 0
  pub taken : a.taken ≡ 0
