-- What contracts see of a value that decides conditions over worlds, and what its calls may change.
use Rattle.std.specs.Prelude.{ℕ, ◌+◌, ◌≤◌, ◌≡◌, List, Bool, true, false, ◌&&◌, Result, Ok, Err}
use Rattle.meaning.specs.Counts.{counted}
use Rattle.worlds.specs.declared.stops.NodeLimit.{NodeLimit}
use Rattle.worlds.specs.declared.stops.QStop.{QStop}
use Rattle.worlds.specs.declared.stops.QStop.TheVariants.{NodeLimit as AtLimit, TooMany, NoMemory}

-- The conditions at one moment. A list of truth values, one for each of `count` features, is a world or isn't.
-- A condition that is live may be used, and holds or doesn't at each list; its function is told for all lists, and what it means for the worlds.
-- `asked` counts the calls that make conditions, and `refused` those of them that were refused. `limit` is told in a refusal. `taken` counts
-- what was taken in from outside. `size` is the number of nodes that conditions are made of, and `span m cs` that of the first m nodes and
-- of all that the conditions cs need besides.
pub record Algebra (C : Type 0) : Type 1 where
  pub count : ℕ
  pub is_world : List Bool → Bool
  pub live : C → Type 0
  pub holds : C → List Bool → Bool
  pub asked : ℕ
  pub refused : ℕ
  pub limit : ℕ
  pub taken : ℕ
  pub size : ℕ
  pub span : ℕ → List C → ℕ

-- ---- at one moment

-- the list is a world at which the condition holds
abbrev pub has : {C : Type 0} → Algebra C → C → List Bool → Bool
has a c x = a.is_world x && a.holds c x

-- the condition is live, and holds at the worlds where the test is true
pub record HoldsWhere {C : Type 0} (a : Algebra C) (c : C) (test : List Bool → Bool) : Type 0 where
  pub live : a.live c
  pub holds : (x : List Bool) → a.is_world x ≡ true → a.holds c x ≡ test x

-- the condition holds at no world
abbrev pub HoldsNowhere : {C : Type 0} → Algebra C → C → Type 0
HoldsNowhere a c = (x : List Bool) → a.is_world x ≡ true → a.holds c x ≡ false

-- the conditions hold at the same worlds
abbrev pub HoldAlike : {C : Type 0} → Algebra C → C → C → Type 0
HoldAlike a c d = (x : List Bool) → a.is_world x ≡ true → a.holds c x ≡ a.holds d x

-- ---- from one moment to a later one

-- what was live is live with its function; the worlds and the limits are the same, and no count fell
pub record Kept {C : Type 0} (before after : Algebra C) : Type 0 where
  pub count : after.count ≡ before.count
  pub worlds : (x : List Bool) → after.is_world x ≡ before.is_world x
  pub live : (c : C) → before.live c → after.live c
  pub holds : (c : C) → before.live c → (x : List Bool) → after.holds c x ≡ before.holds c x
  pub asked : before.asked ≤ after.asked
  pub refused : before.refused ≤ after.refused
  pub limit : after.limit ≡ before.limit
  pub taken : after.taken ≡ before.taken
  pub size : before.size ≤ after.size

-- what was live is kept, and at most n conditions were asked for
pub record Worked {C : Type 0} (n : ℕ) (before after : Algebra C) : Type 0 where
  pub kept : Kept before after
  pub asked : after.asked ≤ before.asked + n

-- the count went up, or stands at the greatest
abbrev pub Raised : ℕ → ℕ → Type 0
Raised before after = counted before 1 ≤ after

-- a condition was refused in between, and the answer tells the limit
pub record IsRefusal {C : Type 0} (before after : Algebra C) (stop : NodeLimit) : Type 0 where
  pub used : stop.used ≡ before.limit
  pub rose : Raised before.refused after.refused

-- why a computation stopped: want of memory, or a condition that was refused in between
abbrev pub Stops : {C : Type 0} → Algebra C → Algebra C → QStop → Type 0
Stops before after (AtLimit stop) = IsRefusal before after stop
Stops before after TooMany = ⊥
Stops before after NoMemory = Unit {0}

-- the count of refused calls after one more call
abbrev pub refusals_after : {T : Type 0} → Result T NodeLimit → ℕ → ℕ
refusals_after (Ok c) n = n
refusals_after (Err stop) n = counted n 1
