-- The limit that diagrams are opened with, what they are opened for and left as, and what a reached limit tells.
use Rattle.std.specs.Prelude.{◌≡◌, ℕ, ◌<◌, ◌≤◌, List, Bool, true, not, ◌==◌, Option, Some}
use Rattle.meaning.specs.Counts.{Rose}
use Rattle.meaning.specs.Bounds.{always_enough}
use Rattle.meaning.specs.Words.{Task, files_of}
use Rattle.meaning.specs.TopCall.{Outside, Diagrams, AgreeWith, OpensFor}
use Rattle.conditions.specs.Diagrams.{State}
use Rattle.workbench.specs.BuildingStage.{building_cases}

-- what the definitions see of diagrams
abbrev pub diagrams_of : State → Diagrams
diagrams_of s = record {
  is_open = not (s.region.limit == 0);
  limit = s.region.limit;
  features = s.region.vars;
  asked = s.asked;
  refused = s.refused;
  taken = s.taken;
}

-- a limit that diagrams may have
pub record IsLimit (limit : ℕ) : Type 0 where
  pub some : 1 ≤ limit
  pub few : limit ≤ 1048576

-- this holds of diagrams that are open
abbrev pub IfOpen : Diagrams → Type 0 → Type 0
IfOpen new Holds = new.is_open ≡ true → Holds

-- diagrams are open, or are shut, where that is told
abbrev pub LeftAs : Option Bool → Diagrams → Type 0
LeftAs told new = (b : Bool) → told ≡ Some b → new.is_open ≡ b

-- diagrams were opened with this limit over so many features
pub record OpenedOver (limit features : ℕ) (new : Diagrams) : Type 0 where
  pub with_limit : new.limit ≡ limit
  pub over : new.features ≡ features

-- diagrams were opened with this limit for a task on files with these bytes
pub record OpenedForFiles (task : Task) (files : List (List ℕ)) (limit : ℕ) (new : Diagrams) : Type 0 where
  pub with_limit : new.limit ≡ limit
  pub opens : OpensFor building_cases task files new.features

-- the same on files whose bytes agree with what the shelf tells
pub record OpenedForTask (task : Task) (before : Outside) (limit : ℕ) (new : Diagrams) : Type 0 where
  pub files : List (List ℕ)
  pub agree : AgreeWith before (files_of task) files
  pub opened : OpenedForFiles task files limit new

-- a call was refused in open diagrams at their limit, which is told. Over at most 4 features that limit is less than is always enough
pub record MeetsLimit (old new : Diagrams) (used : ℕ) : Type 0 where
  pub is_open : new.is_open ≡ true
  pub used_all : used ≡ new.limit
  pub cause : Rose old.refused new.refused
  pub few : new.features ≤ 4 → new.limit < always_enough
