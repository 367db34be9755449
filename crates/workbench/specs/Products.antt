-- Diagrams over the products of a line, and why a case of all of them isn't built.
use Rattle.std.specs.Prelude.{◌≡◌, ◌≤◌, List, Bool, length}
use Rattle.meaning.specs.Features.{feature_names, is_valid}
use Rattle.meaning.specs.Tidy.{ValidWorld}
use Rattle.meaning.specs.Derivation.{Bundle}
use Rattle.meaning.specs.Answers.{IsBuildAnswer, ShowsCase}
use Rattle.worlds.specs.Algebra.{Raised}
use Rattle.conditions.specs.Diagrams.{State, algebra_of}
use Rattle.workbench.specs.declared.status.Status.{Status}
use Rattle.workbench.specs.declared.status.Status.TheVariants as status
use Rattle.workbench.specs.BuildingStage.{building_cases}
use Rattle.workbench.specs.Run.{Refuses}

-- the worlds are the valid ones of the bundle's line, and there is one
pub record HasProducts (b : Bundle) (s : State) : Type 0 where
  pub count : s.region.vars ≡ length (feature_names b.line)
  pub worlds : (w : List Bool) → (algebra_of s).is_world w ≡ is_valid b.line w
  pub product : ValidWorld b

-- the same number of features and the same limit, and no refusal is forgotten
pub record SameLimits (old new : State) : Type 0 where
  pub vars : new.region.vars ≡ old.region.vars
  pub limit : new.region.limit ≡ old.region.limit
  pub refused : old.refused ≤ new.refused

-- why there is no case: a condition was refused, which tells the limit, or else this is the answer
abbrev pub StopsOver : Bundle → (old new : State) → Status → Type 0
StopsOver b old new (status.NodeLimit used) = (used ≡ old.region.limit) × Raised old.refused new.refused
StopsOver b old new s = Refuses (IsBuildAnswer building_cases b ShowsCase) s
