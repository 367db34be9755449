-- The fields of an applier.
use Rattle.std.specs.Prelude.{◌≡◌, ℕ, ◌+◌, ◌<◌, ◌≤◌, List, length, slice_index_or, vec_capacity}
use Rattle.node_pool.specs.Regions.{Region, IsRegion}
use Rattle.conditions.specs.declared.applier.Applier.TheInside.{Inside}
use Rattle.conditions.specs.declared.applier.Kept.{Kept}
use Rattle.conditions.specs.declared.question.Question.TheVariants.{Number}
use Rattle.conditions.specs.Answers.{IsAnswer}

abbrev pub region_of : Inside → Region
region_of a = a.pool

-- what a place past the end is read as
abbrev pub no_kept : Kept
no_kept = record { question = Number (record { 0 = 0 }); answer = record { 0 = 0 } }

-- each kept result is true
abbrev pub AllTrue : Region → List Kept → Type 0
AllTrue region kept =
    (k : ℕ) → k < length kept → let e = slice_index_or kept k no_kept in IsAnswer region e.question e.answer

-- each result is one of the old ones
abbrev pub EachFrom : List Kept → List Kept → Type 0
EachFrom old new = (k : ℕ) → k < length new → (j : ℕ) × (j < length old) × (slice_index_or new k no_kept ≡ slice_index_or old j no_kept)

-- what always holds of an applier's fields
pub record IsSound (a : Inside) : Type 0 where
  pub region : IsRegion a.pool
  pub slots : length a.kept.items ≡ a.mask + 1
  pub within : a.mask ≤ a.widest
  pub room : a.widest + 1 ≤ vec_capacity a.kept
  pub all_true : AllTrue a.pool a.kept.items
