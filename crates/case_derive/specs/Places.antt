-- The numbers of marked items among the marked.
use Rattle.std.specs.Prelude.{◌≡◌, ℕ, ◌<◌, List, length, take, Bool, Option, Some, None, count_by, slice_index, if◌then◌else◌}
use Rattle.meaning.specs.Texts.{holds_at}

-- how many are marked before a place
abbrev pub marked_before : List Bool → ℕ → ℕ
marked_before marks i = count_by (λ b. b) (take i marks)

-- the number of a marked item
abbrev pub place_at : List Bool → ℕ → Option ℕ
place_at marks i = if holds_at marks i then Some (marked_before marks i) else None

-- a number for each item: how many are marked before it
pub record IsNumbered (marks : List Bool) (numbers : List ℕ) : Type 0 where
  pub all : length numbers ≡ length marks
  pub each : (i : ℕ) → i < length marks → slice_index numbers i ≡ marked_before marks i
