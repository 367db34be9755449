-- Counts of what happened outside the program, and the bytes that a sink got.
-- A count is kept in 64 bits and stands still at the greatest.
use Rattle.std.specs.Prelude.{◌≡◌, ℕ, ◌<◌, ◌≤◌, ◌+◌, ◌^◌, ◌-◌, ◌⊎◌, min, List, ◌++◌, Option, Some, None}

abbrev pub greatest_count : ℕ
greatest_count = 2 ^ 64 - 1

-- the count after n more
abbrev pub counted : ℕ → ℕ → ℕ
counted old n = min (old + n) greatest_count

-- the count went up in a call, or stands at the greatest
pub record Rose (old new : ℕ) : Type 0 where
  pub is : (old < new) ⊎ (new ≡ greatest_count)

-- the count went up by n or more, or stands at the greatest
pub record RoseBy (old new n : ℕ) : Type 0 where
  pub is : (old + n ≤ new) ⊎ (new ≡ greatest_count)

-- no name's count fell
pub record NoFewer (old new : List ℕ → ℕ) : Type 0 where
  pub at : (name : List ℕ) → old name ≤ new name

-- the known bytes, and then more; nothing is known of a sink that doesn't tell
abbrev pub appended : Option (List ℕ) → List ℕ → Option (List ℕ)
appended None more = None
appended (Some bytes) more = Some (bytes ++ more)

-- ---- numbers that are told

-- a place, a row, an item or a step as it is told: past the greatest number of 32 bits it is that number
abbrev pub capped : ℕ → ℕ
capped n = min n 4294967295
