-- Pieces of a file, and the numbers of calls.
use Rattle.std.specs.Prelude.{◌≡◌, ◌⊎◌, ◌≤◌, ℕ, List, length, take, drop, Bool, nat_eq}
use Rattle.std.specs.List.{list_any}

-- a read begins at the front, or goes on where the last one ended
abbrev pub IsPlace : ℕ → ℕ → Type 0
IsPlace from next = (from ≡ 0) ⊎ (from ≡ next)

-- the front of the buffer has n bytes of the file from a place on, and none only at the end
pub record IsPart (file : List ℕ) (from n : ℕ) (buf : List ℕ) : Type 0 where
  pub bytes : take n buf ≡ take n (drop from file)
  pub at_end : n ≡ 0 → length file ≤ from

-- the bytes begin the file
pub record IsFront (file bytes : List ℕ) : Type 0 where
  pub fits : length bytes ≤ length file
  pub same : bytes ≡ take (length bytes) file

-- a number is in a list
abbrev pub is_listed : List ℕ → ℕ → Bool
is_listed numbers n = list_any (λ m. nat_eq m n) numbers
