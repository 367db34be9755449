-- Keys by their steps: a key below another is the other, a slash, and a step.
use Rattle.std.specs.Prelude.{◌≡◌, ℕ, ◌<◌, ◌^◌, List, [], ◌∷◌, ◌++◌, map, Option, None, Some, decimal, ⊤}
use Rattle.std.specs.List.{join_with_byte}
use Rattle.meaning.proofs.CutTrees.{Each}

-- the number of the lower node, behind the answer's elements where it is one of an answer's
abbrev pub step_text : Option (List ℕ) → ℕ → List ℕ
step_text None n = decimal n
step_text (Some answer) n = join_with_byte 46 (map decimal answer) ++ 58 ∷ decimal n

abbrev pub key_under : List ℕ → List ℕ → List ℕ
key_under key step = key ++ 47 ∷ step

-- numbers that decimals tell apart
abbrev pub IsSmall : ℕ → Type 0
IsSmall n = n < 2 ^ 64

abbrev pub IsSmallAnswer : Option (List ℕ) → Type 0
IsSmallAnswer None = ⊤
IsSmallAnswer (Some answer) = Each IsSmall answer

-- nothing, or something that begins with a slash
abbrev pub GoesOn : List ℕ → Type 0
GoesOn [] = ⊤
GoesOn (c ∷ cs) = c ≡ 47

-- a key that is this one or lies below it
pub record IsUnder (key other : List ℕ) : Type 0 where
  pub rest : List ℕ
  pub is : other ≡ key ++ rest
  pub goes_on : GoesOn rest
