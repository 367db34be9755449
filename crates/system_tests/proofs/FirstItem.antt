-- A list that isn't empty has a first item.
use Rattle.std.proofs.Common.{◌≡◌, ◌<◌, refl, List, [], ◌∷◌, length, Some, arith}
use Rattle.std.specs.List.{slice_get}

pub record IsFirst {A : Type 0} (xs : List A) : Type 0 where
  pub item : A
  pub stands : slice_get xs 0 ≡ Some item

pub first_item : {A : Type 0} (xs : List A) → 0 < length xs → IsFirst xs
first_item [] h = absurd (omega (arith, h))
first_item (x ∷ xs) h = record { item = x; stands = refl }
