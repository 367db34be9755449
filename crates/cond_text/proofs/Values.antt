-- The truth value at a place, as code reads it and as the definitions do.
use Rattle.std.proofs.Common.{◌≡◌, refl, ℕ, zero, suc, List, [], ◌∷◌, Bool, false, slice_index_or}
use Rattle.meaning.specs.Texts.{holds_at}

pub value_at_place : (w : List Bool) (n : ℕ) → slice_index_or w n false ≡ holds_at w n
value_at_place [] n = refl
value_at_place (b ∷ bs) zero = refl
value_at_place (b ∷ bs) (suc n) = value_at_place bs n
