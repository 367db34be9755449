-- For private clauses: that texts are new, told from the first one on.
use Rattle.std.specs.Prelude.{ℕ, List, [], ◌∷◌, ◌++◌, Bool, true, not, ◌&&◌, ◌||◌}
use Rattle.meaning.specs.BundlePlaces.{is_among}

-- no text stands twice, nor among those given before, nor among those met since, which stand in their order
abbrev pub are_new_after : List (List ℕ) → List (List ℕ) → List (List ℕ) → Bool
are_new_after before met [] = true
are_new_after before met (s ∷ ss) = not (is_among before s || is_among met s) && are_new_after before (met ++ s ∷ []) ss
