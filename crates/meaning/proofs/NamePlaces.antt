-- A place among names is there where the name is.
use Rattle.std.proofs.Common.{◌≡◌, refl, ℕ, suc, List, [], ◌∷◌, Bool, true, false, ◌||◌, Option, Some, None}
use Rattle.std.specs.Prelude.{bytes_eq, is_some, option_map, if◌then◌else◌}
use Rattle.meaning.specs.Texts.{place_of}
use Rattle.meaning.specs.BundlePlaces.{is_among}

pub some_place : (names : List (List ℕ)) (s : List ℕ) → is_some (place_of s names) ≡ is_among names s
some_place [] s = refl
some_place (x ∷ xs) s = go (bytes_eq s x) (place_of s xs) (is_among xs s) (some_place xs s)
  where
    go : (b : Bool) (o : Option ℕ) (a : Bool) → is_some o ≡ a → is_some (if b then Some 0 else option_map suc o) ≡ (b || a)
    go true o a e = refl
    go false None a e = e
    go false (Some n) a e = e
