-- Places of names in a list.
use Rattle.std.proofs.Common.{◌≡◌, ◌∙◌, refl, ap, subst, ℕ, zero, suc, ◌<◌, List, [], ◌∷◌, ◌++◌, length, Bool, true, false, Option, Some, None, slice_get}
use Rattle.std.specs.Prelude.{option_map, if◌then◌else◌, ◌||◌, is_some, bytes_eq}
use Rattle.std.specs.List.{list_any}
use Rattle.std.proofs.lemmas.Slice.Eq.{bytes_eq-Decides}
use Rattle.meaning.specs.Texts.{place_of}
use Rattle.std.proofs.lemmas.Option.{slice_get_within}
use Rattle.feature_model.specs.Contents.{IsBelow}
use Rattle.meaning.proofs.GrammarLaw.{map_some}

-- the name stands at its place
pub place_is : (names : List (List ℕ)) (s : List ℕ) (k : ℕ) → place_of s names ≡ Some k → slice_get names k ≡ Some s
place_is [] s k e = absurd cc
place_is (x ∷ xs) s k e = go (bytes_eq s x) refl k e (place_is xs s)
  where
    go : (b : Bool) → bytes_eq s x ≡ b → (k : ℕ) → (if b then Some 0 else option_map suc (place_of s xs)) ≡ Some k
        → ((j : ℕ) → place_of s xs ≡ Some j → slice_get xs j ≡ Some s) → slice_get (x ∷ xs) k ≡ Some s
    go true is zero e later = let same : s ≡ x = (bytes_eq-Decides s x).0 is in ap Some (let t : x ≡ s = cc in t)
    go true is (suc k) e later = absurd cc
    go false is zero e later = let r = map_some suc (place_of s xs) 0 e in absurd (let n : suc r.0 ≡ zero = r.2 in cc)
    go false is (suc k) e later = let r = map_some suc (place_of s xs) (suc k) e in let n : r.0 ≡ k = (let m : suc r.0 ≡ suc k = r.2 in cc) in later k (subst (λ j. place_of s xs ≡ Some j) n r.1)

-- a name with a place is one of the list, and one without is none
pub among_placed : (names : List (List ℕ)) (s : List ℕ) (k : ℕ) → place_of s names ≡ Some k → list_any (bytes_eq s) names ≡ true
among_placed [] s k e = absurd cc
among_placed (x ∷ xs) s k e = go (bytes_eq s x) refl k e (among_placed xs s)
  where
    go : (b : Bool) → bytes_eq s x ≡ b → (k : ℕ) → (if b then Some 0 else option_map suc (place_of s xs)) ≡ Some k
        → ((j : ℕ) → place_of s xs ≡ Some j → list_any (bytes_eq s) xs ≡ true) → list_any (bytes_eq s) (x ∷ xs) ≡ true
    go true is k e later = rw is refl
    go false is k e later = let r = map_some suc (place_of s xs) k e in rw is (later r.0 r.1)

pub none_placed : (names : List (List ℕ)) (s : List ℕ) → place_of s names ≡ None → list_any (bytes_eq s) names ≡ false
none_placed [] s e = refl
none_placed (x ∷ xs) s e = go (bytes_eq s x) refl e (none_placed xs s)
  where
    no_later : (o : Option ℕ) → option_map suc o ≡ None → o ≡ None
    no_later None e = refl
    no_later (Some n) e = absurd cc

    go : (b : Bool) → bytes_eq s x ≡ b → (if b then Some 0 else option_map suc (place_of s xs)) ≡ None
        → (place_of s xs ≡ None → list_any (bytes_eq s) xs ≡ false) → list_any (bytes_eq s) (x ∷ xs) ≡ false
    go true is e later = absurd cc
    go false is e later = rw is (later (no_later (place_of s xs) e))

pub among_is : (names : List (List ℕ)) (s : List ℕ) → list_any (bytes_eq s) names ≡ is_some (place_of s names)
among_is [] s = refl
among_is (x ∷ xs) s = go (bytes_eq s x) (among_is xs s)
  where
    later_some : (o : Option ℕ) → is_some o ≡ is_some (option_map suc o)
    later_some None = refl
    later_some (Some n) = refl

    go : (b : Bool) → list_any (bytes_eq s) xs ≡ is_some (place_of s xs) → (b || list_any (bytes_eq s) xs) ≡ is_some (if b then Some 0 else option_map suc (place_of s xs))
    go true later = refl
    go false later = later ∙ later_some (place_of s xs)

-- a place is in the list
pub place_within : (names : List (List ℕ)) (s : List ℕ) (k : ℕ) → place_of s names ≡ Some k → k < length names
place_within names s k e = slice_get_within names k s (place_is names s k e)

pub below_placed : (names : List (List ℕ)) (s : List ℕ) → IsBelow (length names) (place_of s names)
below_placed names s = go (place_of s names) refl
  where
    go : (o : Option ℕ) → place_of s names ≡ o → IsBelow (length names) o
    go None e = tt
    go (Some k) e = place_within names s k e

-- what is found is found in a longer list too
pub place_stays : (names more : List (List ℕ)) (s : List ℕ) (k : ℕ) → place_of s names ≡ Some k → place_of s (names ++ more) ≡ Some k
place_stays [] more s k e = absurd cc
place_stays (x ∷ xs) more s k e = go (bytes_eq s x) k e (place_stays xs more s)
  where
    go : (b : Bool) (k : ℕ) → (if b then Some 0 else option_map suc (place_of s xs)) ≡ Some k → ((j : ℕ) → place_of s xs ≡ Some j → place_of s (xs ++ more) ≡ Some j)
        → (if b then Some 0 else option_map suc (place_of s (xs ++ more))) ≡ Some k
    go true k e later = e
    go false k e later = let r = map_some suc (place_of s xs) k e in rw (later r.0 r.1) (ap Some r.2)
