-- Names that are new among all of a list differ pair by pair, and the place of a name has that name.
use Rattle.std.proofs.Common.{◌≡◌, ◌≢◌, ℕ, suc, ◌+◌, List, [], ◌∷◌, map, Bool, true, false, not, ◌||◌, Some, None, Option, refl, sym, ap, ◌∙◌}
use Rattle.std.specs.Prelude.{bytes_eq, option_map, if◌then◌else◌}
use Rattle.std.specs.List.{slice_get, list_all, enumerate_from}
use Rattle.meaning.specs.Texts.{numbered, place_of}
use Rattle.meaning.specs.BundlePlaces.{is_among, are_new}
use Rattle.meaning.specs.ModelRules.{is_new_name}
use Rattle.meaning.proofs.CutTrees.{Each}
use Rattle.meaning.proofs.EmptyLists.{both_true}
use Rattle.meaning.proofs.NewNames.{new_names}
use Rattle.meaning.proofs.Members.{Pairwise}
use Rattle.meaning.proofs.EqualityTests.{same_text, equal_texts, none_is_some, some_is}

-- what is new is none of those before
apart_from_seen : (s : List ℕ) (seen ss : List (List ℕ)) → is_among seen s ≡ true → are_new seen ss ≡ true → Each (λ t. s ≢ t) ss
apart_from_seen s seen [] m h = tt
apart_from_seen s seen (t ∷ ss) m h =
    let both : (not (is_among seen t) ≡ true) × (are_new (t ∷ seen) ss ≡ true) = both_true (not (is_among seen t)) (are_new (t ∷ seen) ss) h in
    ((λ e. not_new (is_among seen t) (sym (ap (is_among seen) e) ∙ m) both.0), apart_from_seen s (t ∷ seen) ss (later (bytes_eq s t) m) both.1)
  where
    not_new : (b : Bool) → b ≡ true → not b ≡ true → ⊥
    not_new true e f = cc
    not_new false e f = cc

    later : (b : Bool) → is_among seen s ≡ true → (b || is_among seen s) ≡ true
    later true e = refl
    later false e = e

new_pairs : (seen ss : List (List ℕ)) → are_new seen ss ≡ true → Pairwise (λ s t. s ≢ t) ss
new_pairs seen [] h = tt
new_pairs seen (s ∷ ss) h =
    let both : (not (is_among seen s) ≡ true) × (are_new (s ∷ seen) ss ≡ true) = both_true (not (is_among seen s)) (are_new (s ∷ seen) ss) h in
    (apart_from_seen s (s ∷ seen) ss (ap (λ b. b || is_among seen s) (same_text s)) both.1, new_pairs (s ∷ seen) ss both.1)

all_new : {A : Type 0} (names : List (List ℕ)) (f : A → List ℕ) (k : ℕ) (xs : List A) → Each (λ x. is_new_name names x.0 (f x.1) ≡ true) (enumerate_from k xs)
    → list_all (λ x. is_new_name names x.0 x.1) (enumerate_from k (map f xs)) ≡ true
all_new names f k [] h = refl
all_new names f k (x ∷ xs) h = rw (h.0, all_new names f (k + 1) xs h.1) refl

-- items each of which has a new name
pub names_differ : {A : Type 0} (f : A → List ℕ) (xs : List A) → Each (λ x. is_new_name (map f xs) x.0 (f x.1) ≡ true) (numbered xs) → Pairwise (λ s t. s ≢ t) (map f xs)
names_differ f xs h = new_pairs [] (map f xs) (sym (new_names (map f xs)) ∙ all_new (map f xs) f 0 xs h)

-- the name at the place of a name is that name
pub name_at_place : (s : List ℕ) (names : List (List ℕ)) (n : ℕ) → place_of s names ≡ Some n → slice_get names n ≡ Some s
name_at_place s [] n e = elim (none_is_some n e) [ ]
name_at_place s (x ∷ names) n e = go (bytes_eq s x) refl e (λ m f. name_at_place s names m f)
  where
    later : (o : Option ℕ) → option_map suc o ≡ Some n → ((m : ℕ) → o ≡ Some m → slice_get names m ≡ Some s) → slice_get (x ∷ names) n ≡ Some s
    later None f h = elim (none_is_some n f) [ ]
    later (Some m) f h = ap (slice_get (x ∷ names)) (sym (some_is (suc m) n f)) ∙ h m refl

    go : (b : Bool) → bytes_eq s x ≡ b → (if b then Some 0 else option_map suc (place_of s names)) ≡ Some n
        → ((m : ℕ) → place_of s names ≡ Some m → slice_get names m ≡ Some s) → slice_get (x ∷ names) n ≡ Some s
    go true f g h = ap (slice_get (x ∷ names)) (sym (some_is 0 n g)) ∙ ap Some (sym (equal_texts s x f))
    go false f g h = later (place_of s names) g h
