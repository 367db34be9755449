-- That no text stands twice, told from the first one on; and a set of texts.
use Rattle.std.proofs.Common.{◌≡◌, refl, sym, ap, ◌∙◌, ℕ, List, [], ◌∷◌, ◌++◌, map, Bool, true, false}
use Rattle.std.specs.Prelude.{◌||◌, not, bytes_eq, if◌then◌else◌}
use Rattle.std.specs.List.{list_any}
use Rattle.std.proofs.lemmas.List.{map-append}
use Rattle.std.proofs.lemmas.List.Folds.{list_any-append}
use Rattle.indexmap.specs.IndexSet.{insert_key}
use Rattle.meaning.specs.BundlePlaces.{is_among, are_new}
use Rattle.annotated_model.specs.NewTexts.{are_new_after}

or_turned : (a b c : Bool) → (a || (b || c)) ≡ (b || (c || a))
or_turned true true c = refl
or_turned true false true = refl
or_turned true false false = refl
or_turned false true c = refl
or_turned false false true = refl
or_turned false false false = refl

or_false : (a : Bool) → (a || false) ≡ a
or_false true = refl
or_false false = refl

-- the first list has the texts of the other two
abbrev HasBoth : List (List ℕ) → List (List ℕ) → List (List ℕ) → Type 0
HasBoth all before met = (s : List ℕ) → is_among all s ≡ (is_among before s || is_among met s)

one_more : (all before met : List (List ℕ)) (s : List ℕ) → HasBoth all before met → HasBoth (s ∷ all) before (met ++ s ∷ [])
one_more all before met s both t =
    ap (λ b. bytes_eq t s || b) (both t) ∙ or_turned (bytes_eq t s) (is_among before t) (is_among met t)
    ∙ ap (λ b. is_among before t || b) (sym (list_any-append (bytes_eq t) met (s ∷ []) ∙ ap (λ b. is_among met t || b) (or_false (bytes_eq t s))))

new_after : (all before met ss : List (List ℕ)) → HasBoth all before met → are_new all ss ≡ are_new_after before met ss
new_after all before met [] both = refl
new_after all before met (s ∷ ss) both = rw (both s, new_after (s ∷ all) before (met ++ s ∷ []) ss (one_more all before met s both)) refl

pub are_new_is : (before ss : List (List ℕ)) → are_new before ss ≡ are_new_after before [] ss
are_new_is before ss = new_after before before [] ss (λ s. sym (or_false (is_among before s)))

-- ---- a set whose keys have texts

module _ {X : Type 0} (text : X → List ℕ) where
  pub among_keys : (s : List ℕ) (xs : List X) → list_any (λ y. bytes_eq s (text y)) xs ≡ is_among (map text xs) s
  among_keys s [] = refl
  among_keys s (x ∷ xs) = ap (λ b. bytes_eq s (text x) || b) (among_keys s xs)

  -- the set is longer by a new key
  pub added : (keys new : List X) (x : X) → new ≡ insert_key (λ y z. bytes_eq (text y) (text z)) keys x
      → is_among (map text keys) (text x) ≡ false → map text new ≡ map text keys ++ text x ∷ []
  added keys new x is absent =
      ap (map text) (is ∙ ap (λ b. if b then keys else keys ++ x ∷ []) (among_keys (text x) keys ∙ absent)) ∙ map-append text keys (x ∷ [])

pub not_true : (b : Bool) → not b ≡ true → b ≡ false
not_true true e = sym e
not_true false e = refl
