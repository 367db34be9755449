-- The place of a name in a list of texts, as a set of keys tells it and as the definitions do.
use Rattle.std.proofs.Common.{◌≡◌, ◌∙◌, sym, ap, subst, refl, ℕ, zero, suc, ◌+◌, ◌<◌, List, [], ◌∷◌, ◌++◌, length, Bool, true, false, Option, Some, None, slice_get, get_or, map, arith}
use Rattle.std.specs.Prelude.{option_map, if◌then◌else◌, bytes_eq, nat_lt, position}
use Rattle.std.specs.List.{position_or_len, list_any, IsDistinct, AllByRecursion}
use Rattle.std.proofs.lemmas.Bool.Decides.{nat_tests}
use Rattle.std.proofs.lemmas.Bool.{true≢false}
use Rattle.std.proofs.lemmas.Slice.Eq.{bytes_eq-Decides}
use Rattle.indexmap.specs.IndexSet.{insert_key}
use Rattle.std.proofs.lemmas.List.{length-map, map-append}
use Rattle.std.proofs.lemmas.Option.{slice_get-map, slice_get-get_or}
use Rattle.meaning.specs.Texts.{place_of}

no_later : (o : Option ℕ) → option_map suc o ≡ None → o ≡ None
no_later None e = refl
no_later (Some n) e = absurd cc

module _ {X : Type 0} (text : X → List ℕ) where
  place_or_len : (w : List ℕ) → List X → Option ℕ
  place_or_len w xs = let n = position_or_len (λ x. bytes_eq w (text x)) xs in if nat_lt n (length xs) then Some n else None

  one_later : (n m : ℕ) → (if nat_lt (1 + n) (suc m) then Some (1 + n) else None) ≡ option_map suc (if nat_lt n m then Some n else None)
  one_later n m = go (nat_lt n m) (let e : nat_lt (1 + n) (suc m) ≡ nat_lt n m = grind (arith, nat_tests) in e)
    where
      go : (b : Bool) → nat_lt (1 + n) (suc m) ≡ b → (if nat_lt (1 + n) (suc m) then Some (1 + n) else None) ≡ option_map suc (if b then Some n else None)
      go true e = rw e (ap Some (let f : 1 + n ≡ suc n = omega arith in f))
      go false e = rw e refl

  pub position_is_place : (w : List ℕ) (xs : List X) → position (λ x. bytes_eq w (text x)) xs ≡ place_of w (map text xs)
  position_is_place w [] = refl
  position_is_place w (x ∷ xs) = go (bytes_eq w (text x)) refl (position_is_place w xs)
    where
      go : (b : Bool) → bytes_eq w (text x) ≡ b → position (λ y. bytes_eq w (text y)) xs ≡ place_of w (map text xs)
          → position (λ y. bytes_eq w (text y)) (x ∷ xs) ≡ (if b then Some 0 else option_map suc (place_of w (map text xs)))
      go true e later = rw e (let f : nat_lt 0 (suc (length xs)) ≡ true = grind (arith, nat_tests) in rw f refl)
      go false e later = rw e (one_later (position_or_len (λ y. bytes_eq w (text y)) xs) (length xs) ∙ ap (option_map suc) later)

  differs_at : (w : List ℕ) (xs : List X) → AllByRecursion (λ y. bytes_eq w (text y) ≡ false) xs
      → (number : ℕ) (name : List ℕ) → slice_get (map text xs) number ≡ Some name → bytes_eq w name ≡ false
  differs_at w [] all number name e = absurd cc
  differs_at w (x ∷ xs) all zero name e = let same : text x ≡ name = cc in ap (bytes_eq w) (sym same) ∙ all.0
  differs_at w (x ∷ xs) all (suc number) name e = differs_at w xs all.1 number name e

  pub distinct_places : (xs : List X) → IsDistinct (λ x y. bytes_eq (text x) (text y)) xs
      → (number : ℕ) (name : List ℕ) → slice_get (map text xs) number ≡ Some name → place_of name (map text xs) ≡ Some number
  unfolding IsDistinct
  distinct_places [] all number name e = absurd cc
  distinct_places (x ∷ xs) all zero name e =
      let same : name ≡ text x = cc in
      let is : bytes_eq name (text x) ≡ true = (bytes_eq-Decides name (text x)).1 same in rw is refl
  distinct_places (x ∷ xs) all (suc number) name e = go (bytes_eq name (text x)) refl (distinct_places xs all.1 number name e)
    where
      go : (b : Bool) → bytes_eq name (text x) ≡ b → place_of name (map text xs) ≡ Some number
          → (if b then Some 0 else option_map suc (place_of name (map text xs))) ≡ Some (suc number)
      go true is later =
          absurd (true≢false (sym ((bytes_eq-Decides (text x) name).1 (sym ((bytes_eq-Decides name (text x)).0 is))) ∙ differs_at (text x) xs all.0 number name e))
      go false is later = ap (option_map suc) later

  -- a text that has no place is none of the list, and its place is the end
  absent : (w : List ℕ) (xs : List X) → place_of w (map text xs) ≡ None
      → (list_any (λ y. bytes_eq w (text y)) xs ≡ false) × (position_or_len (λ y. bytes_eq w (text y)) xs ≡ length xs)
  absent w [] e = (refl, refl)
  absent w (x ∷ xs) e = go (bytes_eq w (text x)) refl e (absent w xs)
    where
      go : (b : Bool) → bytes_eq w (text x) ≡ b → (if b then Some 0 else option_map suc (place_of w (map text xs))) ≡ None
          → (place_of w (map text xs) ≡ None → (list_any (λ y. bytes_eq w (text y)) xs ≡ false) × (position_or_len (λ y. bytes_eq w (text y)) xs ≡ length xs))
          → (list_any (λ y. bytes_eq w (text y)) (x ∷ xs) ≡ false) × (position_or_len (λ y. bytes_eq w (text y)) (x ∷ xs) ≡ suc (length xs))
      go true is none later = absurd cc
      go false is none later =
          let r = later (no_later (place_of w (map text xs)) none) in
          (rw is r.0, rw is (ap (λ n. 1 + n) r.1 ∙ (let f : 1 + length xs ≡ suc (length xs) = omega arith in f)))

  pub added_last : (keys new : List X) (x : X) (w : List ℕ) (number : ℕ) → text x ≡ w → place_of w (map text keys) ≡ None
      → new ≡ insert_key (λ y z. bytes_eq (text y) (text z)) keys x → number ≡ position_or_len (λ y. bytes_eq (text x) (text y)) keys
      → (number ≡ length (map text keys)) × (map text new ≡ map text keys ++ w ∷ [])
  added_last keys new x w number is none becomes at =
      let r = absent (text x) keys (subst (λ v. place_of v (map text keys) ≡ None) (sym is) none) in (
        at ∙ (r.1 ∙ sym (length-map keys text)),
        ap (map text) (becomes ∙ ap (λ b. if b then keys else keys ++ x ∷ []) r.0) ∙ (map-append text keys (x ∷ []) ∙ ap (λ v. map text keys ++ v ∷ []) is),
      )

  -- the text of a key is found at the key's place
  pub place_of_key : (keys : List X) (number : ℕ) (x : X) → IsDistinct (λ y z. bytes_eq (text y) (text z)) keys → number < length (map text keys)
      → x ≡ get_or keys number x → place_of (text x) (map text keys) ≡ Some number
  place_of_key keys number x distinct inside is =
      let below : number < length keys = subst (λ n. number < n) (length-map keys text) inside in
      distinct_places keys distinct number (text x)
      (slice_get-map text keys number ∙ ap (option_map text) (slice_get-get_or keys number x below ∙ ap Some (sym is)))
