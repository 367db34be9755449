-- A name of the list as the text of an expression: it is that one name, and has no fault.
use Rattle.std.proofs.Common.{◌≡◌, refl, ap, ℕ, suc, ◌<◌, List, [], ◌∷◌, length, Bool, true, false, not, ◌&&◌, ◌||◌, ◌==◌, Option, Some, arith}
use Rattle.std.specs.Prelude.{bytes_eq, nat_le, option_map, if◌then◌else◌}
use Rattle.std.specs.List.{list_all}
use Rattle.std.proofs.lemmas.Bool.Decides.{nat_tests}
use Rattle.std.proofs.lemmas.Grind.{common_steps}
use Rattle.meaning.specs.Texts.{is_word_byte, is_name, is_text, place_of}
use Rattle.meaning.specs.BundlePlaces.{is_among}
use Rattle.meaning.proofs.EmptyLists.{both_true, all_true}

-- ---- what a name is

module _ (s : List ℕ) (is_n : is_name s ≡ true) where
  pub name_has_word_bytes : list_all is_word_byte s ≡ true
  name_has_word_bytes = (both_true _ _ (both_true _ _ (both_true _ _ is_n).0).0).1

-- ---- names as texts

word_byte_is_text : (c : ℕ) → is_word_byte c ≡ true → (nat_le 32 c && not (c == 127)) ≡ true
word_byte_is_text c e = grind (arith, nat_tests, common_steps)

words_are_text : (s : List ℕ) → list_all is_word_byte s ≡ true → is_text s ≡ true
words_are_text [] e = refl
words_are_text (c ∷ cs) e =
    let parts = both_true (is_word_byte c) (list_all is_word_byte cs) e in
    all_true _ _ (word_byte_is_text c parts.0) (words_are_text cs parts.1)

pub name_is_text : (s : List ℕ) → is_name s ≡ true → is_text s ≡ true
name_is_text s e = words_are_text s (name_has_word_bytes s e)

-- ---- names among others

-- the place of one of them
pub place_among : (names : List (List ℕ)) (s : List ℕ) → is_among names s ≡ true → (n : ℕ) × (place_of s names ≡ Some n) × (n < length names)
place_among [] s h = absurd (let e : false ≡ true = h in cc)
place_among (x ∷ xs) s h = go (bytes_eq s x) (is_among xs s) (place_of s xs) (λ i. place_among xs s i) h
  where
    go : (b among : Bool) (o : Option ℕ) → (among ≡ true → (n : ℕ) × (o ≡ Some n) × (n < length xs)) → (b || among) ≡ true
        → (n : ℕ) × ((if b then Some 0 else option_map suc o) ≡ Some n) × (n < suc (length xs))
    go true among o i h = (0, refl, omega arith)
    go false among o i h = let r = i h in (suc r.0, ap (option_map suc) r.1, omega (arith, r.2))
