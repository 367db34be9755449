-- A node is found by its key among those that are there: where the keys differ, exactly the node itself, exactly where it is there.
use Rattle.std.proofs.Common.{◌≡◌, ◌≢◌, ℕ, List, [], ◌∷◌, map, Bool, true, false, Option, Some, None, refl, sym, ap, ◌∙◌}
use Rattle.std.specs.Prelude.{cond, filter, find, bytes_eq}
use Rattle.meaning.proofs.CutTrees.{Each}
use Rattle.meaning.proofs.EachMembers.{each_by}
use Rattle.meaning.proofs.Pairs.{Pairwise}
use Rattle.lifting.specs.Lifting.{Seen, key_seen}
use Rattle.meaning.proofs.EqualityTests.{same_text, other_text}
use Rattle.meaning.proofs.Lists.{each_two}

module _ {A : Type 0} (there : A → Bool) (seen : A → Seen) where
  abbrev pub key_there : A → List ℕ
  key_there n = key_seen (seen n)

  abbrev pub is_found : List ℕ → List A → Option Seen
  is_found key ns = find (λ s. bytes_eq (key_seen s) key) (map seen (filter there ns))

  none_found : (key : List ℕ) (ns : List A) → Each (λ n. key ≢ key_there n) ns → is_found key ns ≡ None
  none_found key [] h = refl
  none_found key (n ∷ ns) h = go (there n) (none_found key ns h.1)
    where
      go : (b : Bool) → is_found key ns ≡ None → find (λ s. bytes_eq (key_seen s) key) (map seen (cond b (n ∷ filter there ns) (filter there ns))) ≡ None
      go true e = ap (λ b. cond b (Some (seen n)) (is_found key ns)) (other_text (key_there n) key (λ f. h.0 (sym f))) ∙ e
      go false e = e

  abbrev pub IsFoundWhereThere : List A → A → Type 0
  IsFoundWhereThere ns n = is_found (key_there n) ns ≡ cond (there n) (Some (seen n)) None

  found_first : (n : A) (ns : List A) → Each (λ m. key_there n ≢ key_there m) ns → IsFoundWhereThere (n ∷ ns) n
  found_first n ns h = go (there n)
    where
      go : (b : Bool) → find (λ s. bytes_eq (key_seen s) (key_there n)) (map seen (cond b (n ∷ filter there ns) (filter there ns))) ≡ cond b (Some (seen n)) None
      go true = ap (λ b. cond b (Some (seen n)) (is_found (key_there n) ns)) (same_text (key_there n))
      go false = none_found (key_there n) ns h

  found_behind : (n m : A) (ns : List A) → key_there n ≢ key_there m → IsFoundWhereThere ns m → IsFoundWhereThere (n ∷ ns) m
  found_behind n m ns d h = go (there n)
    where
      go : (b : Bool) → find (λ s. bytes_eq (key_seen s) (key_there m)) (map seen (cond b (n ∷ filter there ns) (filter there ns))) ≡ cond (there m) (Some (seen m)) None
      go true = ap (λ b. cond b (Some (seen n)) (is_found (key_there m) ns)) (other_text (key_there n) (key_there m) d) ∙ h
      go false = h

  pub each_found_there : (ns : List A) → Pairwise (λ n m. key_there n ≢ key_there m) ns → Each (IsFoundWhereThere ns) ns
  each_found_there [] h = tt
  each_found_there (n ∷ ns) h = (
    found_first n ns h.0,
    each_by (λ m. key_there n ≢ key_there m × IsFoundWhereThere ns m) (IsFoundWhereThere (n ∷ ns)) (λ m f. found_behind n m ns f.0 f.1) ns
        (each_two (λ m. key_there n ≢ key_there m) (IsFoundWhereThere ns) ns h.0 (each_found_there ns h.1)),
  )
