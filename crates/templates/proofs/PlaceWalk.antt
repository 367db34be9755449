-- How the place of a text is found among the texts that the items of a list give.
use Rattle.std.proofs.Common.{◌≡◌, refl, sym, ap, ◌∙◌, ℕ, suc, ◌+◌, ◌<◌, ◌≤◌, List, [], ◌∷◌, length, map, drop, get_or, Bool, true, false, Option, Some, None, arith}
use Rattle.std.specs.Prelude.{option_map, bytes_eq, if◌then◌else◌}
use Rattle.std.proofs.lemmas.List.{drop_more, drop_all}
use Rattle.meaning.specs.Texts.{place_of}
use Rattle.annotated_model.specs.declared.data.TypeDef.{TypeDef}
use Rattle.annotated_model.specs.View.{type_view}

from_start : (o : Option ℕ) → option_map (λ k. 0 + k) o ≡ o
from_start None = refl
from_start (Some k) = ap Some (let f : 0 + k ≡ k = omega arith in f)

one_further : (i : ℕ) (o : Option ℕ) → option_map (λ k. i + k) (option_map suc o) ≡ option_map (λ k. i + 1 + k) o
one_further i None = refl
one_further i (Some k) = ap Some (let f : i + suc k ≡ i + 1 + k = omega arith in f)

module _ {X : Type 0} (f : X → List ℕ) (s : List ℕ) (xs : List X) where
  -- the text isn't among those before the place
  abbrev pub NotBefore : ℕ → Type 0
  NotBefore i = option_map (λ k. i + k) (place_of s (map f (drop i xs))) ≡ place_of s (map f xs)

  pub place_begins : NotBefore 0
  place_begins = from_start (place_of s (map f xs))

  next : (i : ℕ) (x : X) → i < length xs → x ≡ get_or xs i x → (b : Bool) → bytes_eq s (f x) ≡ b
      → place_of s (map f (drop i xs)) ≡ (if b then Some 0 else option_map suc (place_of s (map f (drop (i + 1) xs))))
  next i x inside is b same =
      ap (λ ys. place_of s (map f ys)) (drop_more xs i x inside ∙ ap (λ y. y ∷ drop (i + 1) xs) (sym is))
      ∙ ap (λ c. if c then Some 0 else option_map suc (place_of s (map f (drop (i + 1) xs)))) same

  pub place_here : (i : ℕ) (x : X) → i < length xs → x ≡ get_or xs i x → bytes_eq s (f x) ≡ true → NotBefore i → Some i ≡ place_of s (map f xs)
  place_here i x inside is same before =
      ap Some (let e : i ≡ i + 0 = omega arith in e) ∙ (sym (ap (option_map (λ k. i + k)) (next i x inside is true same)) ∙ before)

  pub place_later : (i : ℕ) (x : X) → i < length xs → x ≡ get_or xs i x → bytes_eq s (f x) ≡ false → NotBefore i → NotBefore (i + 1)
  place_later i x inside is other before =
      sym (one_further i (place_of s (map f (drop (i + 1) xs)))) ∙ (sym (ap (option_map (λ k. i + k)) (next i x inside is false other)) ∙ before)

  pub place_nowhere : (i : ℕ) → length xs ≤ i → NotBefore i → None ≡ place_of s (map f xs)
  place_nowhere i past before = sym (ap (λ ys. option_map (λ k. i + k) (place_of s (map f ys))) (drop_all i xs past)) ∙ before

-- the names of types, as the code has them and as the definitions do
pub names_of_types : (ts : List TypeDef) → map (λ t. t.name) ts ≡ map (λ d. d.name) (map type_view ts)
names_of_types [] = refl
names_of_types (t ∷ ts) = ap (λ ns. t.name ∷ ns) (names_of_types ts)
