-- The numbers of kinds, types, variables and attributes by their names.
use Rattle.std.proofs.Common.{◌≡◌, ◌∙◌, sym, ap, refl, ℕ, zero, suc, ◌+◌, List, [], ◌∷◌, ◌++◌, length, map, Bool, true, false, Option, Some, None, arith}
use Rattle.std.specs.Prelude.{position, bytes_eq, option_map, if◌then◌else◌}
use Rattle.meaning.specs.Texts.{place_of}
use Rattle.annotated_model.specs.declared.data.LinkKind.{LinkKind}
use Rattle.annotated_model.specs.declared.data.TypeDef.{TypeDef}
use Rattle.annotated_model.specs.View.{kind_view, type_view}
use Rattle.meaning.specs.Models as meaning
use Rattle.cond_text.proofs.NamePlaces.{position_is_place}

names_of_kinds : (xs : List LinkKind) → map (λ k. k.name) (map kind_view xs) ≡ map (λ k. k.name) xs
names_of_kinds [] = refl
names_of_kinds (x ∷ xs) = ap (λ ns. x.name ∷ ns) (names_of_kinds xs)

pub kind_placed : (w : List ℕ) (xs : List LinkKind) (kinds : List meaning.LinkKind) → map kind_view xs ≡ kinds
    → position (λ k. bytes_eq w k.name) xs ≡ place_of w (map (λ k. k.name) kinds)
kind_placed w xs kinds e =
    position_is_place (λ k. k.name) w xs ∙ ap (place_of w) (sym (names_of_kinds xs) ∙ ap (map (λ k. k.name)) e)

names_of_types : (xs : List TypeDef) → map (λ t. t.name) (map type_view xs) ≡ map (λ t. t.name) xs
names_of_types [] = refl
names_of_types (x ∷ xs) = ap (λ ns. x.name ∷ ns) (names_of_types xs)

pub type_placed : (w : List ℕ) (xs : List TypeDef) (types : List meaning.TypeDef) → map type_view xs ≡ types
    → position (λ t. bytes_eq w t.name) xs ≡ place_of w (map (λ t. t.name) types)
type_placed w xs types e =
    position_is_place (λ t. t.name) w xs ∙ ap (place_of w) (sym (names_of_types xs) ∙ ap (map (λ t. t.name)) e)

-- ---- variables

pub variable_placed : (w : List ℕ) (xs : List (List ℕ × ℕ)) → position (λ v. bytes_eq w v.0) xs ≡ place_of w (map (λ v. v.0) xs)
variable_placed w xs = position_is_place (λ v. v.0) w xs

module _ (w : List ℕ) where
  pub place_first : (xs ys : List (List ℕ × ℕ)) (n : ℕ) → place_of w (map (λ v. v.0) xs) ≡ Some n → place_of w (map (λ v. v.0) (xs ++ ys)) ≡ Some n
  place_first [] ys n e = absurd cc
  place_first (x ∷ xs) ys n e = go (bytes_eq w x.0) (place_of w (map (λ v. v.0) xs)) (λ k f. place_first xs ys k f) e
    where
      go : (b : Bool) (o : Option ℕ) → ((k : ℕ) → o ≡ Some k → place_of w (map (λ v. v.0) (xs ++ ys)) ≡ Some k)
          → (if b then Some 0 else option_map suc o) ≡ Some n → (if b then Some 0 else option_map suc (place_of w (map (λ v. v.0) (xs ++ ys)))) ≡ Some n
      go true o later e = e
      go false None later e = absurd cc
      go false (Some k) later e = ap (option_map suc) (later k refl) ∙ e

  pub place_later : (xs ys : List (List ℕ × ℕ)) → place_of w (map (λ v. v.0) xs) ≡ None
      → place_of w (map (λ v. v.0) (xs ++ ys)) ≡ option_map (λ n. length xs + n) (place_of w (map (λ v. v.0) ys))
  place_later [] ys e = same (place_of w (map (λ v. v.0) ys))
    where
      same : (o : Option ℕ) → o ≡ option_map (λ n. 0 + n) o
      same None = refl
      same (Some n) = ap Some (let f : n ≡ 0 + n = omega arith in f)
  place_later (x ∷ xs) ys e = go (bytes_eq w x.0) (place_of w (map (λ v. v.0) xs)) (place_later xs ys) e
    where
      shifted : (o : Option ℕ) → option_map suc (option_map (λ n. length xs + n) o) ≡ option_map (λ n. suc (length xs) + n) o
      shifted None = refl
      shifted (Some n) = ap Some (let f : suc (length xs + n) ≡ suc (length xs) + n = omega arith in f)

      go : (b : Bool) (o : Option ℕ) → (o ≡ None → place_of w (map (λ v. v.0) (xs ++ ys)) ≡ option_map (λ n. length xs + n) (place_of w (map (λ v. v.0) ys)))
          → (if b then Some 0 else option_map suc o) ≡ None
          → (if b then Some 0 else option_map suc (place_of w (map (λ v. v.0) (xs ++ ys)))) ≡ option_map (λ n. suc (length xs) + n) (place_of w (map (λ v. v.0) ys))
      go true o later e = absurd cc
      go false (Some k) later e = absurd cc
      go false None later e = ap (option_map suc) (later refl) ∙ shifted (place_of w (map (λ v. v.0) ys))
