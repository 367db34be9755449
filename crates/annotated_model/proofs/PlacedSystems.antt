-- Elements that are given the places of their systems, one after another.
use Rattle.std.proofs.Common.{◌≡◌, refl, ap, ◌∙◌, ℕ, zero, suc, ◌+◌, ◌<◌, List, [], ◌∷◌, length, map, take, set, get_or, Option, add-one, arith}
use Rattle.meaning.specs.Models as meaning
use Rattle.annotated_model.specs.declared.data.Element.{Element}
use Rattle.annotated_model.specs.View.{element_view}

abbrev pub with_system : Element → Option ℕ → Element
with_system e s = record { name = e.name; of_type = e.of_type; when = e.when; attributes = e.attributes; system = s }

-- the system of an element is no part of its view
pub same_views : (xs : List Element) (i : ℕ) (d : Element) (s : Option ℕ) → i < length xs
    → map element_view (set xs i (with_system (get_or xs i d) s)) ≡ map element_view xs
same_views [] i d s lt = absurd (omega arith)
same_views (x ∷ xs) zero d s lt = refl
same_views (x ∷ xs) (suc i) d s lt = ap (λ vs. element_view x ∷ vs) (same_views xs i d s (omega arith))

module _ (place : meaning.Element → Option ℕ) where
  placed_suc : (xs ys : List Element) (i : ℕ) (d : Element) (s : Option ℕ) → i < length xs → map element_view xs ≡ map element_view ys
      → map (λ e. e.system) (take i xs) ≡ map place (map element_view (take i ys)) → s ≡ place (element_view (get_or xs i d))
      → map (λ e. e.system) (take (suc i) (set xs i (with_system (get_or xs i d) s))) ≡ map place (map element_view (take (suc i) ys))
  placed_suc [] ys i d s lt same so_far is = absurd (omega arith)
  placed_suc (x ∷ xs) [] i d s lt same so_far is = absurd cc
  placed_suc (x ∷ xs) (y ∷ ys) zero d s lt same so_far is =
      let first : element_view x ≡ element_view y = cc in ap (λ o. o ∷ []) (is ∙ ap place first)
  placed_suc (x ∷ xs) (y ∷ ys) (suc i) d s lt same so_far is =
      let rest : map element_view xs ≡ map element_view ys = cc in
      let before : map (λ e. e.system) (take i xs) ≡ map place (map element_view (take i ys)) = cc in
      let first : x.system ≡ place (element_view y) = cc in
      ap (λ o. o ∷ map (λ e. e.system) (take (suc i) (set xs i (with_system (get_or xs i d) s)))) first
      ∙ ap (λ os. place (element_view y) ∷ os) (placed_suc xs ys i d s (omega arith) rest before is)

  pub placed_next : (xs ys : List Element) (i : ℕ) (d : Element) (s : Option ℕ) → i < length xs → map element_view xs ≡ map element_view ys
      → map (λ e. e.system) (take i xs) ≡ map place (map element_view (take i ys)) → s ≡ place (element_view (get_or xs i d))
      → map (λ e. e.system) (take (i + 1) (set xs i (with_system (get_or xs i d) s))) ≡ map place (map element_view (take (i + 1) ys))
  placed_next xs ys i d s lt same so_far is = rw add-one (placed_suc xs ys i d s lt same so_far is)
