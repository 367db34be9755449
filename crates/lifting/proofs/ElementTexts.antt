-- Elements of the whole model by their numbers, and what is bound to a variable.
use Rattle.std.proofs.Common.{◌≡◌, ℕ, zero, suc, ◌+◌, ◌<◌, ◌≤◌, List, [], ◌∷◌, map, length, get_or, ◌==◌, Some, None, refl, sym, ap, ◌∙◌, arith}
use Rattle.std.specs.Prelude.{cond, find, option_map, option_and_then, unwrap_or}
use Rattle.std.specs.List.{slice_get, enumerate_from}
use Rattle.std.proofs.lemmas.Option.{slice_get-map, slice_get_read, slice_get_past}
use Rattle.meaning.specs.Models.{Model, element_at, element_name, attribute_at}
use Rattle.meaning.specs.Queries.{element_of_variable}
use Rattle.meaning.specs.Tidy.{whole_model}
use Rattle.annotated_model.specs.declared.data.Element.{Element}
use Rattle.annotated_model.specs.View.{element_view}
use Rattle.meaning.proofs.EqualityTests.{other_number}
use Rattle.lifting.proofs.ThereElements.{in_whole}

-- ---- variables

pub bound_at : (bound : List ℕ) (v e : ℕ) → v < length bound → e ≡ get_or bound v e → e ≡ element_of_variable bound v
bound_at [] v e l h = absurd (omega (arith, l))
bound_at (x ∷ bound) zero e l h = h
bound_at (x ∷ bound) (suc v) e l h = bound_at bound v e (omega (arith, l)) h

pub unbound_at : (bound : List ℕ) (v : ℕ) → length bound ≤ v → 0 ≡ element_of_variable bound v
unbound_at [] v l = refl
unbound_at (x ∷ bound) zero l = absurd (omega (arith, l))
unbound_at (x ∷ bound) (suc v) l = unbound_at bound v (omega (arith, l))

-- ---- elements

none_from : {A : Type 0} (k i e : ℕ) (xs : List A) → e ≡ k + i → length xs ≤ i → find (λ q. q.0 == e) (enumerate_from k xs) ≡ None
none_from k i e [] f l = refl
none_from k zero e (y ∷ xs) f l = absurd (omega (arith, l))
none_from k (suc i) e (y ∷ xs) f l =
    ap (λ b. cond b (Some (k, y)) (find (λ q. q.0 == e) (enumerate_from (k + 1) xs))) (other_number k e (λ g. omega (arith, f, g)))
    ∙ none_from (k + 1) i e xs (omega (arith, f)) (omega (arith, l))

module _ (m : Model) (xs : List Element) (h : map element_view xs ≡ m.elements) (e : ℕ) where
  element_is : (x : Element) → e < length xs → x ≡ get_or xs e x → element_at (whole_model m) e ≡ Some (element_view x)
  element_is x l g =
      in_whole m e (element_view x)
      (ap (λ es. slice_get es e) (sym h) ∙ slice_get-map element_view xs e ∙ ap (option_map element_view) (slice_get_read xs (length xs) e x refl l g))

  no_element : length xs ≤ e → element_at (whole_model m) e ≡ None
  no_element l = ap (option_map (λ p. p.1)) (ap (λ es. find (λ q. q.0 == e) (enumerate_from 0 es)) (sym h) ∙ none_from 0 e e (map element_view xs) (omega arith) (long xs l))
    where
      long : (ys : List Element) → length ys ≤ e → length (map element_view ys) ≤ e
      long ys l = omega (arith, same ys, l)
        where
          same : (ys : List Element) → length (map element_view ys) ≡ length ys
          same [] = refl
          same (y ∷ ys) = ap suc (same ys)

  pub name_is : (x : Element) (s : List ℕ) → e < length xs → x ≡ get_or xs e x → s ≡ x.name → s ≡ element_name (whole_model m) e
  name_is x s l g f = f ∙ sym (ap (λ o. unwrap_or (option_map (λ x. x.name) o) []) (element_is x l g))

  pub no_name : length xs ≤ e → [] ≡ element_name (whole_model m) e
  no_name l = sym (ap (λ o. unwrap_or (option_map (λ x. x.name) o) []) (no_element l))

  attributes_at : (a : ℕ) → (x : Element) → e < length xs → x ≡ get_or xs e x → attribute_at (whole_model m) e a ≡ unwrap_or (slice_get x.attributes a) []
  attributes_at a x l g = ap (λ o. unwrap_or (option_and_then (λ x. slice_get x.attributes a) o) []) (element_is x l g)

  pub attribute_is : (a : ℕ) (x : Element) (s : List ℕ) → e < length xs → x ≡ get_or xs e x → a < length x.attributes → s ≡ get_or x.attributes a s → s ≡ attribute_at (whole_model m) e a
  attribute_is a x s l g k f = sym (attributes_at a x l g ∙ ap (λ o. unwrap_or o []) (slice_get_read x.attributes (length x.attributes) a s refl k f))

  pub no_attribute : (a : ℕ) (x : Element) → e < length xs → x ≡ get_or xs e x → length x.attributes ≤ a → [] ≡ attribute_at (whole_model m) e a
  no_attribute a x l g k = sym (attributes_at a x l g ∙ ap (λ o. unwrap_or o []) (slice_get_past x.attributes a k))

  pub no_attribute_of_none : (a : ℕ) → length xs ≤ e → [] ≡ attribute_at (whole_model m) e a
  no_attribute_of_none a l = sym (ap (λ o. unwrap_or (option_and_then (λ x. slice_get x.attributes a) o) []) (no_element l))
