-- The elements of a product: answers are made of them, and their names and attributes are those of the whole model.
use Rattle.std.proofs.Common.{◌≡◌, ℕ, zero, suc, ◌+◌, ◌<◌, List, [], ◌∷◌, ◌++◌, map, length, Bool, true, false, ◌==◌, Some, sym, ap, ◌∙◌, arith}
use Rattle.std.specs.Prelude.{cond, filter, find, option_map, option_and_then, unwrap_or}
use Rattle.std.specs.List.{slice_get, list_all, enumerate_from}
use Rattle.meaning.specs.Texts.{flat, numbered}
use Rattle.meaning.specs.Expressions.{truth}
use Rattle.meaning.specs.Models.{Model, PlainModel, Element, model_at, is_a, element_at, element_name, attribute_at}
use Rattle.meaning.specs.Queries.{Query, answers, tuples, meets, elements_of_type, element_numbers, element_of_variable}
use Rattle.meaning.specs.Tidy.{whole_model}
use Rattle.meaning.proofs.CutTrees.{Each}
use Rattle.meaning.proofs.EachMembers.{each_filtered}
use Rattle.meaning.proofs.NumberedElements.{each_found}
use Rattle.lifting.specs.ThereElements.{IsThere}
use Rattle.meaning.proofs.Lists.{each_append}
use Rattle.lifting.proofs.TemplateDepth.{each_numbered}
use Rattle.meaning.proofs.EqualityTests.{same_number, other_number, none_is_some}

-- ---- what holds of the elements of a plain model holds of all elements of its answers

module _ (P : ℕ → Type 0) where
  each_of_numbers : {A : Type 0} (p : ℕ × A → Bool) (xs : List (ℕ × A)) → Each P (map (λ e. e.0) xs) → Each P (map (λ e. e.0) (filter p xs))
  each_of_numbers p [] h = tt
  each_of_numbers {A = A} p (x ∷ xs) h = go (p x) (each_of_numbers p xs h.1)
    where
      go : (b : Bool) → Each P (map (λ e. e.0) (filter p xs)) → Each P (map (λ e. e.0) (cond b (x ∷ filter p xs) (filter p xs)))
      go true g = (h.0, g)
      go false g = g

  each_in_front : (e : ℕ) (ts : List (List ℕ)) → P e → Each (Each P) ts → Each (Each P) (map (λ es. e ∷ es) ts)
  each_in_front e [] h g = tt
  each_in_front e (t ∷ ts) h g = ((h, g.0), each_in_front e ts h g.1)

  each_of_fronts : (es : List ℕ) (ts : List (List ℕ)) → Each P es → Each (Each P) ts → Each (Each P) (flat (λ e. map (λ es. e ∷ es) ts) es)
  each_of_fronts [] ts h g = tt
  each_of_fronts (e ∷ es) ts h g = each_append (Each P) (map (λ es. e ∷ es) ts) _ (each_in_front e ts h.0 g) (each_of_fronts es ts h.1 g)

  module _ (m : PlainModel) (h : Each P (element_numbers m)) where
    pub each_of_type : (t : ℕ) → Each P (elements_of_type m t)
    each_of_type t = each_of_numbers (λ e. is_a m.types e.1.of_type t) m.elements h

    pub each_of_tuples : (ts : List ℕ) → Each (Each P) (tuples m ts)
    each_of_tuples [] = (tt, tt)
    each_of_tuples (t ∷ ts) = each_of_fronts (elements_of_type m t) (tuples m ts) (each_of_type t) (each_of_tuples ts)

    pub each_of_answers : (q : Query) (bound : List ℕ) → Each (Each P) (answers m q bound)
    unfolding answers
    each_of_answers q bound = each_filtered (Each P) (λ es. list_all (meets m (bound ++ es)) q.constraints) (tuples m q.variables) (each_of_tuples q.variables)

  -- the element of a variable is one of those that are bound
  pub each_of_variable : (bound : List ℕ) (v : ℕ) → v < length bound → Each P bound → P (element_of_variable bound v)
  each_of_variable [] v l h = elim (none_below v l) [ ]
    where
      none_below : (i : ℕ) → i < 0 → ⊥
      none_below i l = omega (arith, l)
  each_of_variable (e ∷ es) zero l h = h.0
  each_of_variable (e ∷ es) (suc v) l h = each_of_variable es v (omega (arith, l)) h.1

  -- those of each argument, too
  pub each_of_arguments : (bound arguments : List ℕ) → Each (λ v. v < length bound) arguments → Each P bound → Each P (map (element_of_variable bound) arguments)
  each_of_arguments bound [] l h = tt
  each_of_arguments bound (v ∷ vs) l h = (each_of_variable bound v l.0 h, each_of_arguments bound vs l.1 h)

-- ---- the elements of one product

each_named : {A B : Type 0} (P : B → Type 0) (f : A → B) (xs : List A) → Each (λ x. P (f x)) xs → Each P (map f xs)
each_named P f [] h = tt
each_named P f (x ∷ xs) h = (h.0, each_named P f xs h.1)

module _ (m : Model) (w : List Bool) where
  kept_there : Each (IsThere m w) (map (λ e. e.0) (filter (λ e. truth e.1.presence w) (numbered m.elements)))
  unfolding model_at
  kept_there =
      each_named (IsThere m w) (λ e. e.0) (filter (λ e. truth e.1.presence w) (numbered m.elements))
      (go (filter (λ e. truth e.1.presence w) (numbered m.elements))
      (each_filtered (λ x. slice_get m.elements x.0 ≡ Some x.1) (λ e. truth e.1.presence w) (numbered m.elements) (each_numbered m.elements))
      (each_found (λ e. truth e.1.presence w) 0 m.elements))
    where
      there : List (ℕ × Element)
      there = filter (λ e. truth e.1.presence w) (numbered m.elements)

      go : (es : List (ℕ × Element)) → Each (λ x. slice_get m.elements x.0 ≡ Some x.1) es → Each (λ e. find (λ q. q.0 == e.0) there ≡ Some e) es
          → Each (λ e. IsThere m w e.0) es
      go [] h g = tt
      go (e ∷ es) h g = (record { element = e.1; stands = h.0; found = ap (option_map (λ p. p.1)) g.0 }, go es h.1 g.1)

  pub elements_are_there : Each (IsThere m w) (element_numbers (model_at m w))
  unfolding model_at
  elements_are_there = kept_there

  -- so every element of an answer is in the product
  pub answers_are_there : (q : Query) (bound : List ℕ) → Each (Each (IsThere m w)) (answers (model_at m w) q bound)
  answers_are_there q bound = each_of_answers (IsThere m w) (model_at m w) elements_are_there q bound

-- ---- the same names and attributes as in the whole model

found_from : {A : Type 0} (k i e : ℕ) (xs : List A) (x : A) → e ≡ k + i → slice_get xs i ≡ Some x → find (λ q. q.0 == e) (enumerate_from k xs) ≡ Some (e, x)
found_from k i e [] x f h = elim (none_is_some x h) [ ]
found_from {A = A} k zero e (y ∷ xs) x f h =
    ap (λ b. cond b (Some (k, y)) (find (λ q. q.0 == e) (enumerate_from (k + 1) xs))) (same_number k e (omega (arith, f)))
    ∙ ap (λ j. Some (j, y)) (omega (arith, f)) ∙ ap (option_map (λ z. (e, z))) h
found_from k (suc i) e (y ∷ xs) x f h =
    ap (λ b. cond b (Some (k, y)) (find (λ q. q.0 == e) (enumerate_from (k + 1) xs))) (other_number k e (λ g. omega (arith, f, g)))
    ∙ found_from (k + 1) i e xs x (omega (arith, f)) h

module _ (m : Model) where
  -- an element of the whole model, by its number
  pub in_whole : (e : ℕ) (x : Element) → slice_get m.elements e ≡ Some x → element_at (whole_model m) e ≡ Some x
  in_whole e x h = ap (option_map (λ p. p.1)) (found_from 0 e e m.elements x (omega arith) h)

  module _ (w : List Bool) (e : ℕ) (there : IsThere m w e) where
    same_element : element_at (model_at m w) e ≡ element_at (whole_model m) e
    same_element = there.found ∙ sym (in_whole e there.element there.stands)

    pub same_name : element_name (model_at m w) e ≡ element_name (whole_model m) e
    same_name = ap (λ o. unwrap_or (option_map (λ x. x.name) o) []) same_element

    pub same_attribute : (a : ℕ) → attribute_at (model_at m w) e a ≡ attribute_at (whole_model m) e a
    same_attribute a = ap (λ o. unwrap_or (option_and_then (λ x. slice_get x.attributes a) o) []) same_element
