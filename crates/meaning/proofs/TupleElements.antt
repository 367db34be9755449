-- What holds of the elements of a plain model holds of all elements of its answers.
use Rattle.std.proofs.Common.{ℕ, List, [], ◌∷◌, ◌++◌, map, Bool, true, false}
use Rattle.std.specs.Prelude.{cond, filter}
use Rattle.std.specs.List.{list_all}
use Rattle.meaning.specs.Texts.{flat}
use Rattle.meaning.specs.Models.{PlainModel, is_a}
use Rattle.meaning.specs.Queries.{Query, answers, tuples, meets, elements_of_type, element_numbers}
use Rattle.meaning.proofs.CutTrees.{Each}
use Rattle.meaning.proofs.EachMembers.{each_filtered}
use Rattle.meaning.proofs.Lists.{each_append}

-- ---- what holds of the elements of a plain model holds of all elements of its answers

module _ (P : ℕ → Type 0) where
  each_of_numbers : {A : Type 0} (p : ℕ × A → Bool) (xs : List (ℕ × A)) → Each P (map (λ e. e.0) xs) → Each P (map (λ e. e.0) (filter p xs))
  each_of_numbers p [] h = tt
  each_of_numbers {A = A} p (x ∷ xs) h = go (p x) (each_of_numbers p xs h.1)
    where
      go : (b : Bool) → Each P (map (λ e. e.0) (filter p xs)) → Each P (map (λ e. e.0) (cond b (x ∷ filter p xs) (filter p xs)))
      go true g = (h.0, g)
      go false g = g

  each_in_front : (e : ℕ) (ts : List (List ℕ)) → P e → Each (Each P) ts → Each (Each P) (map (λ es. e ∷ es) ts)
  each_in_front e [] h g = tt
  each_in_front e (t ∷ ts) h g = ((h, g.0), each_in_front e ts h g.1)

  each_of_fronts : (es : List ℕ) (ts : List (List ℕ)) → Each P es → Each (Each P) ts → Each (Each P) (flat (λ e. map (λ es. e ∷ es) ts) es)
  each_of_fronts [] ts h g = tt
  each_of_fronts (e ∷ es) ts h g = each_append (Each P) (map (λ es. e ∷ es) ts) _ (each_in_front e ts h.0 g) (each_of_fronts es ts h.1 g)

  module _ (m : PlainModel) (h : Each P (element_numbers m)) where
    pub each_of_type : (t : ℕ) → Each P (elements_of_type m t)
    each_of_type t = each_of_numbers (λ e. is_a m.types e.1.of_type t) m.elements h

    pub each_of_tuples : (ts : List ℕ) → Each (Each P) (tuples m ts)
    each_of_tuples [] = (tt, tt)
    each_of_tuples (t ∷ ts) = each_of_fronts (elements_of_type m t) (tuples m ts) (each_of_type t) (each_of_tuples ts)

    pub each_of_answers : (q : Query) (bound : List ℕ) → Each (Each P) (answers m q bound)
    unfolding answers
    each_of_answers q bound = each_filtered (Each P) (λ es. list_all (meets m (bound ++ es)) q.constraints) (tuples m q.variables) (each_of_tuples q.variables)
