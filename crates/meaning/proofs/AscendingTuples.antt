-- The tuples of a model ascend in lexicographic order, so no tuple stands twice, and its answers do too.
use Rattle.std.proofs.Common.{◌≡◌, ◌≢◌, ℕ, ◌+◌, ◌<◌, List, [], ◌∷◌, ◌++◌, map, Bool, refl, arith, inl, inr, ◌∙◌}
use Rattle.std.specs.Prelude.{filter}
use Rattle.std.specs.List.{list_all, enumerate_from}
use Rattle.meaning.specs.Models.{Model, PlainModel, model_at, is_a}
use Rattle.meaning.specs.Queries.{Query, answers, tuples, meets, elements_of_type}
use Rattle.meaning.specs.Tidy.{whole_model, is_before, Ascend}
use Rattle.meaning.proofs.CutTrees.{Each}
use Rattle.meaning.proofs.EachMembers.{each_by}
use Rattle.meaning.proofs.Members.{Pairwise}
use Rattle.meaning.proofs.Pairs.{each_of_map, pairs_filtered, pairs_by, pairs_mapped, pairs_flat}
use Rattle.meaning.proofs.Lists.{each_of_all}

-- ---- numbers ascend

numbers_above : {A : Type 0} (k j : ℕ) (xs : List A) → j < k → Each (λ e. j < e.0) (enumerate_from k xs)
numbers_above k j [] l = tt
numbers_above k j (x ∷ xs) l = (l, numbers_above (k + 1) j xs (omega (arith, l)))

pub numbers_ascend : {A : Type 0} (k : ℕ) (xs : List A) → Pairwise (λ d e. d.0 < e.0) (enumerate_from k xs)
numbers_ascend k [] = tt
numbers_ascend k (x ∷ xs) = (numbers_above (k + 1) k xs (omega arith), numbers_ascend (k + 1) xs)

-- ---- tuples

abbrev pub IsAscending : PlainModel → Type 0
IsAscending m = Pairwise (λ d e. d.0 < e.0) m.elements

module _ (m : PlainModel) (h : IsAscending m) where
  of_type_ascend : (t : ℕ) → Pairwise (λ d e. d < e) (elements_of_type m t)
  of_type_ascend t =
      pairs_mapped (λ d e. d < e) (λ e. e.0) (filter (λ e. is_a m.types e.1.of_type t) m.elements)
      (pairs_filtered (λ d e. d.0 < e.0) (λ e. is_a m.types e.1.of_type t) m.elements h)

  pub tuples_ascend : (ts : List ℕ) → Pairwise is_before (tuples m ts)
  tuples_ascend [] = (tt, tt)
  tuples_ascend (t ∷ ts) =
      pairs_flat is_before (λ e. map (λ es. e ∷ es) (tuples m ts)) (elements_of_type m t)
      (each_of_all _
      (λ e. pairs_mapped is_before (λ es. e ∷ es) (tuples m ts) (pairs_by is_before (λ a b. is_before (e ∷ a) (e ∷ b)) (λ a b i. inr (refl, i)) (tuples m ts) (tuples_ascend ts)))
      (elements_of_type m t))
      (pairs_by (λ d e. d < e) (λ d e. Each (λ a. Each (is_before a) (map (λ es. e ∷ es) (tuples m ts))) (map (λ es. d ∷ es) (tuples m ts)))
      (λ d e l. each_of_map _ (λ es. d ∷ es) (tuples m ts)
      (each_of_all _ (λ a. each_of_map (is_before (d ∷ a)) (λ es. e ∷ es) (tuples m ts) (each_of_all _ (λ b. inl l) (tuples m ts))) (tuples m ts)))
      (elements_of_type m t) (of_type_ascend t))

  pub answers_ascend : (q : Query) (bound : List ℕ) → Pairwise is_before (answers m q bound)
  unfolding answers
  answers_ascend q bound = pairs_filtered is_before (λ es. list_all (meets m (bound ++ es)) q.constraints) (tuples m q.variables) (tuples_ascend q.variables)

pub whole_ascends : (m : Model) → IsAscending (whole_model m)
whole_ascends m = numbers_ascend 0 m.elements

pub product_ascends : (m : Model) (w : List Bool) → IsAscending (model_at m w)
unfolding model_at
product_ascends m w = pairs_filtered (λ d e. d.0 < e.0) _ _ (numbers_ascend 0 m.elements)

-- ---- what ascends pair by pair ascends, and has no two that are equal

pub ascend_from_pairs : (ts : List (List ℕ)) → Pairwise is_before ts → Ascend ts
ascend_from_pairs [] h = tt
ascend_from_pairs (t ∷ []) h = tt
ascend_from_pairs (t ∷ u ∷ ts) h = (h.0.0, ascend_from_pairs (u ∷ ts) h.1)

pub never_before_itself : (t : List ℕ) → is_before t t → ⊥
never_before_itself [] h = h
never_before_itself (e ∷ es) h = go h (λ i. never_before_itself es i)
  where
    go : is_before (e ∷ es) (e ∷ es) → (is_before es es → ⊥) → ⊥
    go (inl l) later = omega (arith, l)
    go (inr i) later = later i.1

pub before_differ : (t u : List ℕ) → is_before t u → t ≢ u
before_differ t u h e = never_before_itself u (go e)
  where
    go : t ≡ u → is_before u u
    go f = rw f at h

pub before_both : (t u v : List ℕ) → is_before t u → is_before u v → is_before t v
before_both [] [] v h g = elim h [ ]
before_both [] (e ∷ u) [] h g = elim g [ ]
before_both [] (e ∷ u) (f ∷ v) h g = tt
before_both (d ∷ t) [] v h g = elim h [ ]
before_both (d ∷ t) (e ∷ u) [] h g = elim g [ ]
before_both (d ∷ t) (e ∷ u) (f ∷ v) h g = go h g (λ i j. before_both t u v i j)
  where
    go : is_before (d ∷ t) (e ∷ u) → is_before (e ∷ u) (f ∷ v) → (is_before t u → is_before u v → is_before t v) → is_before (d ∷ t) (f ∷ v)
    go (inl l) (inl k) later = inl (omega (arith, l, k))
    go (inl l) (inr k) later = inl (omega (arith, l, k.0))
    go (inr l) (inl k) later = inl (omega (arith, l.0, k))
    go (inr l) (inr k) later = inr (l.0 ∙ k.0, later l.1 k.1)

pub pairs_from_ascend : (ts : List (List ℕ)) → Ascend ts → Pairwise is_before ts
pairs_from_ascend [] h = tt
pairs_from_ascend (t ∷ []) h = (tt, tt)
pairs_from_ascend (t ∷ u ∷ ts) h =
    let later : Pairwise is_before (u ∷ ts) = pairs_from_ascend (u ∷ ts) h.1 in
    ((h.0, each_by (is_before u) (is_before t) (λ v b. before_both t u v h.0 b) ts later.0), later)
