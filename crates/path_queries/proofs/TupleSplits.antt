-- Answers that begin with given elements fall into those that go on with each element of the next variable's type.
use Rattle.std.proofs.Common.{◌≡◌, ◌∙◌, refl, sym, ap, subst, ℕ, zero, suc, ◌+◌, ◌<◌, ◌≤◌, List, [], ◌∷◌, ◌++◌, length, map, drop, Bool, true, false, cond, Option, Some, None, append_assoc, arith}
use Rattle.std.specs.Prelude.{filter, ◌&&◌, option_map, unwrap_or, if◌then◌else◌}
use Rattle.std.specs.List.{enumerate_from, slice_get, list_all, range_with_len}
use Rattle.std.proofs.lemmas.List.{map-append, length-append}
use Rattle.std.proofs.lemmas.List.Elements.{filter-append}
use Rattle.meaning.specs.Texts.{flat, numbered}
use Rattle.meaning.specs.Expressions.{truth}
use Rattle.meaning.specs.Models.{Model, PlainModel, Element, is_a, has_element, model_at}
use Rattle.meaning.specs.Queries.{Query, tuples, elements_of_type, meets, answers}
use Rattle.meaning.specs.Tidy.{whole_model}
use Rattle.worlds.specs.Algebra.{Algebra}
use Rattle.path_queries.specs.Tuples.{accepts, tuples_from, answers_from, answers_below, answers_with, type_at, is_choice, possible_with}
use Rattle.path_queries.proofs.Presences.{element_in}

-- ---- lists

module _ {X : Type 0} where
  filter_twice : (p q : X → Bool) (xs : List X) → filter q (filter p xs) ≡ filter (λ x. p x && q x) xs
  filter_twice p q [] = refl
  filter_twice p q (x ∷ xs) = go (p x) (filter_twice p q xs)
    where
      go : (b : Bool) → filter q (filter p xs) ≡ filter (λ x. p x && q x) xs
          → filter q (cond b (x ∷ filter p xs) (filter p xs)) ≡ cond (b && q x) (x ∷ filter (λ x. p x && q x) xs) (filter (λ x. p x && q x) xs)
      go true e = ap (λ ys. cond (q x) (x ∷ ys) ys) e
      go false e = e

  pub flat_append : {Y : Type 0} (f : X → List Y) (xs ys : List X) → flat f (xs ++ ys) ≡ flat f xs ++ flat f ys
  flat_append f [] ys = refl
  flat_append f (x ∷ xs) ys = ap (λ zs. f x ++ zs) (flat_append f xs ys) ∙ sym (append_assoc (f x) (flat f xs) (flat f ys))

  flat_same : {Y : Type 0} (f g : X → List Y) → ((x : X) → f x ≡ g x) → (xs : List X) → flat f xs ≡ flat g xs
  flat_same f g same [] = refl
  flat_same f g same (x ∷ xs) = ap (λ ys. ys ++ flat f xs) (same x) ∙ ap (λ ys. g x ++ ys) (flat_same f g same xs)

  flat_filtered : {Y : Type 0} (p : X → Bool) (f : X → List Y) (xs : List X) → flat f (filter p xs) ≡ flat (λ x. cond (p x) (f x) []) xs
  flat_filtered p f [] = refl
  flat_filtered p f (x ∷ xs) = go (p x) (flat_filtered p f xs)
    where
      go : (b : Bool) → flat f (filter p xs) ≡ flat (λ x. cond (p x) (f x) []) xs
          → flat f (cond b (x ∷ filter p xs) (filter p xs)) ≡ cond b (f x) [] ++ flat (λ x. cond (p x) (f x) []) xs
      go true e = ap (λ ys. f x ++ ys) e
      go false e = e

  flat_nothing : {Y : Type 0} (xs : List X) → flat {B = Y} (λ x. []) xs ≡ []
  flat_nothing [] = refl
  flat_nothing {Y = Y} (x ∷ xs) = flat_nothing {Y = Y} xs

  filter_of_flat : {Y : Type 0} (p : Y → Bool) (f : X → List Y) (xs : List X) → filter p (flat f xs) ≡ flat (λ x. filter p (f x)) xs
  filter_of_flat p f [] = refl
  filter_of_flat p f (x ∷ xs) = filter-append p (f x) (flat f xs) ∙ ap (λ ys. filter p (f x) ++ ys) (filter_of_flat p f xs)

  map_of_flat : {Y Z : Type 0} (h : Y → Z) (f : X → List Y) (xs : List X) → map h (flat f xs) ≡ flat (λ x. map h (f x)) xs
  map_of_flat h f [] = refl
  map_of_flat h f (x ∷ xs) = map-append h (f x) (flat f xs) ∙ ap (λ ys. map h (f x) ++ ys) (map_of_flat h f xs)

  map_twice : {Y Z : Type 0} (h : Y → Z) (f : X → Y) (xs : List X) → map h (map f xs) ≡ map (λ x. h (f x)) xs
  map_twice h f [] = refl
  map_twice h f (x ∷ xs) = ap (λ ys. h (f x) ∷ ys) (map_twice h f xs)

  map_all_same : {Y : Type 0} (f g : X → Y) → ((x : X) → f x ≡ g x) → (xs : List X) → map f xs ≡ map g xs
  map_all_same f g same [] = refl
  map_all_same f g same (x ∷ xs) = ap (λ y. y ∷ map f xs) (same x) ∙ ap (λ ys. g x ∷ ys) (map_all_same f g same xs)

  drop_next : (xs : List X) (k : ℕ) (x : X) → slice_get xs k ≡ Some x → drop k xs ≡ x ∷ drop (k + 1) xs
  drop_next [] k x at = absurd cc
  drop_next (y ∷ ys) zero x at = let same : y ≡ x = cc in ap (λ z. z ∷ ys) same
  drop_next (y ∷ ys) (suc k) x at = let same : suc (k + 1) ≡ suc k + 1 = omega arith in drop_next ys k x at ∙ ap (λ n. x ∷ drop n (y ∷ ys)) same

  drop_past : (xs : List X) (k : ℕ) → length xs ≤ k → drop k xs ≡ []
  drop_past [] zero past = refl
  drop_past [] (suc k) past = refl
  drop_past (y ∷ ys) zero past = absurd (omega (arith, past))
  drop_past (y ∷ ys) (suc k) past = drop_past ys k (omega (arith, past))

  append_nothing : (xs : List X) → xs ++ [] ≡ xs
  append_nothing [] = refl
  append_nothing (x ∷ xs) = ap (λ ys. x ∷ ys) (append_nothing xs)

-- the numbers below a bound, and one more
pub flat_one_more : {Y : Type 0} (f : ℕ → List Y) (n : ℕ) → flat f (range_with_len 0 (n + 1)) ≡ flat f (range_with_len 0 n) ++ f n
flat_one_more f n =
    let same : 0 + n ≡ n = omega arith in
    ap (flat f) (numbers_more 0 n) ∙ ap (λ k. flat f (range_with_len 0 n ++ k ∷ [])) same ∙ flat_append f (range_with_len 0 n) (n ∷ []) ∙ ap (λ ys. flat f (range_with_len 0 n) ++ ys) (append_nothing (f n))
  where
    numbers_more : (a k : ℕ) → range_with_len a (k + 1) ≡ range_with_len a k ++ (a + k) ∷ []
    numbers_more a zero = let same : a ≡ a + 0 = omega arith in ap (λ b. b ∷ []) same
    numbers_more a (suc k) =
        let longer : suc k + 1 ≡ suc (k + 1) = omega arith in
        let same : a + 1 + k ≡ a + suc k = omega arith in
        ap (range_with_len a) longer ∙ ap (λ ys. a ∷ ys) (numbers_more (a + 1) k) ∙ ap (λ b. a ∷ (range_with_len (a + 1) k ++ b ∷ [])) same

-- ---- the elements of a type

numbers_of : (q : Element → Bool) (xs : List Element) (i : ℕ) (f : ℕ → Bool) → ((e : ℕ) (y : Element) → slice_get xs e ≡ Some y → f (i + e) ≡ q y)
    → map (λ y. y.0) (filter (λ y. q y.1) (enumerate_from i xs)) ≡ filter f (range_with_len i (length xs))
numbers_of q [] i f same = refl
numbers_of q (x ∷ xs) i f same =
    go (q x) (f i) (ap f (sym (add_zero i)) ∙ same 0 x refl)
    (numbers_of q xs (i + 1) f (λ e y at. let place : i + 1 + e ≡ i + suc e = omega arith in ap f place ∙ same (suc e) y at))
  where
    add_zero : (k : ℕ) → k + 0 ≡ k
    add_zero k = omega arith

    go : (b c : Bool) → c ≡ b → map (λ y. y.0) (filter (λ y. q y.1) (enumerate_from (i + 1) xs)) ≡ filter f (range_with_len (i + 1) (length xs))
        → map (λ y. y.0) (cond b ((i, x) ∷ filter (λ y. q y.1) (enumerate_from (i + 1) xs)) (filter (λ y. q y.1) (enumerate_from (i + 1) xs)))
        ≡ cond c (i ∷ filter f (range_with_len (i + 1) (length xs))) (filter f (range_with_len (i + 1) (length xs)))
    go true true s e = ap (λ ys. i ∷ ys) e
    go true false s e = absurd cc
    go false true s e = absurd cc
    go false false s e = e

type_is : (m : Model) (e : ℕ) (y : Element) → slice_get m.elements e ≡ Some y → type_at m e ≡ y.of_type
type_is m e y at = ap (λ o. unwrap_or (option_map (λ z. z.of_type) o) 0) at

choices : (m : Model) (x : List Bool) (t : ℕ) → elements_of_type (model_at m x) t ≡ filter (is_choice m x t) (range_with_len 0 (length m.elements))
unfolding model_at
choices m x t =
    ap (map (λ y. y.0)) (filter_twice (λ y. truth y.1.presence x) (λ y. is_a m.types y.1.of_type t) (numbered m.elements))
    ∙ numbers_of (λ y. truth y.presence x && is_a m.types y.of_type t) m.elements 0 (is_choice m x t)
    (λ e y at. let place : 0 + e ≡ e = omega arith in
    ap (is_choice m x t) place ∙ ap (λ b. b && is_a m.types (type_at m e) t) (element_in m.elements x e y at) ∙ ap (λ u. truth y.presence x && is_a m.types u t) (type_is m e y at))

all_choices : (m : Model) (t : ℕ) → elements_of_type (whole_model m) t ≡ filter (λ e. is_a m.types (type_at m e) t) (range_with_len 0 (length m.elements))
all_choices m t =
    numbers_of (λ y. is_a m.types y.of_type t) m.elements 0 (λ e. is_a m.types (type_at m e) t)
    (λ e y at. let place : 0 + e ≡ e = omega arith in
    ap (λ k. is_a m.types (type_at m k) t) place ∙ ap (λ u. is_a m.types u t) (type_is m e y at))

-- ---- tuples and answers, by the next element

tuples_by_next : (m : PlainModel) (types given : List ℕ) (t : ℕ) → slice_get types (length given) ≡ Some t
    → tuples_from m types given ≡ flat (λ e. tuples_from m types (given ++ e ∷ [])) (elements_of_type m t)
tuples_by_next m types given t at =
    ap (λ ts. map (λ es. given ++ es) (tuples m ts)) (drop_next types (length given) t at)
    ∙ map_of_flat (λ es. given ++ es) (λ e. map (λ es. e ∷ es) (tuples m (drop (length given + 1) types))) (elements_of_type m t)
    ∙ flat_same (λ e. map (λ es. given ++ es) (map (λ es. e ∷ es) (tuples m (drop (length given + 1) types)))) (λ e. tuples_from m types (given ++ e ∷ []))
    (λ e. map_twice (λ es. given ++ es) (λ es. e ∷ es) (tuples m (drop (length given + 1) types))
    ∙ map_all_same (λ es. given ++ e ∷ es) (λ es. (given ++ e ∷ []) ++ es) (λ es. sym (append_assoc given (e ∷ []) es)) (tuples m (drop (length given + 1) types))
    ∙ ap (λ k. map (λ es. (given ++ e ∷ []) ++ es) (tuples m (drop k types))) (sym (length-append given (e ∷ [])))) (elements_of_type m t)

answers_by_next : (m : PlainModel) (q : Query) (bound given : List ℕ) (t : ℕ) → slice_get q.variables (length given) ≡ Some t
    → answers_from m q bound given ≡ flat (λ e. answers_from m q bound (given ++ e ∷ [])) (elements_of_type m t)
answers_by_next m q bound given t at =
    ap (filter (accepts m q bound)) (tuples_by_next m q.variables given t at)
    ∙ filter_of_flat (accepts m q bound) (λ e. tuples_from m q.variables (given ++ e ∷ [])) (elements_of_type m t)

-- at a world where a condition holds
pub answers_by_element : {C : Type 0} (a : Algebra C) (m : Model) (q : Query) (bound given : List ℕ) (under : C) (t : ℕ) (x : List Bool) → slice_get q.variables (length given) ≡ Some t
    → flat (λ e. answers_with a m q bound given under t e x) (range_with_len 0 (length m.elements)) ≡ answers_below a m q bound given under x
answers_by_element a m q bound given under t x at = go (a.holds under x)
  where
    go : (b : Bool) → flat (λ e. cond (b && is_choice m x t e) (answers_from (model_at m x) q bound (given ++ e ∷ [])) []) (range_with_len 0 (length m.elements))
        ≡ cond b (answers_from (model_at m x) q bound given) []
    go true =
        sym
        (answers_by_next (model_at m x) q bound given t at
        ∙ ap (flat (λ e. answers_from (model_at m x) q bound (given ++ e ∷ []))) (choices m x t)
        ∙ flat_filtered (is_choice m x t) (λ e. answers_from (model_at m x) q bound (given ++ e ∷ [])) (range_with_len 0 (length m.elements)))
    go false = flat_nothing {Y = List ℕ} (range_with_len 0 (length m.elements))

pub possible_by_element : (m : Model) (types given : List ℕ) (t : ℕ) → slice_get types (length given) ≡ Some t
    → flat (possible_with m types given t) (range_with_len 0 (length m.elements)) ≡ tuples_from (whole_model m) types given
possible_by_element m types given t at =
    sym
    (tuples_by_next (whole_model m) types given t at
    ∙ ap (flat (λ e. tuples_from (whole_model m) types (given ++ e ∷ []))) (all_choices m t)
    ∙ flat_filtered (λ e. is_a m.types (type_at m e) t) (λ e. tuples_from (whole_model m) types (given ++ e ∷ [])) (range_with_len 0 (length m.elements)))

-- ---- with no variable left

pub tuple_itself : (m : PlainModel) (types given : List ℕ) → length types ≤ length given → tuples_from m types given ≡ given ∷ []
tuple_itself m types given past =
    ap (λ ts. map (λ es. given ++ es) (tuples m ts)) (drop_past types (length given) past) ∙ ap (λ es. es ∷ []) (append_nothing given)

pub answer_itself : (m : PlainModel) (q : Query) (bound given : List ℕ) → length q.variables ≤ length given
    → answers_from m q bound given ≡ cond (accepts m q bound given) (given ∷ []) []
answer_itself m q bound given past = ap (filter (accepts m q bound)) (tuple_itself m q.variables given past)

-- ---- with no element given yet

pub answers_from_none : (m : PlainModel) (q : Query) (bound : List ℕ) → answers_from m q bound [] ≡ answers m q bound
unfolding answers
answers_from_none m q bound = ap (filter (accepts m q bound)) (map_itself (tuples m q.variables))
  where
    map_itself : (xs : List (List ℕ)) → map (λ es. [] ++ es) xs ≡ xs
    map_itself [] = refl
    map_itself (x ∷ xs) = ap (λ ys. x ∷ ys) (map_itself xs)

pub tuples_from_none : (m : PlainModel) (types : List ℕ) → tuples_from m types [] ≡ tuples m types
tuples_from_none m types = map_itself (tuples m types)
  where
    map_itself : (xs : List (List ℕ)) → map (λ es. [] ++ es) xs ≡ xs
    map_itself [] = refl
    map_itself (x ∷ xs) = ap (λ ys. x ∷ ys) (map_itself xs)
