-- The tuples of the definitions ascend, so none of them stands twice.
use Rattle.std.proofs.Common.{◌≡◌, ◌∙◌, refl, sym, ap, subst, ℕ, zero, suc, ◌+◌, ◌<◌, ◌≤◌, ◌⊎◌, inl, inr, List, [], ◌∷◌, ◌++◌, length, map, Bool, true, false, cond, Option, Some, None, arith}
use Rattle.std.specs.Prelude.{filter, ⊤}
use Rattle.std.specs.List.{AllByRecursion, enumerate_from, slice_get}
use Rattle.meaning.specs.Texts.{flat, numbered}
use Rattle.meaning.specs.Models.{Model, PlainModel, Element, is_a}
use Rattle.meaning.specs.Queries.{tuples, elements_of_type}
use Rattle.meaning.specs.Tidy.{Among, none, taken, passed, is_before, whole_model}

-- ---- lists that ascend

abbrev Ascending : List ℕ → Type 0
Ascending [] = ⊤
Ascending (n ∷ ns) = AllByRecursion (λ k. n < k) ns × Ascending ns

-- each tuple is before all later ones
abbrev pub Ordered : List (List ℕ) → Type 0
Ordered [] = ⊤
Ordered (t ∷ ts) = AllByRecursion (is_before t) ts × Ordered ts

module _ {X : Type 0} where
  weaker : (P Q : X → Type 0) → ((x : X) → P x → Q x) → (xs : List X) → AllByRecursion P xs → AllByRecursion Q xs
  weaker P Q h [] all = tt
  weaker P Q h (x ∷ xs) all = (h x all.0, weaker P Q h xs all.1)

  both_lists : (P : X → Type 0) (xs ys : List X) → AllByRecursion P xs → AllByRecursion P ys → AllByRecursion P (xs ++ ys)
  both_lists P [] ys all rest = rest
  both_lists P (x ∷ xs) ys all rest = (all.0, both_lists P xs ys all.1 rest)

  of_mapped : {Y : Type 0} (P : Y → Type 0) (f : X → Y) (xs : List X) → AllByRecursion (λ x. P (f x)) xs → AllByRecursion P (map f xs)
  of_mapped P f [] all = tt
  of_mapped P f (x ∷ xs) all = (all.0, of_mapped P f xs all.1)

  of_all : (P : X → Type 0) → ((x : X) → P x) → (xs : List X) → AllByRecursion P xs
  of_all P h [] = tt
  of_all P h (x ∷ xs) = (h x, of_all P h xs)

  of_some : (P : X → Type 0) (xs ys : List X) → Among xs ys → AllByRecursion P ys → AllByRecursion P xs
  of_some P _ _ none all = tt
  of_some P _ _ (taken {x} {xs} {ys} a) all = (all.0, of_some P xs ys a all.1)
  of_some P xs _ (passed {y} {ys} a) all = of_some P xs ys a all.1

of_flat : {X Y : Type 0} (P : Y → Type 0) (f : X → List Y) (xs : List X) → AllByRecursion (λ x. AllByRecursion P (f x)) xs → AllByRecursion P (flat f xs)
of_flat P f [] all = tt
of_flat P f (x ∷ xs) all = both_lists P (f x) (flat f xs) all.0 (of_flat P f xs all.1)

-- some of a list that is in order are in order
pub some_ordered : (xs ys : List (List ℕ)) → Among xs ys → Ordered ys → Ordered xs
some_ordered _ _ none o = tt
some_ordered _ _ (taken {x} {xs} {ys} a) o = (of_some (is_before x) xs ys a o.0, some_ordered xs ys a o.1)
some_ordered xs _ (passed {y} {ys} a) o = some_ordered xs ys a o.1

two_ordered : (xs ys : List (List ℕ)) → Ordered xs → Ordered ys → AllByRecursion (λ x. AllByRecursion (is_before x) ys) xs → Ordered (xs ++ ys)
two_ordered [] ys o p before = p
two_ordered (x ∷ xs) ys o p before = (both_lists (is_before x) xs ys o.0 before.0, two_ordered xs ys o.1 p before.1)

-- ---- tuples

-- with one element before them, tuples stay in order
with_first : (e : ℕ) (ts : List (List ℕ)) → Ordered ts → Ordered (map (λ es. e ∷ es) ts)
with_first e [] o = tt
with_first e (t ∷ ts) o =
    (of_mapped (is_before (e ∷ t)) (λ es. e ∷ es) ts (weaker (is_before t) (λ es. is_before (e ∷ t) (e ∷ es)) (λ es h. inr (refl, h)) ts o.0), with_first e ts o.1)

-- tuples are before those that begin with a later element
all_before : (e f : ℕ) (ts us : List (List ℕ)) → e < f → AllByRecursion (λ x. AllByRecursion (is_before x) (map (λ es. f ∷ es) us)) (map (λ es. e ∷ es) ts)
all_before e f ts us below =
    of_mapped (λ x. AllByRecursion (is_before x) (map (λ es. f ∷ es) us)) (λ es. e ∷ es) ts
    (of_all (λ x. AllByRecursion (is_before (e ∷ x)) (map (λ es. f ∷ es) us))
    (λ x. of_mapped (is_before (e ∷ x)) (λ es. f ∷ es) us (of_all (λ y. is_before (e ∷ x) (f ∷ y)) (λ y. inl below) us)) ts)

-- what is before each of the lists is before all that they have
before_flat : (t : List ℕ) (f : ℕ → List (List ℕ)) (es : List ℕ) → AllByRecursion (λ e. AllByRecursion (is_before t) (f e)) es → AllByRecursion (is_before t) (flat f es)
before_flat t f es all = of_flat (is_before t) f es all

flat_ordered : (ts : List (List ℕ)) (es : List ℕ) → Ordered ts → Ascending es → Ordered (flat (λ e. map (λ us. e ∷ us) ts) es)
flat_ordered ts [] o up = tt
flat_ordered ts (e ∷ es) o up =
    two_ordered (map (λ us. e ∷ us) ts) (flat (λ f. map (λ us. f ∷ us) ts) es) (with_first e ts o) (flat_ordered ts es o up.1)
    (of_mapped (λ x. AllByRecursion (is_before x) (flat (λ f. map (λ us. f ∷ us) ts) es)) (λ us. e ∷ us) ts
    (of_all (λ x. AllByRecursion (is_before (e ∷ x)) (flat (λ f. map (λ us. f ∷ us) ts) es))
    (λ x. before_flat (e ∷ x) (λ f. map (λ us. f ∷ us) ts) es
    (weaker (λ f. e < f) (λ f. AllByRecursion (is_before (e ∷ x)) (map (λ us. f ∷ us) ts))
    (λ f below. of_mapped (is_before (e ∷ x)) (λ us. f ∷ us) ts (of_all (λ y. is_before (e ∷ x) (f ∷ y)) (λ y. inl below) ts)) es up.0)) ts))

-- ---- the numbers of elements ascend

module _ (test : ℕ × Element → Bool) where
  numbers_after : (i : ℕ) (xs : List Element) → AllByRecursion (λ k. i ≤ k) (map (λ y. y.0) (filter test (enumerate_from i xs)))
  numbers_after i [] = tt
  numbers_after i (x ∷ xs) = go (test (i, x)) (weaker (λ k. i + 1 ≤ k) (λ k. i ≤ k) (λ k h. omega (arith, h)) (map (λ y. y.0) (filter test (enumerate_from (i + 1) xs))) (numbers_after (i + 1) xs))
    where
      go : (b : Bool) → AllByRecursion (λ k. i ≤ k) (map (λ y. y.0) (filter test (enumerate_from (i + 1) xs)))
          → AllByRecursion (λ k. i ≤ k) (map (λ y. y.0) (cond b ((i, x) ∷ filter test (enumerate_from (i + 1) xs)) (filter test (enumerate_from (i + 1) xs))))
      go true all = (omega arith, all)
      go false all = all

  numbers_ascend : (i : ℕ) (xs : List Element) → Ascending (map (λ y. y.0) (filter test (enumerate_from i xs)))
  numbers_ascend i [] = tt
  numbers_ascend i (x ∷ xs) = go (test (i, x)) (numbers_ascend (i + 1) xs)
    where
      go : (b : Bool) → Ascending (map (λ y. y.0) (filter test (enumerate_from (i + 1) xs)))
          → Ascending (map (λ y. y.0) (cond b ((i, x) ∷ filter test (enumerate_from (i + 1) xs)) (filter test (enumerate_from (i + 1) xs))))
      go true up = (weaker (λ k. i + 1 ≤ k) (λ k. i < k) (λ k h. omega (arith, h)) (map (λ y. y.0) (filter test (enumerate_from (i + 1) xs))) (numbers_after (i + 1) xs), up)
      go false up = up

pub tuples_ordered : (m : Model) (ts : List ℕ) → Ordered (tuples (whole_model m) ts)
tuples_ordered m [] = (tt, tt)
tuples_ordered m (t ∷ ts) =
    flat_ordered (tuples (whole_model m) ts) (elements_of_type (whole_model m) t) (tuples_ordered m ts)
    (numbers_ascend (λ y. is_a m.types y.1.of_type t) 0 m.elements)

-- ---- no tuple stands twice

not_before_itself : (t : List ℕ) → is_before t t → ⊥
not_before_itself [] h = h
not_before_itself (x ∷ xs) (inl below) = absurd (omega (arith, below))
not_before_itself (x ∷ xs) (inr h) = not_before_itself xs h.1

found_in : (P : List ℕ → Type 0) (ts : List (List ℕ)) (i : ℕ) (t : List ℕ) → AllByRecursion P ts → slice_get ts i ≡ Some t → P t
found_in P [] i t all at = absurd cc
found_in P (u ∷ ts) zero t all at = let same : u ≡ t = cc in subst P same all.0
found_in P (u ∷ ts) (suc i) t all at = found_in P ts i t all.1 at

pub once : (ts : List (List ℕ)) → Ordered ts → (i j : ℕ) (t : List ℕ) → slice_get ts i ≡ Some t → slice_get ts j ≡ Some t → i ≡ j
once [] o i j t at also = absurd cc
once (u ∷ ts) o zero zero t at also = refl
once (u ∷ ts) o zero (suc j) t at also =
    let same : u ≡ t = cc in absurd (not_before_itself t (subst (λ v. is_before v t) same (found_in (is_before u) ts j t o.0 also)))
once (u ∷ ts) o (suc i) zero t at also =
    let same : u ≡ t = cc in absurd (not_before_itself t (subst (λ v. is_before v t) same (found_in (is_before u) ts i t o.0 at)))
once (u ∷ ts) o (suc i) (suc j) t at also = ap suc (once ts o.1 i j t at also)
