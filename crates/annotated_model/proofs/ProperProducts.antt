-- In every product of a model whose numbers are in range, the systems are proper and the links join elements.
use Rattle.std.proofs.Common.{◌≡◌, refl, sym, ap, ◌∙◌, subst, ℕ, zero, suc, ◌+◌, ◌≤◌, List, [], ◌∷◌, map, Bool, true, false, cond, Some, arith}
use Rattle.std.specs.Prelude.{◌==◌, ◌&&◌, filter, find, Contains}
use Rattle.std.specs.List.{All, AllByRecursion, enumerate_from}
use Rattle.std.proofs.lemmas.Bool.{eq-eqb}
use Rattle.std.proofs.lemmas.Bool.Decides.{nat_tests}
use Rattle.std.proofs.lemmas.List.Elements.{All-from_recursion, recursion_from_All, All-contains}
use Rattle.meaning.specs.Texts.{numbered}
use Rattle.meaning.specs.Expressions.{truth}
use Rattle.meaning.specs.Models.{Element, Link, System, Model, has_element, projection, model_at}
use Rattle.meaning.specs.Queries.{LinksJoinElements}
use Rattle.meaning.specs.Systems.{IsProperSystem}
use Rattle.annotated_model.specs.ModelFacts.{TransitionFits, SystemFits, KeepsRules, HasProperProducts}
use Rattle.annotated_model.proofs.ItemFacts.{weaker, left_true, right_true}

module _ {X : Type 0} where
  -- each item with its number keeps what holds of the item
  numbered_all : (P : X → Type 0) (i : ℕ) (xs : List X) → AllByRecursion P xs → AllByRecursion (λ y. P y.1) (enumerate_from i xs)
  numbered_all P i [] h = tt
  numbered_all P i (x ∷ xs) h = (h.0, numbered_all P (i + 1) xs h.1)

  -- the numbers begin at the first
  numbers_from_first : (i : ℕ) (xs : List X) → AllByRecursion (λ y. i ≤ y.0) (enumerate_from i xs)
  numbers_from_first i [] = tt
  numbers_from_first i (x ∷ xs) =
      (omega arith, weaker (λ y. i + 1 ≤ y.0) (λ y. i ≤ y.0) (λ y h. omega (arith, h)) (enumerate_from (i + 1) xs) (numbers_from_first (i + 1) xs))

module _ {X : Type 0} (test : X → Bool) where
  filtered_all : (P : X → Type 0) (xs : List X) → AllByRecursion P xs → AllByRecursion P (filter test xs)
  filtered_all P [] h = tt
  filtered_all P (x ∷ xs) h = go (test x) (filtered_all P xs h.1)
    where
      go : (b : Bool) → AllByRecursion P (filter test xs) → AllByRecursion P (cond b (x ∷ filter test xs) (filter test xs))
      go true rest = (h.0, rest)
      go false rest = rest

  all_pass : (xs : List X) → AllByRecursion (λ x. test x ≡ true) (filter test xs)
  all_pass [] = tt
  all_pass (x ∷ xs) = go (test x) refl (all_pass xs)
    where
      go : (b : Bool) → test x ≡ b → AllByRecursion (λ y. test y ≡ true) (filter test xs) → AllByRecursion (λ y. test y ≡ true) (cond b (x ∷ filter test xs) (filter test xs))
      go true e rest = (e, rest)
      go false e rest = rest

-- ---- systems

module _ {X : Type 0} (test : ℕ × X → Bool) where
  not_before : (i : ℕ) (xs : List X) (t : ℕ × X) → Contains (filter test (enumerate_from (i + 1) xs)) t → (i == t.0) ≡ false
  not_before i xs t d =
      let above : i + 1 ≤ t.0 =
      All-contains (λ y. i + 1 ≤ y.0) (filter test (enumerate_from (i + 1) xs)) t
      (All-from_recursion (λ y. i + 1 ≤ y.0) (filter test (enumerate_from (i + 1) xs))
      (filtered_all test (λ y. i + 1 ≤ y.0) (enumerate_from (i + 1) xs) (numbers_from_first (i + 1) xs))) d in
      grind (arith, nat_tests)

  -- each is the first with its number
  first_with_number : (i : ℕ) (xs : List X) (t : ℕ × X) → Contains (filter test (enumerate_from i xs)) t
      → find (λ p. p.0 == t.0) (filter test (enumerate_from i xs)) ≡ Some t
  first_with_number i [] t c = let past = c.1 in absurd (omega arith)
  first_with_number i (x ∷ xs) t c = go (test (i, x)) (first_with_number (i + 1) xs t) c
    where
      go : (b : Bool) → (Contains (filter test (enumerate_from (i + 1) xs)) t → find (λ p. p.0 == t.0) (filter test (enumerate_from (i + 1) xs)) ≡ Some t)
          → Contains (cond b ((i, x) ∷ filter test (enumerate_from (i + 1) xs)) (filter test (enumerate_from (i + 1) xs))) t
          → find (λ p. p.0 == t.0) (cond b ((i, x) ∷ filter test (enumerate_from (i + 1) xs)) (filter test (enumerate_from (i + 1) xs))) ≡ Some t
      go true after (zero, l, h) =
          let same : (i == t.0) ≡ true = eq-eqb i t.0 (ap (λ y. y.0) h) in
          ap (λ b. cond b (Some (i, x)) (find (λ p. p.0 == t.0) (filter test (enumerate_from (i + 1) xs)))) same ∙ ap Some h
      go true after (suc k, l, h) =
          let d : Contains (filter test (enumerate_from (i + 1) xs)) t = (k, omega (arith, l), h) in
          ap (λ b. cond b (Some (i, x)) (find (λ p. p.0 == t.0) (filter test (enumerate_from (i + 1) xs)))) (not_before i xs t d) ∙ after d
      go false after d = after d

module _ (m : Model) (s : System) (fits : SystemFits m s) (w : List Bool) where
  transitions_fit : All (λ t. TransitionFits s t.1) (projection w s).transitions
  transitions_fit =
      All-from_recursion (λ t. TransitionFits s t.1) (projection w s).transitions
      (filtered_all (λ t. truth t.1.presence w) (λ t. TransitionFits s t.1) (numbered s.transitions)
      (numbered_all (TransitionFits s) 0 s.transitions (recursion_from_All (TransitionFits s) s.transitions fits.transitions)))

  pub projection_is_proper : IsProperSystem (projection w s)
  projection_is_proper = record {
    from_states = λ t c. (All-contains (λ t. TransitionFits s t.1) (projection w s).transitions t transitions_fit c).source;
    to_states = λ t c. (All-contains (λ t. TransitionFits s t.1) (projection w s).transitions t transitions_fit c).target;
    numbers_differ = λ t c. first_with_number (λ t. truth t.1.presence w) 0 s.transitions t c;
  }

-- ---- links

-- an element that is there has its number among those of the product
numbered_there : (w : List Bool) (i : ℕ) (xs : List Element) (e n : ℕ) → n ≡ i + e → has_element xs w e ≡ true
    → Contains (map (λ y. y.0) (filter (λ y. truth y.1.presence w) (enumerate_from i xs))) n
numbered_there w i [] e n is there = absurd cc
numbered_there w i (x ∷ xs) zero n is there =
    subst (λ b. Contains (map (λ y. y.0) (cond b ((i, x) ∷ filter (λ y. truth y.1.presence w) (enumerate_from (i + 1) xs)) (filter (λ y. truth y.1.presence w) (enumerate_from (i + 1) xs)))) n)
    (sym there) (0, omega arith, (let same : i ≡ n = omega arith in same))
numbered_there w i (x ∷ xs) (suc e) n is there =
    go (truth x.presence w) (numbered_there w (i + 1) xs e n (omega arith) there)
  where
    go : (b : Bool) → Contains (map (λ y. y.0) (filter (λ y. truth y.1.presence w) (enumerate_from (i + 1) xs))) n
        → Contains (map (λ y. y.0) (cond b ((i, x) ∷ filter (λ y. truth y.1.presence w) (enumerate_from (i + 1) xs)) (filter (λ y. truth y.1.presence w) (enumerate_from (i + 1) xs)))) n
    go true (k, l, h) = (suc k, omega (arith, l), h)
    go false c = c

module _ (m : Model) (w : List Bool) where
  there : Link → Bool
  there l = truth l.presence w && has_element m.elements w l.source && has_element m.elements w l.target

  pub links_join_elements : LinksJoinElements (model_at m w)
  unfolding model_at there
  links_join_elements l c =
      let passes : there l ≡ true = All-contains (λ l. there l ≡ true) (filter there m.links) l (All-from_recursion (λ l. there l ≡ true) (filter there m.links) (all_pass there m.links)) c in (
        numbered_there w 0 m.elements l.source l.source (omega arith) (right_true _ _ (left_true _ _ passes)),
        numbered_there w 0 m.elements l.target l.target (omega arith) (right_true _ _ passes),
      )

-- in every product of a model whose numbers are in range, each system is proper, and each link joins elements
pub products_are_proper : (m : Model) → KeepsRules m → HasProperProducts m
products_are_proper m keeps = record {
  systems = λ w s c. projection_is_proper m s (All-contains (SystemFits m) m.systems s keeps.systems c) w;
  links = λ w. links_join_elements m w;
}
