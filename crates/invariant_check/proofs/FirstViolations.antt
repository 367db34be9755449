-- The first of the reached states, by distance, that violates.
use Rattle.std.proofs.Common.{◌≡◌, ◌<◌, ◌≤◌, ◌+◌, refl, sym, ap, ◌∙◌, ℕ, zero, suc, Bool, true, false, cond, List, [], ◌∷◌, ◌++◌, map, length, set, Option, Some, None, arith}
use Rattle.std.specs.Prelude.{◌==◌, ◌&&◌, not, filter, find, option_map, is_none}
use Rattle.std.specs.List.{enumerate_from}
use Rattle.std.proofs.lemmas.Bool.{false≢true, eqb-true, eq-eqb}
use Rattle.std.proofs.lemmas.Bool.Decides.{nat_tests}
use Rattle.meaning.specs.Texts.{flat, first_of_list, numbers_from, holds_at}
use Rattle.meaning.specs.Models.{Transition, PlainSystem}
use Rattle.meaning.specs.Queries.{is_empty}
use Rattle.meaning.specs.Systems.{Property, is_number, distance, violates, violating_states, last_state, is_refuted, step_back}
use Rattle.meaning.specs.Layers.{states_at_distance, states_by_distance}

-- ---- lists made of the numbers

pub holds_at_numbers : (g : ℕ → Bool) (k n i : ℕ) → i < n → holds_at (map g (numbers_from k n)) i ≡ g (k + i)
holds_at_numbers g k zero i l = absurd (omega (arith, l))
holds_at_numbers g k (suc n) zero l = let same : k ≡ k + 0 = omega arith in ap g same
holds_at_numbers g k (suc n) (suc i) l = let same : suc k + i ≡ k + suc i = omega arith in holds_at_numbers g (suc k) n i (omega (arith, l)) ∙ ap g same

pub map_numbers_same : {A : Type 0} (f g : ℕ → A) (k n : ℕ) → ((i : ℕ) → k ≤ i → i < k + n → f i ≡ g i) → map f (numbers_from k n) ≡ map g (numbers_from k n)
map_numbers_same f g k zero same = refl
map_numbers_same f g k (suc n) same =
    let here = same k (omega arith) (omega arith) in
    let later = map_numbers_same f g (suc k) n (λ i l m. same i (omega (arith, l)) (omega (arith, m))) in
    cc

-- one place of such a list set anew
pub set_numbers : {A : Type 0} (f g : ℕ → A) (k n i : ℕ) (v : A) → ((j : ℕ) → (j ≡ k + i → ⊥) → f j ≡ g j) → i < n → g (k + i) ≡ v
    → set (map f (numbers_from k n)) i v ≡ map g (numbers_from k n)
set_numbers f g k zero i v same l is = absurd (omega (arith, l))
set_numbers f g k (suc n) zero v same l is =
    let at : k + 0 ≡ k = omega arith in
    let here : g k ≡ v = ap g (sym at) ∙ is in
    let later = map_numbers_same f g (suc k) n (λ i l m. same i (λ e. omega (arith, e, l))) in
    cc
set_numbers f g k (suc n) (suc i) v same l is =
    let at : suc k + i ≡ k + suc i = omega arith in
    let here = same k (λ e. omega (arith, e)) in
    let later = set_numbers f g (suc k) n i v (λ j differ. same j (λ e. differ (e ∙ sym at))) (omega (arith, l)) (ap g at ∙ is) in
    cc

none_is : (k n m : ℕ) → m < k → filter (λ i. is_number i (Some m)) (numbers_from k n) ≡ []
none_is k zero m l = refl
none_is k (suc n) m l =
    let differ : (m == k) ≡ false = grind (arith, nat_tests) in
    ap (λ b. cond b (k ∷ filter (λ i. is_number i (Some m)) (numbers_from (suc k) n)) (filter (λ i. is_number i (Some m)) (numbers_from (suc k) n))) differ
    ∙ none_is (suc k) n m (omega (arith, l))

-- the one number that is a given one
pub one_is : (k n m : ℕ) → k ≤ m → m < k + n → filter (λ i. is_number i (Some m)) (numbers_from k n) ≡ m ∷ []
one_is k zero m l below = absurd (omega (arith, l, below))
one_is k (suc n) m l below = go (m == k) refl (one_is (suc k) n m)
  where
    go : (b : Bool) → (m == k) ≡ b → (suc k ≤ m → m < suc k + n → filter (λ i. is_number i (Some m)) (numbers_from (suc k) n) ≡ m ∷ [])
        → cond b (k ∷ filter (λ i. is_number i (Some m)) (numbers_from (suc k) n)) (filter (λ i. is_number i (Some m)) (numbers_from (suc k) n)) ≡ m ∷ []
    go true e later = let same : m ≡ k = eqb-true m k e in
        let rest = none_is (suc k) n m (omega (arith, same)) in cc
    go false e later = later (let differ : m ≡ k → ⊥ = λ u. false≢true (sym e ∙ eq-eqb m k u) in omega (arith, l, differ)) (omega (arith, below))

pub none_are : (k n : ℕ) → filter (λ i. is_number i None) (numbers_from k n) ≡ []
none_are k zero = refl
none_are k (suc n) = none_are (suc k) n

-- ---- a first item

abbrev pub or_else : {A : Type 0} → Option A → Option A → Option A
or_else None o = o
or_else (Some x) o = Some x

pub find_append : {A : Type 0} (p : A → Bool) (xs ys : List A) → find p (xs ++ ys) ≡ or_else (find p xs) (find p ys)
find_append p [] ys = refl
find_append p (x ∷ xs) ys = go (p x) (find_append p xs ys)
  where
    go : (b : Bool) → find p (xs ++ ys) ≡ or_else (find p xs) (find p ys) → cond b (Some x) (find p (xs ++ ys)) ≡ or_else (cond b (Some x) (find p xs)) (find p ys)
    go true later = refl
    go false later = later

first_append : {A : Type 0} (xs ys : List A) → first_of_list (xs ++ ys) ≡ or_else (first_of_list xs) (first_of_list ys)
first_append [] ys = refl
first_append (x ∷ xs) ys = refl

map_or_else : {A B : Type 0} (f : A → B) (a b : Option A) → option_map f (or_else a b) ≡ or_else (option_map f a) (option_map f b)
map_or_else f None b = refl
map_or_else f (Some x) b = refl

-- the first of what is kept is the first that passes both tests
pub find_filter : {A : Type 0} (p q : A → Bool) (xs : List A) → find q (filter p xs) ≡ find (λ x. p x && q x) xs
find_filter p q [] = refl
find_filter p q (x ∷ xs) = go (p x) (find_filter p q xs)
  where
    go : (b : Bool) → find q (filter p xs) ≡ find (λ y. p y && q y) xs
        → find q (cond b (x ∷ filter p xs) (filter p xs)) ≡ cond (b && q x) (Some x) (find (λ y. p y && q y) xs)
    go true later = ap (cond (q x) (Some x)) later
    go false later = later

pub find_map : {A B : Type 0} (f : A → B) (q : B → Bool) (xs : List A) → find q (map f xs) ≡ option_map f (find (λ x. q (f x)) xs)
find_map f q [] = refl
find_map f q (x ∷ xs) = go (q (f x)) (find_map f q xs)
  where
    go : (b : Bool) → find q (map f xs) ≡ option_map f (find (λ y. q (f y)) xs)
        → cond b (Some (f x)) (find q (map f xs)) ≡ option_map f (cond b (Some x) (find (λ y. q (f y)) xs))
    go true later = refl
    go false later = later

-- ---- the last state of a refuted check

abbrev pub state_of_pair : ℕ × ℕ → ℕ
state_of_pair l = l.1

module _ (labels : ℕ) (s : PlainSystem) (p : Property) where
  abbrev pub violations : List Bool
  violations = map (violates labels s p) (numbers_from 0 (length s.states))

  level : (d k m : ℕ) → k + m ≤ length s.states
      → option_map state_of_pair (find (λ l. holds_at violations l.1) (map (λ x. (d, x)) (filter (λ x. is_number d (distance s x)) (numbers_from k m))))
      ≡ first_of_list (filter (λ x. is_number d (distance s x) && violates labels s p x) (numbers_from k m))
  level d k zero l = refl
  level d k (suc m) l =
      go (is_number d (distance s k)) (violates labels s p k) (let same : 0 + k ≡ k = omega arith in holds_at_numbers (violates labels s p) 0 (length s.states) k (omega (arith, l)) ∙ ap (violates labels s p) same)
      (level d (suc k) m (omega (arith, l)))
    where
      rest : List ℕ
      rest = numbers_from (suc k) m

      go : (b c : Bool) → holds_at violations k ≡ c
          → option_map state_of_pair (find (λ l. holds_at violations l.1) (map (λ x. (d, x)) (filter (λ x. is_number d (distance s x)) rest)))
          ≡ first_of_list (filter (λ x. is_number d (distance s x) && violates labels s p x) rest)
          → option_map state_of_pair (find (λ l. holds_at violations l.1) (map (λ x. (d, x)) (cond b (k ∷ filter (λ x. is_number d (distance s x)) rest) (filter (λ x. is_number d (distance s x)) rest))))
          ≡ first_of_list (cond (b && c) (k ∷ filter (λ x. is_number d (distance s x) && violates labels s p x) rest) (filter (λ x. is_number d (distance s x) && violates labels s p x) rest))
      go true true e later = ap (λ b. option_map state_of_pair (cond b (Some (d, k)) (find (λ l. holds_at violations l.1) (map (λ x. (d, x)) (filter (λ x. is_number d (distance s x)) rest))))) e
      go true false e later = ap (λ b. option_map state_of_pair (cond b (Some (d, k)) (find (λ l. holds_at violations l.1) (map (λ x. (d, x)) (filter (λ x. is_number d (distance s x)) rest))))) e ∙ later
      go false c e later = later

  levels : (k m : ℕ)
      → option_map state_of_pair (find (λ l. holds_at violations l.1) (flat (states_at_distance s) (numbers_from k m)))
      ≡ first_of_list (flat (λ n. filter (λ x. is_number n (distance s x) && violates labels s p x) (numbers_from 0 (length s.states))) (numbers_from k m))
  levels k zero = refl
  levels k (suc m) =
      ap (option_map state_of_pair) (find_append (λ l. holds_at violations l.1) (states_at_distance s k) (flat (states_at_distance s) (numbers_from (suc k) m)))
      ∙ map_or_else state_of_pair (find (λ l. holds_at violations l.1) (states_at_distance s k)) (find (λ l. holds_at violations l.1) (flat (states_at_distance s) (numbers_from (suc k) m)))
      ∙ ap (λ o. or_else o (option_map state_of_pair (find (λ l. holds_at violations l.1) (flat (states_at_distance s) (numbers_from (suc k) m))))) (level k 0 (length s.states) (omega arith))
      ∙ ap (or_else (first_of_list (filter (λ x. is_number k (distance s x) && violates labels s p x) (numbers_from 0 (length s.states))))) (levels (suc k) m)
      ∙ sym (first_append (filter (λ x. is_number k (distance s x) && violates labels s p x) (numbers_from 0 (length s.states)))
      (flat (λ n. filter (λ x. is_number n (distance s x) && violates labels s p x) (numbers_from 0 (length s.states))) (numbers_from (suc k) m)))

  -- the last state is the first by distance, then number, that violates
  pub last_is_first : option_map state_of_pair (find (λ l. holds_at violations l.1) (states_by_distance s)) ≡ last_state labels s p
  last_is_first = levels 0 (length s.states)

  pub refuted_has_last : is_refuted labels s p ≡ not (is_none (last_state labels s p))
  refuted_has_last = go (violating_states labels s p)
    where
      go : (xs : List ℕ) → not (is_empty xs) ≡ not (is_none (first_of_list xs))
      go [] = refl
      go (x ∷ xs) = refl

-- ---- the step back

module _ {A : Type 0} (g h : ℕ × A → Bool) where
  number_past : (k j : ℕ) (xs : List A) → j < k → is_number j (option_map (λ x. x.0) (find g (filter h (enumerate_from k xs)))) ≡ false
  number_past k j [] l = refl
  number_past k j (x ∷ xs) l = go (h (k, x)) (g (k, x)) refl (number_past (k + 1) j xs (omega (arith, l)))
    where
      differ : (k == j) ≡ false
      differ = grind (arith, nat_tests)

      rest : List (ℕ × A)
      rest = filter h (enumerate_from (k + 1) xs)

      go : (b c : Bool) → g (k, x) ≡ c → is_number j (option_map (λ y. y.0) (find g rest)) ≡ false
          → is_number j (option_map (λ y. y.0) (find g (cond b ((k, x) ∷ rest) rest))) ≡ false
      go true true e later = ap (λ c. is_number j (option_map (λ y. y.0) (cond c (Some (k, x)) (find g rest)))) e ∙ differ
      go true false e later = ap (λ c. is_number j (option_map (λ y. y.0) (cond c (Some (k, x)) (find g rest)))) e ∙ later
      go false c e later = later

  -- the item with the number of a found item, among all
  pub found_by_number : (t : ℕ × A → Bool) → ((x : ℕ × A) → g x ≡ true → t x ≡ true) → (k : ℕ) (xs : List A)
      → find (λ x. t x && is_number x.0 (option_map (λ y. y.0) (find g (filter h (enumerate_from k xs))))) (enumerate_from k xs) ≡ find g (filter h (enumerate_from k xs))
  found_by_number t implies k [] = refl
  found_by_number t implies k (x ∷ xs) = go (h (k, x)) (g (k, x)) (t (k, x)) refl refl (found_by_number t implies (k + 1) xs)
    where
      rest : List (ℕ × A)
      rest = filter h (enumerate_from (k + 1) xs)

      among : Option (ℕ × A) → Option (ℕ × A)
      among o = find (λ x. t x && is_number x.0 (option_map (λ y. y.0) o)) (enumerate_from (k + 1) xs)

      here : Bool → Option (ℕ × A) → Bool
      here c o = c && is_number k (option_map (λ y. y.0) o)

      passed : (c : Bool) → among (find g rest) ≡ find g rest
          → cond (here c (find g rest)) (Some (k, x)) (among (find g rest)) ≡ find g rest
      passed true later = ap (λ b. cond b (Some (k, x)) (among (find g rest))) (number_past (k + 1) k xs (omega arith)) ∙ later
      passed false later = later

      go : (b c d : Bool) → g (k, x) ≡ c → t (k, x) ≡ d → among (find g rest) ≡ find g rest
          → cond (here d (find g (cond b ((k, x) ∷ rest) rest))) (Some (k, x)) (among (find g (cond b ((k, x) ∷ rest) rest))) ≡ find g (cond b ((k, x) ∷ rest) rest)
      go true true true e f later =
          ap (λ o. cond (here true o) (Some (k, x)) (among o)) (ap (λ c. cond c (Some (k, x)) (find g rest)) e)
          ∙ ap (λ b. cond b (Some (k, x)) (among (Some (k, x)))) (eq-eqb k k refl)
          ∙ sym (ap (λ c. cond c (Some (k, x)) (find g rest)) e)
      go true true false e f later = absurd (false≢true (sym f ∙ implies (k, x) e))
      go true false d e f later =
          ap (λ o. cond (here d o) (Some (k, x)) (among o)) (ap (λ c. cond c (Some (k, x)) (find g rest)) e)
          ∙ passed d later
          ∙ sym (ap (λ c. cond c (Some (k, x)) (find g rest)) e)
      go false c d e f later = passed d later

-- the step back to a state, if its distance is above 0
abbrev pub step_before : PlainSystem → ℕ → Option ℕ → Option (ℕ × Transition)
step_before s y None = None
step_before s y (Some zero) = None
step_before s y (Some (suc n)) = step_back s n y

is_same : (a b : ℕ) → (a == b) ≡ true → a ≡ b
is_same a b e = eqb-true a b e
