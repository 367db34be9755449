-- Distances in a transition system: what each tells of runs, and how the states at one distance are found from those before.
use Rattle.std.proofs.Common.{◌≡◌, ◌∙◌, refl, sym, ap, subst, ℕ, zero, suc, ◌+◌, ◌-◌, ◌<◌, ◌≤◌, ◌⊎◌, inl, inr, List, [], ◌∷◌, ◌++◌, map, length, Bool, true, false, arith}
use Rattle.std.specs.Prelude.{◌==◌, ◌&&◌, ◌||◌, not, nat_le, if◌then◌else◌, Option, Some, None, option_map, find}
use Rattle.std.specs.List.{Contains, list_any}
use Rattle.std.proofs.lemmas.Bool.{false≢true, eqb-true, eq-eqb}
use Rattle.meaning.specs.Texts.{numbers_from, holds_at}
use Rattle.meaning.specs.Models.{Transition, PlainSystem}
use Rattle.meaning.specs.Systems.{ends_after, distance, is_number, is_some_number, is_reachable, step_back, IsProperSystem}
use Rattle.meaning.specs.Layers.{is_within}
use Rattle.meaning.specs.Tidy.{is_step_back}

-- ---- truth values

pub true_or_false : (b : Bool) → (b ≡ true) ⊎ (b ≡ false)
true_or_false true = inl refl
true_or_false false = inr refl

pub both_true : (a b : Bool) → (a && b) ≡ true → (a ≡ true) × (b ≡ true)
both_true true b h = (refl, h)
both_true false b h = absurd (false≢true h)

pub false_if_not : (b : Bool) → (b ≡ true → ⊥) → b ≡ false
false_if_not true h = absurd (h refl)
false_if_not false h = refl

pub same_if_both : (a b : Bool) → (a ≡ true → b ≡ true) → (b ≡ true → a ≡ true) → a ≡ b
same_if_both true b f g = sym (f refl)
same_if_both false b f g = sym (false_if_not b (λ h. false≢true (g h)))

-- ---- lists

module _ {X : Type 0} where
  pub contains_later : (y x : X) (xs : List X) → Contains xs x → Contains (y ∷ xs) x
  contains_later y x xs h = (suc h.0, let below = h.1 in omega (arith, below), h.2)

  pub first_contained : (x : X) (xs : List X) → Contains (x ∷ xs) x
  first_contained x xs = (0, omega arith, refl)

  pub any_some : (p : X → Bool) (xs : List X) → list_any p xs ≡ true → (x : X) × Contains xs x × (p x ≡ true)
  any_some p [] h = absurd (false≢true h)
  any_some p (y ∷ xs) h = go (p y) refl (any_some p xs) h
    where
      go : (b : Bool) → p y ≡ b → (list_any p xs ≡ true → (x : X) × Contains xs x × (p x ≡ true)) → (b || list_any p xs) ≡ true → (x : X) × Contains (y ∷ xs) x × (p x ≡ true)
      go true e later g = (y, first_contained y xs, e)
      go false e later g = let r = later g in (r.0, contains_later y r.0 xs r.1, r.2)

  pub any_has : (p : X → Bool) (xs : List X) (x : X) → Contains xs x → p x ≡ true → list_any p xs ≡ true
  any_has p [] x h passes = absurd (let below = h.1 in omega (arith, below))
  any_has p (y ∷ xs) x (zero, below, is) passes = let here : p y ≡ true = ap p is ∙ passes in rw here refl
  any_has p (y ∷ xs) x (suc k, below, is) passes = go (p y) (any_has p xs x (k, omega (arith, below), is) passes)
    where
      go : (b : Bool) → list_any p xs ≡ true → (b || list_any p xs) ≡ true
      go true rest = refl
      go false rest = rest

  -- what is found is there and passes
  pub found : (p : X → Bool) (xs : List X) (x : X) → find p xs ≡ Some x → Contains xs x × (p x ≡ true)
  found p [] x h = absurd cc
  found p (y ∷ xs) x h = go (p y) refl (found p xs x) h
    where
      go : (b : Bool) → p y ≡ b → (find p xs ≡ Some x → Contains xs x × (p x ≡ true)) → (if b then Some y else find p xs) ≡ Some x → Contains (y ∷ xs) x × (p x ≡ true)
      go true e later g = let same : y ≡ x = cc in ((0, omega arith, same), ap p (sym same) ∙ e)
      go false e later g = let r = later g in (contains_later y x xs r.0, r.1)

  pub none_found : (p : X → Bool) (xs : List X) (x : X) → find p xs ≡ None → Contains xs x → p x ≡ false
  none_found p [] x h c = absurd (let below = c.1 in omega (arith, below))
  none_found p (y ∷ xs) x h c = go (p y) refl (none_found p xs x) h c
    where
      go : (b : Bool) → p y ≡ b → (find p xs ≡ None → Contains xs x → p x ≡ false) → (if b then Some y else find p xs) ≡ None → Contains (y ∷ xs) x → p x ≡ false
      go true e later g k = absurd cc
      go false e later g (zero, below, is) = ap p (sym is) ∙ e
      go false e later g (suc k, below, is) = later g (k, omega (arith, below), is)

-- ---- numbers in a row

pub numbers_push : (k n : ℕ) → numbers_from k (suc n) ≡ numbers_from k n ++ (k + n) ∷ []
numbers_push k zero = let same : k ≡ k + 0 = omega arith in ap (λ i. i ∷ []) same
numbers_push k (suc n) =
    let same : suc k + n ≡ k + suc n = omega arith in
    ap (λ xs. k ∷ xs) (numbers_push (suc k) n ∙ ap (λ i. numbers_from (suc k) n ++ i ∷ []) same)

pub length_numbers : (k n : ℕ) → length (numbers_from k n) ≡ n
length_numbers k zero = refl
length_numbers k (suc n) = ap suc (length_numbers (suc k) n)

pub holds_of_numbers : (f : ℕ → Bool) (k n i : ℕ) → i < n → holds_at (map f (numbers_from k n)) i ≡ f (k + i)
holds_of_numbers f k zero i below = absurd (omega (arith, below))
holds_of_numbers f k (suc n) zero below = let same : k ≡ k + 0 = omega arith in ap f same
holds_of_numbers f k (suc n) (suc i) below =
    let same : suc k + i ≡ k + suc i = omega arith in
    holds_of_numbers f (suc k) n i (omega (arith, below)) ∙ ap f same

-- from 0 on
pub holds_at_number : (f : ℕ → Bool) (n i : ℕ) → i < n → holds_at (map f (numbers_from 0 n)) i ≡ f i
holds_at_number f n i below = let same : 0 + i ≡ i = omega arith in holds_of_numbers f 0 n i below ∙ ap f same

pub holds_past_numbers : (f : ℕ → Bool) (k n i : ℕ) → n ≤ i → holds_at (map f (numbers_from k n)) i ≡ false
holds_past_numbers f k zero i past = refl
holds_past_numbers f k (suc n) zero past = absurd (omega (arith, past))
holds_past_numbers f k (suc n) (suc i) past = holds_past_numbers f (suc k) n i (omega (arith, past))

-- the first number that passes
pub record IsFirstNumber (p : ℕ → Bool) (k n d : ℕ) : Type 0 where
  pub passes : p d ≡ true
  pub from : k ≤ d
  pub below : d < k + n
  pub first : (j : ℕ) → k ≤ j → j < d → p j ≡ false

first_later : (p : ℕ → Bool) (k n d : ℕ) → p k ≡ false → IsFirstNumber p (suc k) n d → IsFirstNumber p k (suc n) d
first_later p k n d fails h = record {
  passes = h.passes;
  from = omega (arith, h.from);
  below = omega (arith, h.below);
  first = λ j from below. go j (true_or_false (nat_le (suc k) j)) from below;
}
  where
    go : (j : ℕ) → (nat_le (suc k) j ≡ true) ⊎ (nat_le (suc k) j ≡ false) → k ≤ j → j < d → p j ≡ false
    go j (inl later) from below = h.first j (grind (arith, later)) below
    go j (inr now) from below = let same : k ≡ j = grind (arith, now, from) in ap p (sym same) ∙ fails

pub number_found : (p : ℕ → Bool) (k n d : ℕ) → find p (numbers_from k n) ≡ Some d → IsFirstNumber p k n d
number_found p k zero d h = absurd cc
number_found p k (suc n) d h = go (p k) refl (number_found p (suc k) n d) h
  where
    go : (b : Bool) → p k ≡ b → (find p (numbers_from (suc k) n) ≡ Some d → IsFirstNumber p (suc k) n d) → (if b then Some k else find p (numbers_from (suc k) n)) ≡ Some d → IsFirstNumber p k (suc n) d
    go true e later g =
        let same : k ≡ d = cc in
        record { passes = ap p (sym same) ∙ e; from = omega (arith, same); below = omega (arith, same); first = λ j from below. absurd (omega (arith, same, from, below)) }
    go false e later g = first_later p k n d e (later g)

-- where a number passes, one is found that isn't greater
pub number_some : (p : ℕ → Bool) (k n d : ℕ) → k ≤ d → d < k + n → p d ≡ true → (e : ℕ) × (find p (numbers_from k n) ≡ Some e) × (e ≤ d)
number_some p k zero d from below passes = absurd (omega (arith, from, below))
number_some p k (suc n) d from below passes = go (p k) refl (λ more. number_some p (suc k) n d more (omega (arith, below)) passes)
  where
    go : (b : Bool) → p k ≡ b → (suc k ≤ d → (e : ℕ) × (find p (numbers_from (suc k) n) ≡ Some e) × (e ≤ d)) → (e : ℕ) × ((if b then Some k else find p (numbers_from (suc k) n)) ≡ Some e) × (e ≤ d)
    go true e later = (k, refl, from)
    go false e later =
        let other : (k ≡ d) → ⊥ = λ same. false≢true (sym e ∙ ap p same ∙ passes) in
        later (grind (arith, other, from))

-- ---- runs of so many transitions, and distances

-- a run of exactly n transitions ends in the state
abbrev pub EndsAfter : PlainSystem → ℕ → ℕ → Type 0
EndsAfter s n y = holds_at (ends_after s n) y ≡ true

-- what the last of its transitions is
pub last_step : (s : PlainSystem) (n y : ℕ) → EndsAfter s (suc n) y → (t : ℕ × Transition) × Contains s.transitions t × (t.1.target ≡ y) × EndsAfter s n t.1.source
last_step s n y h = go (true_or_false (nat_le (suc y) (length s.states)))
  where
    into : ℕ → ℕ × Transition → Bool
    into x t = (t.1.target == x) && holds_at (ends_after s n) t.1.source

    go : (nat_le (suc y) (length s.states) ≡ true) ⊎ (nat_le (suc y) (length s.states) ≡ false) → (t : ℕ × Transition) × Contains s.transitions t × (t.1.target ≡ y) × EndsAfter s n t.1.source
    go (inl below) =
        let is = holds_at_number (λ x. list_any (into x) s.transitions) (length s.states) y (grind (arith, below)) in
        let r = any_some (into y) s.transitions (sym is ∙ h) in
        let both = both_true (r.0.1.target == y) (holds_at (ends_after s n) r.0.1.source) r.2 in
        (r.0, r.1, eqb-true r.0.1.target y both.0, both.1)
    go (inr past) =
        let is = holds_past_numbers (λ x. list_any (into x) s.transitions) 0 (length s.states) y (grind (arith, past)) in
        absurd (false≢true (sym is ∙ h))

pub one_step_more : (s : PlainSystem) (n : ℕ) (t : ℕ × Transition) → IsProperSystem s → Contains s.transitions t → EndsAfter s n t.1.source → EndsAfter s (suc n) t.1.target
one_step_more s n t proper there before =
    let into : ℕ → ℕ × Transition → Bool = λ x u. (u.1.target == x) && holds_at (ends_after s n) u.1.source in
    let here : into t.1.target t ≡ true = rw (eq-eqb t.1.target t.1.target refl, before) refl in
    holds_at_number (λ x. list_any (into x) s.transitions) (length s.states) t.1.target (proper.to_states t there)
    ∙ any_has (into t.1.target) s.transitions t there here

pub distance_is : (s : PlainSystem) (y d : ℕ) → distance s y ≡ Some d → IsFirstNumber (λ n. holds_at (ends_after s n) y) 0 (length s.states) d
distance_is s y d h = number_found (λ n. holds_at (ends_after s n) y) 0 (length s.states) d h

pub distance_below : (s : PlainSystem) (y d : ℕ) → distance s y ≡ Some d → d < length s.states
distance_below s y d h = let is = distance_is s y d h in omega (arith, is.below)

pub distance_at_most : (s : PlainSystem) (y d : ℕ) → d < length s.states → EndsAfter s d y → (e : ℕ) × (distance s y ≡ Some e) × (e ≤ d)
distance_at_most s y d below ends = number_some (λ n. holds_at (ends_after s n) y) 0 (length s.states) d (omega arith) (omega (arith, below)) ends

-- ---- one layer from the one before

-- a state at a distance above 0 is the end of a transition from a state that is nearer by one
pub from_nearer : (s : PlainSystem) (y d : ℕ) → IsProperSystem s → distance s y ≡ Some (suc d) → (t : ℕ × Transition) × Contains s.transitions t × (t.1.target ≡ y) × (distance s t.1.source ≡ Some d)
from_nearer s y d proper h =
    let is = distance_is s y (suc d) h in
    let r = last_step s d y is.passes in
    let near = distance_at_most s r.0.1.source d (omega (arith, is.below)) r.3 in
    (r.0, r.1, r.2, go r.0 r.1 r.2 near.0 near.1 near.2 is)
  where
    go : (t : ℕ × Transition) → Contains s.transitions t → t.1.target ≡ y → (e : ℕ) → distance s t.1.source ≡ Some e → e ≤ d
        → IsFirstNumber (λ n. holds_at (ends_after s n) y) 0 (length s.states) (suc d) → distance s t.1.source ≡ Some d
    go t there target e at most is =
        let other : (e < d) → ⊥ = λ less.
        let ends = one_step_more s e t proper there ((distance_is s t.1.source e at).passes) in
        false≢true (sym (is.first (suc e) (omega arith) (omega (arith, less))) ∙ subst (EndsAfter s (suc e)) target ends) in
        let same : e ≡ d = grind (arith, most, other) in
        at ∙ ap Some same

-- a transition from a state leads to one that is further by one, where no run to it is as short as to the state
pub leads_further : (s : PlainSystem) (d : ℕ) (t : ℕ × Transition) → IsProperSystem s → Contains s.transitions t → distance s t.1.source ≡ Some d → suc d < length s.states
    → ((e : ℕ) → distance s t.1.target ≡ Some e → d < e) → distance s t.1.target ≡ Some (suc d)
leads_further s d t proper there at below far =
    let ends = one_step_more s d t proper there ((distance_is s t.1.source d at).passes) in
    let near = distance_at_most s t.1.target (suc d) below ends in
    let further = far near.0 near.1 in
    let same : near.0 ≡ suc d = omega (arith, further, near.2) in
    near.1 ∙ ap Some same

-- the first transition into a state from the states at a distance is there, and leads so
step_back_is : (s : PlainSystem) (d y : ℕ) (t : ℕ × Transition) → step_back s d y ≡ Some t → Contains s.transitions t × (t.1.target ≡ y) × (distance s t.1.source ≡ Some d)
step_back_is s d y t h =
    let r = found (λ t. (t.1.target == y) && is_number d (distance s t.1.source)) s.transitions t h in
    let both = both_true (t.1.target == y) (is_number d (distance s t.1.source)) r.1 in
    (r.0, eqb-true t.1.target y both.0, number_is d (distance s t.1.source) both.1)
  where
    number_is : (d : ℕ) (o : Option ℕ) → is_number d o ≡ true → o ≡ Some d
    number_is d None g = absurd (false≢true g)
    number_is d (Some k) g = ap Some (eqb-true k d g)

is_itself : (d : ℕ) → is_number d (Some d) ≡ true
is_itself d = eq-eqb d d refl

-- a state at a distance above 0 has a transition back
step_back_there : (s : PlainSystem) (y d : ℕ) → IsProperSystem s → distance s y ≡ Some (suc d) → (t : ℕ × Transition) × (step_back s d y ≡ Some t)
step_back_there s y d proper h = go (step_back s d y) refl
  where
    go : (o : Option (ℕ × Transition)) → step_back s d y ≡ o → (t : ℕ × Transition) × (step_back s d y ≡ Some t)
    go (Some t) e = (t, e)
    go None e =
        let r = from_nearer s y d proper h in
        let passes : ((r.0.1.target == y) && is_number d (distance s r.0.1.source)) ≡ true = rw (eq-eqb r.0.1.target y r.2, r.3, is_itself d) refl in
        absurd (false≢true (sym (none_found (λ t. (t.1.target == y) && is_number d (distance s t.1.source)) s.transitions r.0 e r.1) ∙ passes))

-- a state that is no nearer than so far, and not at the next distance, has none
no_step_back : (s : PlainSystem) (y d : ℕ) → IsProperSystem s → suc d < length s.states → ((e : ℕ) → distance s y ≡ Some e → suc d < e) → step_back s d y ≡ None
no_step_back s y d proper below far = go (step_back s d y) refl
  where
    go : (o : Option (ℕ × Transition)) → step_back s d y ≡ o → step_back s d y ≡ None
    go None e = e
    go (Some t) e =
        let r = step_back_is s d y t e in
        let next = leads_further s d t proper r.0 r.2 below (λ e at. let more = far e (ap (distance s) (sym r.1) ∙ at) in omega (arith, more)) in
        let more = far (suc d) (ap (distance s) (sym r.1) ∙ next) in
        absurd (omega (arith, more))

-- the number of the first transition into a state from the states at a distance
abbrev pub number_back : PlainSystem → ℕ → ℕ → Option ℕ
number_back s d y = option_map (λ t. t.0) (step_back s d y)

-- where a distance stands to a bound
data Stands (s : PlainSystem) (y d : ℕ) : Type 0 where
  nearer : (e : ℕ) → distance s y ≡ Some e → nat_le e d ≡ true → nat_le e (suc d) ≡ true → (e == suc d) ≡ false → Stands s y d
  next : distance s y ≡ Some (suc d) → nat_le (suc d) d ≡ false → Stands s y d
  further : is_within d (distance s y) ≡ false → is_within (suc d) (distance s y) ≡ false → is_number (suc d) (distance s y) ≡ false
      → ((e : ℕ) → distance s y ≡ Some e → suc d < e) → Stands s y d

stands : (s : PlainSystem) (y d : ℕ) → Stands s y d
stands s y d = go (distance s y) refl
  where
    at : (e : ℕ) → distance s y ≡ Some e → (b c : Bool) → nat_le e d ≡ b → (e == suc d) ≡ c → Stands s y d
    at e is true true near same = absurd (let here = eqb-true e (suc d) same in grind (arith, near, here))
    at e is true false near other = nearer e is near (grind (arith, near)) other
    at e is false true past same =
        let here : e ≡ suc d = eqb-true e (suc d) same in
        next (is ∙ ap Some here) (ap (λ k. nat_le k d) (sym here) ∙ past)
    at e is false false past other =
        let differ : (e ≡ suc d) → ⊥ = λ same. false≢true (sym other ∙ eq-eqb e (suc d) same) in
        let more : suc d < e = grind (arith, past, differ) in
        let beyond : nat_le e (suc d) ≡ false = grind (arith, more) in
        further (rw is past) (rw is beyond) (rw is other) (λ k same. let one : k ≡ e = cc in omega (arith, more, one))

    go : (o : Option ℕ) → distance s y ≡ o → Stands s y d
    go None e = further (rw e refl) (rw e refl) (rw e refl) (λ k same. absurd cc)
    go (Some e) is = at e is (nat_le e d) (e == suc d) refl refl

-- the states at a distance that is greater by one: those that no shorter run reaches, and to which a transition leads from the states at the distance
pub next_distance : (s : PlainSystem) (y d : ℕ) → IsProperSystem s → suc d < length s.states
    → is_number (suc d) (distance s y) ≡ (not (is_within d (distance s y)) && is_some_number (number_back s d y))
next_distance s y d proper below = go (stands s y d)
  where
    go : Stands s y d → is_number (suc d) (distance s y) ≡ (not (is_within d (distance s y)) && is_some_number (number_back s d y))
    go (nearer e is near within other) = rw (is, near, other) refl
    go (next is past) = let t = step_back_there s y d proper is in rw (t.1, is, past, is_itself (suc d)) refl
    go (further out beyond other far) = rw (other, out, no_step_back s y d proper below far) refl

-- the states within a distance that is greater by one
pub within_next : (s : PlainSystem) (y d : ℕ) → IsProperSystem s → suc d < length s.states
    → is_within (suc d) (distance s y) ≡ (is_within d (distance s y) || is_some_number (number_back s d y))
within_next s y d proper below = go (stands s y d)
  where
    itself : nat_le (suc d) (suc d) ≡ true
    itself = grind arith

    go : Stands s y d → is_within (suc d) (distance s y) ≡ (is_within d (distance s y) || is_some_number (number_back s d y))
    go (nearer e is near within other) = rw (is, near, within) refl
    go (next is past) = let t = step_back_there s y d proper is in rw (t.1, is, past, itself) refl
    go (further out beyond other far) = rw (beyond, out, no_step_back s y d proper below far) refl

-- the transitions over which shortest runs go back, among those to states within a distance
pub back_next : (s : PlainSystem) (t y d : ℕ) → IsProperSystem s → suc d < length s.states
    → (is_within (suc d) (distance s y) && is_step_back s t y (distance s y))
    ≡ ((is_within d (distance s y) && is_step_back s t y (distance s y)) || (not (is_within d (distance s y)) && is_number t (number_back s d y)))
back_next s t y d proper below = go (stands s y d)
  where
    itself : nat_le (suc d) (suc d) ≡ true
    itself = grind arith

    or_false : (b : Bool) → b ≡ (b || false)
    or_false true = refl
    or_false false = refl

    go : Stands s y d → (is_within (suc d) (distance s y) && is_step_back s t y (distance s y))
        ≡ ((is_within d (distance s y) && is_step_back s t y (distance s y)) || (not (is_within d (distance s y)) && is_number t (number_back s d y)))
    go (nearer e is near within other) = rw (is, near, within) (or_false (is_step_back s t y (Some e)))
    go (next is past) = rw (is, past, itself) refl
    go (further out beyond other far) = rw (beyond, out, no_step_back s y d proper below far) refl

-- ---- where the rounds end

-- every distance is below the number of states
pub all_within : (s : PlainSystem) (y d : ℕ) → length s.states ≤ suc d → is_within d (distance s y) ≡ is_reachable s y
all_within s y d enough = go (distance s y) refl
  where
    go : (o : Option ℕ) → distance s y ≡ o → is_within d (distance s y) ≡ is_some_number (distance s y)
    go None e = rw e refl
    go (Some e) is =
        let below = distance_below s y e is in
        let near : nat_le e d ≡ true = grind (arith, below, enough) in
        rw (is, near) refl

-- where no state is at a distance, none is further
none_further : (s : PlainSystem) (d : ℕ) → IsProperSystem s → ((y : ℕ) → is_number d (distance s y) ≡ false) → (k y : ℕ) → distance s y ≡ Some (d + k) → ⊥
none_further s d proper none zero y h =
    let same : d + 0 ≡ d = omega arith in
    let at : distance s y ≡ Some d = h ∙ ap Some same in
    false≢true (sym (none y) ∙ (rw at (is_itself d)))
none_further s d proper none (suc k) y h =
    let same : d + suc k ≡ suc (d + k) = omega arith in
    let r = from_nearer s y (d + k) proper (h ∙ ap Some same) in
    none_further s d proper none k r.0.1.source r.3

pub all_within_before : (s : PlainSystem) (d : ℕ) → IsProperSystem s → ((y : ℕ) → is_number d (distance s y) ≡ false) → (y : ℕ) → is_within d (distance s y) ≡ is_reachable s y
all_within_before s d proper none y = go (distance s y) refl
  where
    go : (o : Option ℕ) → distance s y ≡ o → is_within d (distance s y) ≡ is_some_number (distance s y)
    go None e = rw e refl
    go (Some e) is = near (true_or_false (nat_le e d))
      where
        near : (nat_le e d ≡ true) ⊎ (nat_le e d ≡ false) → is_within d (distance s y) ≡ is_some_number (distance s y)
        near (inl within) = rw (is, within) refl
        near (inr past) =
            let more : d + (e - d) ≡ e = grind (arith, past) in
            absurd (none_further s d proper none (e - d) y (is ∙ ap Some (sym more)))

-- no state is at a distance that is greater than where there is none
pub none_after : (s : PlainSystem) (d : ℕ) → IsProperSystem s → ((y : ℕ) → is_number d (distance s y) ≡ false) → (k y : ℕ) → is_number (d + k) (distance s y) ≡ false
none_after s d proper none k y = false_if_not (is_number (d + k) (distance s y)) (λ h. none_further s d proper none k y (is (distance s y) h))
  where
    is : (o : Option ℕ) → is_number (d + k) o ≡ true → o ≡ Some (d + k)
    is None g = absurd (false≢true g)
    is (Some e) g = ap Some (eqb-true e (d + k) g)

-- the last step of the shortest runs, where all distances are within the bound
pub back_at_last : (s : PlainSystem) (t y d : ℕ) → is_within d (distance s y) ≡ is_reachable s y → (is_within d (distance s y) && is_step_back s t y (distance s y)) ≡ is_step_back s t y (distance s y)
back_at_last s t y d same = go (distance s y) same
  where
    go : (o : Option ℕ) → is_within d o ≡ is_some_number o → (is_within d o && is_step_back s t y o) ≡ is_step_back s t y o
    go None e = refl
    go (Some e) is = rw is refl

-- ---- the first layer

-- the states at distance 0 are the initial ones
pub first_layer : (s : PlainSystem) (y : ℕ) → 0 < length s.states → is_number 0 (distance s y) ≡ holds_at (ends_after s 0) y
first_layer s y some = same_if_both (is_number 0 (distance s y)) (holds_at (ends_after s 0) y) to from
  where
    is : (o : Option ℕ) → is_number 0 o ≡ true → o ≡ Some 0
    is None g = absurd (false≢true g)
    is (Some e) g = ap Some (eqb-true e 0 g)

    to : is_number 0 (distance s y) ≡ true → holds_at (ends_after s 0) y ≡ true
    to h = (distance_is s y 0 (is (distance s y) h)).passes

    from : holds_at (ends_after s 0) y ≡ true → is_number 0 (distance s y) ≡ true
    from h =
        let near = distance_at_most s y 0 some h in
        let zero_is : near.0 ≡ 0 = omega (arith, near.2) in
        rw (near.1, zero_is) refl

-- within distance 0 is at distance 0
pub within_none : (s : PlainSystem) (y : ℕ) → is_within 0 (distance s y) ≡ is_number 0 (distance s y)
within_none s y = go (distance s y)
  where
    at : (e : ℕ) → nat_le e 0 ≡ (e == 0)
    at e = same_if_both (nat_le e 0) (e == 0) (λ h. eq-eqb e 0 (grind (arith, h))) (λ h. let none = eqb-true e 0 h in grind (arith, none))

    go : (o : Option ℕ) → is_within 0 o ≡ is_number 0 o
    go None = refl
    go (Some e) = at e

-- no run to a state at distance 0 goes back
pub back_none : (s : PlainSystem) (t y : ℕ) → (is_within 0 (distance s y) && is_step_back s t y (distance s y)) ≡ false
back_none s t y = go (distance s y)
  where
    go : (o : Option ℕ) → (is_within 0 o && is_step_back s t y o) ≡ false
    go None = refl
    go (Some zero) = refl
    go (Some (suc e)) = let past : nat_le (suc e) 0 ≡ false = grind arith in rw past refl
