-- What the verdict of a check on one product shows.
use Rattle.std.proofs.Common.{◌≡◌, ◌<◌, ◌≤◌, ◌+◌, refl, sym, ap, ◌∙◌, subst, ℕ, zero, suc, Bool, true, false, cond, List, [], ◌∷◌, ◌++◌, inl, inr, length, Option, Some, None, arith}
use Rattle.std.specs.Prelude.{◌==◌, ◌&&◌, ◌||◌, not, filter, find, Contains, option_map, option_and_then, unwrap_or}
use Rattle.std.specs.List.{list_any, list_all, enumerate_from}
use Rattle.std.proofs.lemmas.Bool.{false≢true, eqb-true, eq-eqb, cases_lt}
use Rattle.std.proofs.lemmas.List.{length-append, length-map}
use Rattle.std.proofs.lemmas.List.Folds.{Any-from_list_any, list_any-from_Any}
use Rattle.meaning.specs.Texts.{flat, first_of_list, numbered, numbers_from, holds_at}
use Rattle.meaning.specs.Models.{State, Transition, PlainSystem}
use Rattle.meaning.specs.Queries.{is_empty}
use Rattle.meaning.specs.Systems.{start, step, IsProperSystem, Property, is_initial, joined, transition_at, end_of, is_some_number, is_number, ends_after, distance, is_reachable, violates, violating_states, last_state, is_refuted, step_back, run_back, run_to}
use Rattle.meaning.specs.Verdicts.{reached_states, SupportedIsClosed, RefutedHasShortest}
use Rattle.meaning.proofs.EachMembers.{member_later}
use Rattle.meaning.proofs.SearchLaws.{both_left, both_right, at_numbers, numbers_at, initial_in, initial_listed, some_same, not_none, find_holds, find_least, find_contains, within_list, find_some, length_numbers, distance_is_least, reachable_has_run}

-- ---- numbers

number_is : (n : ℕ) (o : Option ℕ) → is_number n o ≡ true → o ≡ Some n
number_is n None e = absurd (false≢true e)
number_is n (Some k) e = ap Some (eqb-true k n e)

is_number_itself : (n : ℕ) (o : Option ℕ) → o ≡ Some n → is_number n o ≡ true
is_number_itself n o e = ap (is_number n) e ∙ eq-eqb n n refl

some_number : (o : Option ℕ) → is_some_number o ≡ true → (n : ℕ) × (o ≡ Some n)
some_number None e = absurd (false≢true e)
some_number (Some n) e = (n, refl)

find_number : (p : ℕ → Bool) (k n i : ℕ) → find p (numbers_from k n) ≡ Some i → (k ≤ i) × (i < k + n)
find_number p k zero i e = absurd (not_none e)
find_number p k (suc n) i e = go (p k) e (find_number p (suc k) n i)
  where
    go : (b : Bool) → cond b (Some k) (find p (numbers_from (suc k) n)) ≡ Some i
        → (find p (numbers_from (suc k) n) ≡ Some i → (suc k ≤ i) × (i < suc k + n)) → (k ≤ i) × (i < k + suc n)
    go true h later = let same : k ≡ i = some_same k i h in (omega (arith, same), omega (arith, same))
    go false h later = let r = later h in (omega (arith, r.0), omega (arith, r.1))

-- ---- a first item of lists that are put together

first_of_filter : {A : Type 0} (p : A → Bool) (xs : List A) → first_of_list (filter p xs) ≡ find p xs
first_of_filter p [] = refl
first_of_filter p (x ∷ xs) = go (p x) (first_of_filter p xs)
  where
    go : (b : Bool) → first_of_list (filter p xs) ≡ find p xs → first_of_list (cond b (x ∷ filter p xs) (filter p xs)) ≡ cond b (Some x) (find p xs)
    go true later = refl
    go false later = later

-- the first item comes of the first number that has any
pub record IsFirstOf {A : Type 0} (f : ℕ → List A) (k n : ℕ) (x : A) : Type 0 where
  pub number : ℕ
  pub from : k ≤ number
  pub below : number < k + n
  pub first : first_of_list (f number) ≡ Some x
  pub none_before : (j : ℕ) → k ≤ j → j < number → f j ≡ []

first_of_flat : {A : Type 0} (f : ℕ → List A) (k n : ℕ) (x : A) → first_of_list (flat f (numbers_from k n)) ≡ Some x → IsFirstOf f k n x
first_of_flat f k zero x e = absurd (not_none e)
first_of_flat {A} f k (suc n) x e = go (f k) refl e (first_of_flat f (suc k) n x)
  where
    go : (xs : List A) → f k ≡ xs → first_of_list (xs ++ flat f (numbers_from (suc k) n)) ≡ Some x
        → (first_of_list (flat f (numbers_from (suc k) n)) ≡ Some x → IsFirstOf f (suc k) n x) → IsFirstOf f k (suc n) x
    go (y ∷ ys) h first later = record {
      number = k;
      from = omega arith;
      below = omega arith;
      first = ap first_of_list h ∙ first;
      none_before = λ j l m. absurd (omega (arith, l, m));
    }
    go [] h first later =
        let r = later first in
        record {
          number = r.number;
          from = omega (arith, r.from);
          below = omega (arith, r.below);
          first = r.first;
          none_before = λ j l m. elim (cases_lt k j) [
            | inl past ↦ r.none_before j (omega (arith, past)) m
            | inr at ↦ (let same : j ≡ k = omega (arith, at, l) in ap f same ∙ h)
          ];
        }

none_of_flat : {A : Type 0} (f : ℕ → List A) (k n : ℕ) → flat f (numbers_from k n) ≡ [] → (j : ℕ) → k ≤ j → j < k + n → f j ≡ []
none_of_flat f k zero e j l m = absurd (omega (arith, l, m))
none_of_flat {A} f k (suc n) e j l m = go (f k) refl e (none_of_flat f (suc k) n)
  where
    go : (xs : List A) → f k ≡ xs → xs ++ flat f (numbers_from (suc k) n) ≡ []
        → (flat f (numbers_from (suc k) n) ≡ [] → (j : ℕ) → suc k ≤ j → j < suc k + n → f j ≡ []) → f j ≡ []
    go (y ∷ ys) h none later = absurd cc
    go [] h none later = elim (cases_lt k j) [
      | inl past ↦ later none j (omega (arith, past)) (omega (arith, m))
      | inr at ↦ (let same : j ≡ k = omega (arith, at, l) in ap f same ∙ h)
    ]

none_of_filter : (p : ℕ → Bool) (k n i : ℕ) → filter p (numbers_from k n) ≡ [] → i < n → p (k + i) ≡ true → ⊥
none_of_filter p k n i none below passes =
    let found = find_some p n k i below passes in
    false≢true (sym (ap is_some_number (sym (first_of_filter p (numbers_from k n)) ∙ ap first_of_list none)) ∙ found)

-- ---- the run to a state that is reached

-- a state at a distance is among the states
pub distance_in_range : (s : PlainSystem) → (x n : ℕ) → distance s x ≡ Some n → n < length s.states
distance_in_range s x n e = let r = find_number (λ n. holds_at (ends_after s n) x) 0 (length s.states) n e in omega (arith, r.1)

ends_sized : (s : PlainSystem) (n : ℕ) → length (ends_after s n) ≡ length s.states
ends_sized s zero = length-map s.states (λ x. x.initial)
ends_sized s (suc n) = length_numbers (λ y. list_any (λ t. (t.1.target == y) && holds_at (ends_after s n) t.1.source) s.transitions) 0 (length s.states)

ends_at : (s : PlainSystem) (x n : ℕ) → distance s x ≡ Some n → holds_at (ends_after s n) x ≡ true
ends_at s x n e = find_holds (λ n. holds_at (ends_after s n) x) (length s.states) 0 n e

pub state_in_range : (s : PlainSystem) (x n : ℕ) → distance s x ≡ Some n → x < length s.states
state_in_range s x n e = let l = within_list (ends_after s n) x (ends_at s x n e) in let sized = ends_sized s n in omega (arith, l, sized)

pub least_distance : (s : PlainSystem) (x n m : ℕ) → distance s x ≡ Some n → holds_at (ends_after s m) x ≡ true → n ≤ m
least_distance s x n m e h = find_least (λ n. holds_at (ends_after s n) x) (length s.states) 0 n m e (omega arith) h

-- a state in which a run of so many transitions ends, fewer than there are states, has a distance
has_distance : (s : PlainSystem) (x n : ℕ) → n < length s.states → holds_at (ends_after s n) x ≡ true → (m : ℕ) × (distance s x ≡ Some m) × (m ≤ n)
has_distance s x n l h =
    let same : n ≡ 0 + n = omega arith in
    let found = some_number (distance s x) (find_some (λ n. holds_at (ends_after s n) x) (length s.states) 0 n l (ap (λ k. holds_at (ends_after s k) x) (sym same) ∙ h)) in
    (found.0, found.1, least_distance s x found.0 n found.1 h)

-- a transition leads to a state from one that is nearer by one
nearer : (s : PlainSystem) (x n : ℕ) → distance s x ≡ Some (suc n)
    → (t : ℕ × Transition) × Contains s.transitions t × (((t.1.target == x) && is_number n (distance s t.1.source)) ≡ true)
nearer s x n e =
    let same : 0 + x ≡ x = omega arith in
    let leads = λ (y : ℕ). list_any (λ t. (t.1.target == y) && holds_at (ends_after s n) t.1.source) s.transitions in
    let h = Any-from_list_any (λ t. (t.1.target == x) && holds_at (ends_after s n) t.1.source) s.transitions
    (ap leads (sym same) ∙ at_numbers leads (length s.states) 0 x (ends_at s x (suc n) e)) in
    let is_target = both_left (h.1.1.target == x) (holds_at (ends_after s n) h.1.1.source) h.4 in
    let ends = both_right (h.1.1.target == x) (holds_at (ends_after s n) h.1.1.source) h.4 in
    let below = distance_in_range s x (suc n) e in
    let d = has_distance s h.1.1.source n (omega (arith, below)) ends in
    let no_less : n ≤ d.0 = least_past s x n h.1 (h.0, h.2, h.3) is_target d.0 d.1 e in
    let is_n : d.0 ≡ n = (let most = d.2 in omega (arith, most, no_less)) in
    (h.1, (h.0, h.2, h.3), ap (λ b. b && is_number n (distance s h.1.1.source)) is_target ∙ is_number_itself n (distance s h.1.1.source) (d.1 ∙ ap Some is_n))
  where
    least_past : (s : PlainSystem) (x n : ℕ) (t : ℕ × Transition) → Contains s.transitions t → (t.1.target == x) ≡ true → (m : ℕ) → distance s t.1.source ≡ Some m
        → distance s x ≡ Some (suc n) → n ≤ m
    least_past s x n t c is_target m e f =
        let in_range : x < length s.states = state_in_range s x (suc n) f in
        let leads = λ (y : ℕ). list_any (λ t. (t.1.target == y) && holds_at (ends_after s m) t.1.source) s.transitions in
        let same : 0 + x ≡ x = omega arith in
        let passes : ((t.1.target == x) && holds_at (ends_after s m) t.1.source) ≡ true = ap (λ b. b && holds_at (ends_after s m) t.1.source) is_target ∙ ends_at s t.1.source m e in
        let counted = numbers_at leads (length s.states) 0 x in_range
        (ap leads same ∙ list_any-from_Any (λ t. (t.1.target == x) && holds_at (ends_after s m) t.1.source) s.transitions (c.0, t, c.1, c.2, passes)) in
        let l = least_distance s x (suc n) (suc m) f counted in omega (arith, l)

end_of_more : (s : PlainSystem) (x y t : ℕ) (ts : List ℕ) → end_of s x ts ≡ Some y → end_of s x (ts ++ t ∷ []) ≡ joined y (transition_at s t)
end_of_more s x y t [] e =
    let same : x ≡ y = some_same x y e in
    none_after (joined x (transition_at s t)) ∙ ap (λ z. joined z (transition_at s t)) same
  where
    none_after : (o : Option ℕ) → option_and_then (λ z. Some z) o ≡ o
    none_after None = refl
    none_after (Some z) = refl
end_of_more s x y t (u ∷ us) e = go (joined x (transition_at s u)) e (λ z. end_of_more s z y t us)
  where
    go : (o : Option ℕ) → option_and_then (λ z. end_of s z us) o ≡ Some y
        → ((z : ℕ) → end_of s z us ≡ Some y → end_of s z (us ++ t ∷ []) ≡ joined y (transition_at s t))
        → option_and_then (λ z. end_of s z (us ++ t ∷ [])) o ≡ joined y (transition_at s t)
    go None h later = absurd (not_none h)
    go (Some z) h later = later z h

-- the run found backwards is a run to the state, of as many transitions as its distance
pub record IsRunBack (s : PlainSystem) (x n : ℕ) (run : ℕ × List ℕ) : Type 0 where
  pub initial : is_initial s run.0 ≡ true
  pub ends : end_of s run.0 run.1 ≡ Some x
  pub long : length run.1 ≡ n

some_item : {A : Type 0} (a b : A) → Some a ≡ Some b → a ≡ b
some_item a b e = ap (λ o. unwrap_or o a) e

found_passes : {A : Type 0} (p : A → Bool) (xs : List A) (x : A) → find p xs ≡ Some x → p x ≡ true
found_passes p [] x e = absurd (not_none e)
found_passes p (y ∷ ys) x e = go (p y) refl e (found_passes p ys x)
  where
    go : (b : Bool) → p y ≡ b → cond b (Some y) (find p ys) ≡ Some x → (find p ys ≡ Some x → p x ≡ true) → p x ≡ true
    go true h f later = subst (λ z. p z ≡ true) (some_item y x f) h
    go false h f later = later f

finds : {A : Type 0} (p : A → Bool) (xs : List A) → list_any p xs ≡ true → (y : A) × (find p xs ≡ Some y)
finds p [] h = absurd (false≢true h)
finds {A} p (x ∷ xs) h = go (p x) h (finds p xs)
  where
    go : (b : Bool) → (b || list_any p xs) ≡ true → (list_any p xs ≡ true → (y : A) × (find p xs ≡ Some y)) → (y : A) × (cond b (Some x) (find p xs) ≡ Some y)
    go true h later = (x, refl)
    go false h later = later h

step_back_there : (s : PlainSystem) (x n : ℕ) → distance s x ≡ Some (suc n) → (t : ℕ × Transition) × (step_back s n x ≡ Some t)
step_back_there s x n e =
    let t = nearer s x n e in
    let test = λ (t : ℕ × Transition). (t.1.target == x) && is_number n (distance s t.1.source) in
    finds test s.transitions (list_any-from_Any test s.transitions (t.1.0, t.0, t.1.1, t.1.2, t.2))

pub runs_back : (s : PlainSystem) → IsProperSystem s → (n x : ℕ) → distance s x ≡ Some n → IsRunBack s x n (run_back s n x)
runs_back s proper zero x e =
    let same : 0 + x ≡ x = omega arith in
    record { initial = ap (initial_in s.states 0) (sym same) ∙ initial_listed s.states 0 x (ends_at s x 0 e); ends = refl; long = refl }
runs_back s proper (suc n) x e =
    let t = step_back_there s x n e in
    let passes = found_passes (λ t. (t.1.target == x) && is_number n (distance s t.1.source)) s.transitions t.0 t.1 in
    let is_target = eqb-true t.0.1.target x (both_left (t.0.1.target == x) (is_number n (distance s t.0.1.source)) passes) in
    let before = runs_back s proper n t.0.1.source (number_is n (distance s t.0.1.source) (both_right (t.0.1.target == x) (is_number n (distance s t.0.1.source)) passes)) in
    let there = find_contains (λ t. (t.1.target == x) && is_number n (distance s t.1.source)) s.transitions t.0 t.1 in
    subst (IsRunBack s x (suc n)) (sym (over t.0 t.1))
    (record {
      initial = before.initial;
      ends =
          end_of_more s (run_back s n t.0.1.source).0 t.0.1.source t.0.0 (run_back s n t.0.1.source).1 before.ends
          ∙ ap (λ o. joined t.0.1.source (option_map (λ p. p.1) o)) (proper.numbers_differ t.0 there)
          ∙ ap (λ b. cond b (Some t.0.1.target) None) (eq-eqb t.0.1.source t.0.1.source refl)
          ∙ ap Some is_target;
      long = length-append (run_back s n t.0.1.source).1 (t.0.0 ∷ []) ∙ (let same = before.long in omega (arith, same));
    })
  where
    over : (t : ℕ × Transition) → step_back s n x ≡ Some t → run_back s (suc n) x ≡ ((run_back s n t.1.source).0, (run_back s n t.1.source).1 ++ t.0 ∷ [])
    over t f = ap (λ (o : Option (ℕ × Transition)). elim o as (λ _. ℕ × List ℕ) [
      | None ↦ (x, [])
      | Some u ↦ ((run_back s n u.1.source).0, (run_back s n u.1.source).1 ++ u.0 ∷ [])
    ]) f

-- ---- a refuted check

-- the last state is reached, violates, and is the nearest of those that do
pub record IsNearestViolation (labels : ℕ) (s : PlainSystem) (p : Property) (x : ℕ) : Type 0 where
  pub number : ℕ
  pub distant : distance s x ≡ Some number
  pub violated : violates labels s p x ≡ true
  pub nearest : (y m : ℕ) → distance s y ≡ Some m → violates labels s p y ≡ true → number ≤ m

abbrev ends_in : ℕ → PlainSystem → Property → ℕ → ℕ → Bool
ends_in labels s p n x = is_number n (distance s x) && violates labels s p x

pub last_is_nearest : (labels : ℕ) (s : PlainSystem) (p : Property) (x : ℕ) → last_state labels s p ≡ Some x → IsNearestViolation labels s p x
last_is_nearest labels s p x e =
    let size = length s.states in
    let r = first_of_flat (λ n. filter (ends_in labels s p n) (numbers_from 0 size)) 0 size x e in
    let found : find (ends_in labels s p r.number) (numbers_from 0 size) ≡ Some x = sym (first_of_filter (ends_in labels s p r.number) (numbers_from 0 size)) ∙ r.first in
    let passes = find_holds (ends_in labels s p r.number) size 0 x found in
    record {
      number = r.number;
      distant = number_is r.number (distance s x) (both_left (is_number r.number (distance s x)) (violates labels s p x) passes);
      violated = both_right (is_number r.number (distance s x)) (violates labels s p x) passes;
      nearest = λ y m f v. elim (cases_lt m r.number) [
        | inl sooner ↦ absurd (none_of_filter (ends_in labels s p m) 0 size y (r.none_before m (omega arith) (omega (arith, sooner))) (state_in_range s y m f) (there y m f v))
        | inr later ↦ later
      ];
    }
  where
    there : (y m : ℕ) → distance s y ≡ Some m → violates labels s p y ≡ true → ends_in labels s p m (0 + y) ≡ true
    there y m f v =
        let same : 0 + y ≡ y = omega arith in
        ap (ends_in labels s p m) same ∙ ap (λ b. b && violates labels s p y) (is_number_itself m (distance s y) f) ∙ v

run_to_is : (s : PlainSystem) (x n : ℕ) → distance s x ≡ Some n → run_to s x ≡ run_back s n x
run_to_is s x n e = ap (λ o. run_back s (unwrap_or o 0) x) e

pub refuted_has_shortest : RefutedHasShortest
refuted_has_shortest labels s p proper x e =
    let last = last_is_nearest labels s p x e in
    let run = subst (IsRunBack s x last.number) (sym (run_to_is s x last.number last.distant)) (runs_back s proper last.number x last.distant) in
    record {
      violated = last.violated;
      replayed = ap (λ b. cond b (end_of s (run_to s x).0 (run_to s x).1) None) run.initial ∙ run.ends;
      shortest = λ first y ts is v.
          let d = some_number (distance s y) (reachable_has_run s proper first y ts is) in
          let least = (distance_is_least s proper y d.0 d.1).1 first ts is in
          let near = last.nearest y d.0 d.1 v in
          let long = run.long in
          omega (arith, least, near, long);
    }

-- ---- a supported check

all_from_members : {A : Type 0} (p : A → Bool) (xs : List A) → ((x : A) → Contains xs x → p x ≡ true) → list_all p xs ≡ true
all_from_members p [] h = refl
all_from_members p (x ∷ xs) h =
    ap (λ b. b && list_all p xs) (h x (0, omega arith, refl)) ∙ all_from_members p xs (λ y c. h y (member_later x xs y c))

implied : (a b : Bool) → (a ≡ true → b ≡ true) → (not a || b) ≡ true
implied true b h = h refl
implied false b h = refl

denied : (a b : Bool) → (a ≡ true → b ≡ true → ⊥) → (not a || not b) ≡ true
denied true true h = absurd (h refl refl)
denied true false h = refl
denied false b h = refl

reached_in_range : (s : PlainSystem) (x : ℕ) → is_reachable s x ≡ true → x < length s.states
reached_in_range s x e = let d = some_number (distance s x) e in state_in_range s x d.0 d.1

pub reached_at : (s : PlainSystem) (x : ℕ) → is_reachable s x ≡ true → holds_at (reached_states s) x ≡ true
reached_at s x e = let same : 0 + x ≡ x = omega arith in numbers_at (is_reachable s) (length s.states) 0 x (reached_in_range s x e) (ap (is_reachable s) same ∙ e)

pub at_reached : (s : PlainSystem) (x : ℕ) → holds_at (reached_states s) x ≡ true → is_reachable s x ≡ true
at_reached s x e = let same : x ≡ 0 + x = omega arith in ap (is_reachable s) same ∙ at_numbers (is_reachable s) (length s.states) 0 x e

numbered_initial : (xs : List State) (k : ℕ) (y : ℕ × State) → Contains (enumerate_from k xs) y → y.1.initial ≡ true → initial_in xs k y.0 ≡ true
numbered_initial xs k y c e =
    list_any-from_Any (λ z. (z.0 == y.0) && z.1.initial) (enumerate_from k xs)
    (c.0, y, c.1, c.2, ap (λ b. b && y.1.initial) (eq-eqb y.0 y.0 refl) ∙ e)

-- where no reachable state is found to violate, none does
none_violates : (labels : ℕ) (s : PlainSystem) (p : Property) → is_refuted labels s p ≡ false → (x : ℕ) → is_reachable s x ≡ true → violates labels s p x ≡ true → ⊥
none_violates labels s p e x reached v =
    let d = some_number (distance s x) reached in
    let size = length s.states in
    let same : 0 + x ≡ x = omega arith in
    none_of_filter (ends_in labels s p d.0) 0 size x
    (none_of_flat (λ n. filter (ends_in labels s p n) (numbers_from 0 size)) 0 size (none_refuted (violating_states labels s p) e) d.0 (omega arith) (let within = distance_in_range s x d.0 d.1 in omega (arith, within)))
    (state_in_range s x d.0 d.1)
    (ap (ends_in labels s p d.0) same ∙ ap (λ b. b && violates labels s p x) (is_number_itself d.0 (distance s x) d.1) ∙ v)
  where
    none_refuted : (xs : List ℕ) → not (is_empty xs) ≡ false → xs ≡ []
    none_refuted [] e = refl
    none_refuted (x ∷ xs) e = absurd (false≢true (sym e))

three_true : (a b c : Bool) → a ≡ true → b ≡ true → c ≡ true → (a && b && c) ≡ true
three_true a b c ea eb ec = ap (λ x. x && b && c) ea ∙ ap (λ x. x && c) eb ∙ ec

pub supported_is_closed : SupportedIsClosed
supported_is_closed labels s p proper supported =
    three_true (list_all (λ x. not x.1.initial || holds_at (reached_states s) x.0) (numbered s.states))
    (list_all (λ t. not (holds_at (reached_states s) t.1.source) || holds_at (reached_states s) t.1.target) s.transitions)
    (list_all (λ x. not (holds_at (reached_states s) x.0) || not (violates labels s p x.0)) (numbered s.states))
    (all_from_members (λ x. not x.1.initial || holds_at (reached_states s) x.0) (numbered s.states)
    (λ x c. implied x.1.initial (holds_at (reached_states s) x.0)
    (λ e. reached_at s x.0 (reachable_has_run s proper x.0 x.0 [] (start (numbered_initial s.states 0 x c e))))))
    (all_from_members (λ t. not (holds_at (reached_states s) t.1.source) || holds_at (reached_states s) t.1.target) s.transitions
    (λ t c. implied (holds_at (reached_states s) t.1.source) (holds_at (reached_states s) t.1.target)
    (λ e. reached_at s t.1.target (further t c (at_reached s t.1.source e)))))
    (all_from_members (λ x. not (holds_at (reached_states s) x.0) || not (violates labels s p x.0)) (numbered s.states)
    (λ x c. denied (holds_at (reached_states s) x.0) (violates labels s p x.0) (λ e v. none_violates labels s p supported x.0 (at_reached s x.0 e) v)))
  where
    further : (t : ℕ × Transition) → Contains s.transitions t → is_reachable s t.1.source ≡ true → is_reachable s t.1.target ≡ true
    further t c e =
        let d = some_number (distance s t.1.source) e in
        let run = (distance_is_least s proper t.1.source d.0 d.1).0 in
        reachable_has_run s proper run.0 t.1.target (run.1 ++ t.0 ∷ []) (step t.1 run.2.0 (proper.numbers_differ t c) refl)
