-- A run found backwards: one step back, and where it starts.
use Rattle.std.proofs.Common.{◌≡◌, ◌<◌, ◌+◌, refl, sym, ap, ◌∙◌, ℕ, zero, suc, Bool, true, false, cond, List, [], ◌∷◌, ◌++◌, map, length, drop, get_or, Option, Some, None, add-one, drop-cons, arith}
use Rattle.std.specs.Prelude.{◌==◌, ◌&&◌, find, option_map, unwrap_or}
use Rattle.std.specs.List.{slice_get, enumerate_from}
use Rattle.std.proofs.lemmas.Bool.{false≢true, eqb-true}
use Rattle.meaning.specs.Expressions.{truth}
use Rattle.meaning.specs.Texts.{numbered, holds_at}
use Rattle.meaning.specs.Models.{Transition, PlainSystem, System, projection}
use Rattle.meaning.specs.Systems.{is_number, distance, step_back, run_back, run_to}
use Rattle.meaning.specs.Tidy.{is_step_back}
use Rattle.meaning.proofs.RunDistances.{both_true, found}
use Rattle.invariant_check.specs.Running.{marked_into, steps_back}
use Rattle.invariant_check.proofs.FirstViolations.{step_before, found_by_number}

-- ---- the first of a list, one item after another

split : {X : Type 0} (xs : List X) (i : ℕ) (x : X) → i < length xs → x ≡ get_or xs i x → drop i xs ≡ x ∷ drop (i + 1) xs
split xs i x below is =
    let first : drop i xs ≡ get_or xs i x ∷ drop (i + 1) xs = rw (add-one, drop-cons xs i x) in
    first ∙ ap (λ y. y ∷ drop (i + 1) xs) (sym is)

pub find_step : {X : Type 0} (f : X → Bool) (xs : List X) (i : ℕ) (x : X) → i < length xs → x ≡ get_or xs i x
    → find f (drop i xs) ≡ cond (f x) (Some x) (find f (drop (i + 1) xs))
find_step f xs i x below is = ap (find f) (split xs i x below is)

-- the same of numbered items that are seen as others
pub find_numbered_step : {X Y : Type 0} (v : X → Y) (f : ℕ × Y → Bool) (xs : List X) (i : ℕ) (x : X) → i < length xs → x ≡ get_or xs i x
    → find f (enumerate_from i (map v (drop i xs))) ≡ cond (f (i, v x)) (Some (i, v x)) (find f (enumerate_from (i + 1) (map v (drop (i + 1) xs))))
find_numbered_step v f xs i x below is = ap (λ ys. find f (enumerate_from i (map v ys))) (split xs i x below is)

pub if_true : {X : Type 0} (b : Bool) (x y : X) → b ≡ true → cond b x y ≡ x
if_true b x y e = ap (λ c. cond c x y) e

pub if_false : {X : Type 0} (b : Bool) (x y : X) → b ≡ false → cond b x y ≡ y
if_false b x y e = ap (λ c. cond c x y) e

-- ---- numbered items

module _ {A : Type 0} where
  -- what is made of each numbered item, at a number
  marked_at : (m : ℕ × A → Bool) (k : ℕ) (xs : List A) (i : ℕ) (x : A) → slice_get xs i ≡ Some x → holds_at (map m (enumerate_from k xs)) i ≡ m (k + i, x)
  marked_at m k [] i x e = absurd cc
  marked_at m k (y ∷ ys) zero x e =
      let same : y ≡ x = cc in
      let here : k ≡ k + 0 = omega arith in
      ap (λ j. m (j, y)) here ∙ ap (λ z. m (k + 0, z)) same
  marked_at m k (y ∷ ys) (suc i) x e =
      let same : k + 1 + i ≡ k + suc i = omega arith in
      marked_at m (k + 1) ys i x e ∙ ap (λ j. m (j, x)) same

  -- two tests that agree on the numbered items find the same
  find_same : (f h : ℕ × A → Bool) (k : ℕ) (xs : List A) → ((i : ℕ) (x : A) → slice_get xs i ≡ Some x → f (k + i, x) ≡ h (k + i, x))
      → find f (enumerate_from k xs) ≡ find h (enumerate_from k xs)
  find_same f h k [] same = refl
  find_same f h k (x ∷ xs) same =
      let at : k + 0 ≡ k = omega arith in
      let here : f (k, x) ≡ h (k, x) = ap (λ j. f (j, x)) (sym at) ∙ same 0 x refl ∙ ap (λ j. h (j, x)) at in
      let later = find_same f h (k + 1) xs (λ i y e.
      let next : k + 1 + i ≡ k + suc i = omega arith in
      ap (λ j. f (j, y)) next ∙ same (suc i) y e ∙ ap (λ j. h (j, y)) (sym next)) in
      ap (λ b. cond b (Some (k, x)) (find f (enumerate_from (k + 1) xs))) here ∙ ap (cond (h (k, x)) (Some (k, x))) later

  -- nothing passes a test that is never true
  find_nothing : (f : ℕ × A → Bool) (xs : List (ℕ × A)) → find (λ t. f t && false) xs ≡ None
  find_nothing f [] = refl
  find_nothing f (x ∷ xs) = go (f x) (find_nothing f xs)
    where
      go : (b : Bool) → find (λ t. f t && false) xs ≡ None → cond (b && false) (Some x) (find (λ t. f t && false) xs) ≡ None
      go true later = later
      go false later = later

  -- what is found is the item at its number
  found_item : (f : ℕ × A → Bool) (k : ℕ) (xs : List A) (t : ℕ × A) → find f (enumerate_from k xs) ≡ Some t → (i : ℕ) × (t.0 ≡ k + i) × (slice_get xs i ≡ Some t.1)
  found_item f k [] t e = absurd cc
  found_item f k (x ∷ xs) t e = go (f (k, x)) e (found_item f (k + 1) xs t)
    where
      go : (b : Bool) → cond b (Some (k, x)) (find f (enumerate_from (k + 1) xs)) ≡ Some t
          → (find f (enumerate_from (k + 1) xs) ≡ Some t → (i : ℕ) × (t.0 ≡ k + 1 + i) × (slice_get xs i ≡ Some t.1))
          → (i : ℕ) × (t.0 ≡ k + i) × (slice_get (x ∷ xs) i ≡ Some t.1)
      go true h later =
          let same : (k, x) ≡ t = ap (λ o. unwrap_or o t) h in
          let number : t.0 ≡ k + 0 = (let first = ap (λ (u : ℕ × A). u.0) same in omega (arith, first)) in
          (0, number, ap (λ (u : ℕ × A). Some u.1) same)
      go false h later =
          let r = later h in
          let number : t.0 ≡ k + suc r.0 = (let before = r.1 in omega (arith, before)) in
          (suc r.0, number, r.2)

-- ---- one step back

is_none_or : (o : Option ℕ) (n : ℕ) → is_number n o ≡ true → o ≡ Some n
is_none_or None n e = absurd (false≢true e)
is_none_or (Some k) n e = ap Some (eqb-true k n e)

-- a step back leads to the state, from one that is nearer by one
back_is : (s : PlainSystem) (n y : ℕ) (t : ℕ × Transition) → step_back s n y ≡ Some t → distance s t.1.source ≡ Some n
back_is s n y t e =
    let r = found (λ t. (t.1.target == y) && is_number n (distance s t.1.source)) s.transitions t e in
    is_none_or (distance s t.1.source) n (both_true (t.1.target == y) (is_number n (distance s t.1.source)) r.1).1

-- the transition into a state that is marked as a step back is the step back to the state
pub marked_is_back : (w : List Bool) (s : System) (y : ℕ)
    → marked_into s.transitions (steps_back (projection w s) s.transitions) y ≡ step_before (projection w s) y (distance (projection w s) y)
marked_is_back w s y =
    find_same (λ t. (t.1.target == y) && holds_at (steps_back p s.transitions) t.0) (λ t. (t.1.target == y) && is_step_back p t.0 y (distance p y)) 0 s.transitions marks
    ∙ by (distance p y)
  where
    p : PlainSystem
    p = projection w s

    same_target : (i : ℕ) (x : Transition) (b : Bool) → (x.target == y) ≡ b → (b && is_step_back p i x.target (distance p x.target)) ≡ (b && is_step_back p i y (distance p y))
    same_target i x true e = ap (λ z. is_step_back p i z (distance p z)) (eqb-true x.target y e)
    same_target i x false e = refl

    marks : (i : ℕ) (x : Transition) → slice_get s.transitions i ≡ Some x
        → ((x.target == y) && holds_at (steps_back p s.transitions) (0 + i)) ≡ ((x.target == y) && is_step_back p (0 + i) y (distance p y))
    marks i x e =
        let at : 0 + i ≡ i = omega arith in
        ap (λ b. (x.target == y) && b) (ap (holds_at (steps_back p s.transitions)) at ∙ marked_at (λ t. is_step_back p t.0 t.1.target (distance p t.1.target)) 0 s.transitions i x e)
        ∙ same_target (0 + i) x (x.target == y) refl

    leads : (n : ℕ) (t : ℕ × Transition) → ((t.1.target == y) && is_number n (distance p t.1.source)) ≡ true → (t.1.target == y) ≡ true
    leads n t e = (both_true (t.1.target == y) (is_number n (distance p t.1.source)) e).0

    by : (o : Option ℕ) → find (λ t. (t.1.target == y) && is_step_back p t.0 y o) (numbered s.transitions) ≡ step_before p y o
    by None = find_nothing (λ t. t.1.target == y) (numbered s.transitions)
    by (Some zero) = find_nothing (λ t. t.1.target == y) (numbered s.transitions)
    by (Some (suc n)) =
        found_by_number (λ t. (t.1.target == y) && is_number n (distance p t.1.source)) (λ t. truth t.1.presence w) (λ t. t.1.target == y) (leads n) 0 s.transitions

-- ---- the run back

abbrev from_step : PlainSystem → ℕ → Option (ℕ × Transition) → ℕ × List ℕ
from_step s y None = (y, [])
from_step s y (Some t) = ((run_to s t.1.source).0, (run_to s t.1.source).1 ++ t.0 ∷ [])

nearer_by : (s : PlainSystem) (y : ℕ) (o : Option ℕ) (t : ℕ × Transition) → step_before s y o ≡ Some t → unwrap_or (distance s t.1.source) 0 < unwrap_or o 0
nearer_by s y None t e = absurd cc
nearer_by s y (Some zero) t e = absurd cc
nearer_by s y (Some (suc n)) t e =
    let is = ap (λ o. unwrap_or o 0) (back_is s n y t e) in
    omega (arith, is)

one_back : (s : PlainSystem) (y : ℕ) (o : Option ℕ) → run_back s (unwrap_or o 0) y ≡ from_step s y (step_before s y o)
one_back s y None = refl
one_back s y (Some zero) = refl
one_back s y (Some (suc n)) = go (step_back s n y) refl
  where
    go : (b : Option (ℕ × Transition)) → step_back s n y ≡ b
        → (elim b as (λ _. ℕ × List ℕ) [ None ↦ (y, []) | Some t ↦ let before = run_back s n t.1.source in (before.0, before.1 ++ t.0 ∷ []) ]) ≡ from_step s y b
    go None e = refl
    go (Some t) e =
        let run : run_back s n t.1.source ≡ run_to s t.1.source = ap (λ o. run_back s (unwrap_or o 0) t.1.source) (sym (back_is s n y t e)) in
        ap (λ (r : ℕ × List ℕ). (r.0, r.1 ++ t.0 ∷ [])) run

-- a marked transition is the last of the run to its end, and starts nearer
pub record IsLastStep (w : List Bool) (s : System) (y step : ℕ) : Type 0 where
  pub transition : Transition
  pub item : slice_get s.transitions step ≡ Some transition
  pub run : run_to (projection w s) y ≡ ((run_to (projection w s) transition.source).0, (run_to (projection w s) transition.source).1 ++ step ∷ [])
  pub nearer : unwrap_or (distance (projection w s) transition.source) 0 < unwrap_or (distance (projection w s) y) 0

pub last_step : (w : List Bool) (s : System) (y step : ℕ) → Some step ≡ option_map (λ t. t.0) (marked_into s.transitions (steps_back (projection w s) s.transitions) y) → IsLastStep w s y step
last_step w s y step e = go (marked_into s.transitions (steps_back p s.transitions) y) refl e
  where
    p : PlainSystem
    p = projection w s

    go : (o : Option (ℕ × Transition)) → marked_into s.transitions (steps_back p s.transitions) y ≡ o → Some step ≡ option_map (λ (t : ℕ × Transition). t.0) o → IsLastStep w s y step
    go None is h = absurd cc
    go (Some t) is h =
        let number : step ≡ t.0 = ap (λ o. unwrap_or o step) h in
        let there = found_item (λ t. (t.1.target == y) && holds_at (steps_back p s.transitions) t.0) 0 s.transitions t is in
        let place : there.0 ≡ step = (let at = there.1 in omega (arith, at, number)) in
        let before : step_before p y (distance p y) ≡ Some t = sym (marked_is_back w s y) ∙ is in
        record {
          transition = t.1;
          item = ap (slice_get s.transitions) (sym place) ∙ there.2;
          run =
              one_back p y (distance p y) ∙ ap (from_step p y) before
              ∙ ap (λ k. ((run_to p t.1.source).0, (run_to p t.1.source).1 ++ k ∷ [])) (sym number);
          nearer = nearer_by p y (distance p y) t before;
        }

-- where no transition into a state is marked, the run starts there
pub run_starts : (w : List Bool) (s : System) (y : ℕ) → None ≡ option_map (λ (t : ℕ × Transition). t.0) (marked_into s.transitions (steps_back (projection w s) s.transitions) y)
    → run_to (projection w s) y ≡ (y, [])
run_starts w s y e = go (marked_into s.transitions (steps_back p s.transitions) y) refl e
  where
    p : PlainSystem
    p = projection w s

    go : (o : Option (ℕ × Transition)) → marked_into s.transitions (steps_back p s.transitions) y ≡ o → None ≡ option_map (λ (t : ℕ × Transition). t.0) o → run_to p y ≡ (y, [])
    go None is h = one_back p y (distance p y) ∙ ap (from_step p y) (sym (marked_is_back w s y) ∙ is)
    go (Some t) is h = absurd cc
