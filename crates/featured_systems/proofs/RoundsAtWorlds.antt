-- What a round does to the rows of one world, in the words of distances.
use Rattle.std.proofs.Common.{◌≡◌, ◌∙◌, refl, sym, ap, ℕ, zero, suc, ◌+◌, ◌<◌, ◌≤◌, List, [], ◌∷◌, map, length, get_or, set, Bool, true, false, arith}
use Rattle.std.specs.Prelude.{◌&&◌, ◌||◌, not, ◌==◌, Option, Some, None, option_map, find, filter}
use Rattle.std.specs.List.{enumerate_from}
use Rattle.std.proofs.lemmas.Bool.{false≢true, eqb-true, eq-eqb}
use Rattle.std.proofs.lemmas.List.{length-set, get_or-map, get_or-set_same, get_or-set_other}
use Rattle.std.proofs.lemmas.List.Elements.{All-contains}
use Rattle.meaning.specs.Texts.{numbers_from}
use Rattle.meaning.specs.Models.{Transition}
use Rattle.meaning.specs.Systems.{is_number, is_some_number}
use Rattle.meaning.proofs.RunDistances.{found, length_numbers}
use Rattle.featured_systems.specs.Rounds.{Front, places, comes, first_into, marked, seen_below, parents_below}
use Rattle.featured_systems.proofs.Places.{IsPlace, all_places}

-- ---- rows of numbers

pub map_numbers : (f g : ℕ → Bool) (k n : ℕ) → ((y : ℕ) → k ≤ y → y < k + n → f y ≡ g y) → map f (numbers_from k n) ≡ map g (numbers_from k n)
map_numbers f g k zero same = refl
map_numbers f g k (suc n) same =
    let here = same k (omega arith) (omega arith) in
    let rest = map_numbers f g (suc k) n (λ y from below. same y (omega (arith, from)) (omega (arith, below))) in
    cc

number_at : (k n i : ℕ) → i < n → get_or (numbers_from k n) i 0 ≡ k + i
number_at k zero i below = absurd (omega (arith, below))
number_at k (suc n) zero below = omega arith
number_at k (suc n) (suc i) below = let same : suc k + i ≡ k + suc i = omega arith in number_at (suc k) n i (omega (arith, below)) ∙ same

pub at_number : (f : ℕ → Bool) (n i : ℕ) → i < n → get_or (map f (numbers_from 0 n)) i false ≡ f i
at_number f n i below =
    let long = length_numbers 0 n in
    let first : 0 + i ≡ i = omega arith in
    get_or-map f (numbers_from 0 n) i 0 false (omega (arith, long, below)) ∙ ap f (number_at 0 n i below ∙ first)

-- ---- the first transition into a state

-- among the transitions that lead to the state, and among all that are present
pub find_among : (c : ℕ → Bool) (leads present : Transition → Bool) (y k : ℕ) (ts : List Transition)
    → ((i : ℕ) (d : Transition) → i < length ts → c (k + i) ≡ (leads (get_or ts i d) && present (get_or ts i d)))
    → find c (places k y (map (λ t. t.target) ts)) ≡ option_map (λ t. t.0) (find (λ t. (t.1.target == y) && leads t.1) (filter (λ t. present t.1) (enumerate_from k ts)))
find_among c leads present y k [] same = refl
find_among c leads present y k (t ∷ ts) same =
    let none : k + 0 ≡ k = omega arith in
    step (t.target == y) (present t) (leads t) refl refl refl (ap c (sym none) ∙ same 0 t (omega arith))
    (find_among c leads present y (k + 1) ts (λ i d below. let moved : (k + 1) + i ≡ k + suc i = omega arith in ap c moved ∙ same (suc i) d (omega (arith, below))))
  where
    step : (at is_present does : Bool) → (t.target == y) ≡ at → present t ≡ is_present → leads t ≡ does → c k ≡ (leads t && present t)
        → find c (places (k + 1) y (map (λ u. u.target) ts)) ≡ option_map (λ u. u.0) (find (λ u. (u.1.target == y) && leads u.1) (filter (λ u. present u.1) (enumerate_from (k + 1) ts)))
        → find c (places k y (map (λ u. u.target) (t ∷ ts))) ≡ option_map (λ u. u.0) (find (λ u. (u.1.target == y) && leads u.1) (filter (λ u. present u.1) (enumerate_from k (t ∷ ts))))
    step true true true e p q here rest = rw (e, here, p, q) (rw e refl)
    step true true false e p q here rest = rw (e, here, p, q) (rw e rest)
    step true false true e p q here rest = rw (e, here, p, q) rest
    step true false false e p q here rest = rw (e, here, p, q) rest
    step false true does e p q here rest = rw (e, p) (rw e rest)
    step false false does e p q here rest = rw (e, p) rest

-- a state's first transition leads to it
leads_to : (f : Front) (y t : ℕ) → first_into f y ≡ Some t → (t < length f.targets) × (get_or f.targets t 0 ≡ y)
leads_to f y t e =
    let r = found (comes f) (places 0 y f.targets) t e in
    let place = All-contains (IsPlace 0 y f.targets) (places 0 y f.targets) t (all_places y f.targets) r.0 in
    let same : t ≡ 0 + t = omega arith in
    (omega (arith, place.below), place.there t same)

-- ---- all states of a round

pub seen_length : (f : Front) (seen : List Bool) (k : ℕ) → length (seen_below f seen k) ≡ length seen
seen_length f seen zero = refl
seen_length f seen (suc k) = length-set (seen_below f seen k) k _ ∙ seen_length f seen k

pub seen_at : (f : Front) (seen : List Bool) (k y : ℕ) → y < k → k ≤ length seen → get_or (seen_below f seen k) y false ≡ (get_or seen y false || is_some_number (first_into f y))
seen_at f seen zero y below within = absurd (omega (arith, below))
seen_at f seen (suc k) y below within = go (y == k) refl (λ less. seen_at f seen k y less (omega (arith, within)))
  where
    long : k < length (seen_below f seen k)
    long = omega (arith, within, seen_length f seen k)

    go : (b : Bool) → (y == k) ≡ b → (y < k → get_or (seen_below f seen k) y false ≡ (get_or seen y false || is_some_number (first_into f y)))
        → get_or (seen_below f seen (suc k)) y false ≡ (get_or seen y false || is_some_number (first_into f y))
    go true e before =
        let same = eqb-true y k e in
        ap (λ i. get_or (seen_below f seen (suc k)) i false) same ∙ get_or-set_same (seen_below f seen k) k _ false long
        ∙ ap (λ i. get_or seen i false || is_some_number (first_into f i)) (sym same)
    go false e before =
        let other : (y ≡ k) → ⊥ = λ same. false≢true (sym e ∙ eq-eqb y k same) in
        get_or-set_other (seen_below f seen k) k y _ false other ∙ before (grind (arith, below, other))

pub parents_length : (f : Front) (seen parents : List Bool) (k : ℕ) → length (parents_below f seen parents k) ≡ length parents
parents_length f seen parents zero = refl
parents_length f seen parents (suc k) = go (get_or seen k false) (first_into f k) ∙ parents_length f seen parents k
  where
    go : (s : Bool) (o : Option ℕ) → length (marked s o (parents_below f seen parents k)) ≡ length (parents_below f seen parents k)
    go s None = refl
    go true (Some t) = refl
    go false (Some t) = length-set (parents_below f seen parents k) t true

-- another state's turn leaves the parent alone
other_turn : (f : Front) (seen : Bool) (row : List Bool) (k t : ℕ) → ((get_or f.targets t 0 ≡ k) → ⊥) → get_or (marked seen (first_into f k) row) t false ≡ get_or row t false
other_turn f seen row k t other = go seen (first_into f k) refl
  where
    go : (s : Bool) (o : Option ℕ) → first_into f k ≡ o → get_or (marked s o row) t false ≡ get_or row t false
    go s None e = refl
    go true (Some u) e = refl
    go false (Some u) e = get_or-set_other row u t true false (λ (same : t ≡ u). other (ap (λ i. get_or f.targets i 0) same ∙ (leads_to f k u e).1))

own_turn : (f : Front) (seen : Bool) (row : List Bool) (k t : ℕ) → t < length row → get_or (marked seen (first_into f k) row) t false ≡ (get_or row t false || (not seen && is_number t (first_into f k)))
own_turn f seen row k t below = go seen (first_into f k)
  where
    or_false : (b : Bool) → b ≡ (b || false)
    or_false true = refl
    or_false false = refl

    or_true : (b : Bool) → true ≡ (b || true)
    or_true true = refl
    or_true false = refl

    write : (u : ℕ) (b : Bool) → (u == t) ≡ b → get_or (set row u true) t false ≡ (get_or row t false || b)
    write u true e = let same = eqb-true u t e in ap (λ i. get_or (set row i true) t false) same ∙ get_or-set_same row t true false below ∙ or_true (get_or row t false)
    write u false e = get_or-set_other row u t true false (λ (same : t ≡ u). false≢true (sym e ∙ eq-eqb u t (sym same))) ∙ or_false (get_or row t false)

    go : (s : Bool) (o : Option ℕ) → get_or (marked s o row) t false ≡ (get_or row t false || (not s && is_number t o))
    go true None = or_false (get_or row t false)
    go true (Some u) = or_false (get_or row t false)
    go false None = or_false (get_or row t false)
    go false (Some u) = write u (u == t) refl

-- before and after the turn of its state
parent_before : (f : Front) (seen parents : List Bool) (k t : ℕ) → k ≤ get_or f.targets t 0 → get_or (parents_below f seen parents k) t false ≡ get_or parents t false
parent_before f seen parents zero t before = refl
parent_before f seen parents (suc k) t before =
    other_turn f (get_or seen k false) (parents_below f seen parents k) k t (λ (same : get_or f.targets t 0 ≡ k). omega (arith, before, same))
    ∙ parent_before f seen parents k t (omega (arith, before))

pub parent_after : (f : Front) (seen parents : List Bool) (k t y : ℕ) → get_or f.targets t 0 ≡ y → y < k → t < length parents
    → get_or (parents_below f seen parents k) t false ≡ (get_or parents t false || (not (get_or seen y false) && is_number t (first_into f y)))
parent_after f seen parents zero t y at below within = absurd (omega (arith, below))
parent_after f seen parents (suc k) t y at below within = go (y == k) refl (λ less. parent_after f seen parents k t y at less within)
  where
    result : Bool
    result = get_or parents t false || (not (get_or seen y false) && is_number t (first_into f y))

    go : (b : Bool) → (y == k) ≡ b
        → (y < k → get_or (parents_below f seen parents k) t false ≡ (get_or parents t false || (not (get_or seen y false) && is_number t (first_into f y))))
        → get_or (parents_below f seen parents (suc k)) t false ≡ (get_or parents t false || (not (get_or seen y false) && is_number t (first_into f y)))
    go true e earlier =
        let same = eqb-true y k e in
        own_turn f (get_or seen k false) (parents_below f seen parents k) k t (omega (arith, within, parents_length f seen parents k))
        ∙ ap (λ b. b || (not (get_or seen k false) && is_number t (first_into f k))) (parent_before f seen parents k t (omega (arith, at, same)))
        ∙ ap (λ i. get_or parents t false || (not (get_or seen i false) && is_number t (first_into f i))) (sym same)
    go false e earlier =
        let other : (y ≡ k) → ⊥ = λ same. false≢true (sym e ∙ eq-eqb y k same) in
        other_turn f (get_or seen k false) (parents_below f seen parents k) k t (λ (same : get_or f.targets t 0 ≡ k). other (sym at ∙ same)) ∙ earlier (grind (arith, below, other))
