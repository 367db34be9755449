-- The places of the layers: each distance and each state is below the number of states, so there are at most as many as its square.
use Rattle.std.proofs.Common.{◌≡◌, ◌∙◌, refl, sym, ap, subst, ℕ, zero, suc, ◌+◌, ◌*◌, ◌<◌, ◌≤◌, inl, inr, List, [], ◌∷◌, ◌++◌, map, length, Bool, true, false, cond, Some, arith}
use Rattle.std.specs.Prelude.{◌&&◌, filter, if◌then◌else◌}
use Rattle.std.specs.List.{AllByRecursion}
use Rattle.std.proofs.Math.Nat.{mul-le-mul_left, mul-le-mul_right, add-mul}
use Rattle.std.proofs.lemmas.Bool.{false≢true}
use Rattle.std.proofs.lemmas.List.{map-id}
use Rattle.meaning.specs.Texts.{flat, first_of_list, numbers_from}
use Rattle.meaning.specs.Bounds.{asks_of_judging}
use Rattle.meaning.specs.Models.{System, PlainSystem}
use Rattle.meaning.specs.Systems.{Property, distance, violates, violating_states, last_state, is_number}
use Rattle.meaning.specs.Layers.{states_at_distance, states_by_distance}
use Rattle.featured_systems.specs.Exploring.{IsNearer, Ascending}

abbrev pub IsBelow : ℕ → ℕ × ℕ → Type 0
IsBelow n p = (p.0 < n) × (p.1 < n)

-- ---- how many pairs ascend below a number

next_place : (n : ℕ) (p q : ℕ × ℕ) → IsNearer p q → IsBelow n p → p.0 * n + p.1 + 1 ≤ q.0 * n + q.1
next_place n p q (inl less) below =
    let further : p.0 + 1 ≤ q.0 = omega (arith, less) in
    let more = mul-le-mul_right n further in
    let sum = add-mul p.0 1 n in
    omega (arith, more, sum, below.1)
next_place n p q (inr same) below =
    let equal : p.0 * n ≡ q.0 * n = ap (λ k. k * n) same.0 in
    omega (arith, equal, same.1)

count_from : (n : ℕ) (p : ℕ × ℕ) (ps : List (ℕ × ℕ)) → Ascending (p ∷ ps) → AllByRecursion (IsBelow n) (p ∷ ps) → length (p ∷ ps) + (p.0 * n + p.1) ≤ n * n
count_from n p [] ascending all =
    let further : p.0 + 1 ≤ n = omega (arith, all.0.0) in
    let more = mul-le-mul_right n further in
    let sum = add-mul p.0 1 n in
    omega (arith, more, sum, all.0.1)
count_from n p (q ∷ ps) ascending all =
    let rest = count_from n q ps ascending.1 all.1 in
    let next = next_place n p q ascending.0 all.0 in
    omega (arith, rest, next)

pub count_below : (n : ℕ) (ps : List (ℕ × ℕ)) → Ascending ps → AllByRecursion (IsBelow n) ps → length ps ≤ n * n
count_below n [] ascending all = omega arith
count_below n (p ∷ ps) ascending all = let some = count_from n p ps ascending all in omega (arith, some)

-- ---- what a check asks

pub judging_asks : (s : System) (layers : ℕ) → layers ≤ length s.states * length s.states → length s.transitions + 4 * layers + 1 ≤ asks_of_judging s
judging_asks s layers few =
    let n = length s.states in
    let t = length s.transitions in
    let within : n ≤ n + t + 1 = omega arith in
    let more = mul-le-mul_left n within in
    let sum = add-mul n 1 (n + t + 1) in
    omega (arith, few, more, sum)

-- ---- lists made of the numbers below n

all_append : {B : Type 0} (P : B → Type 0) (xs ys : List B) → AllByRecursion P xs → AllByRecursion P ys → AllByRecursion P (xs ++ ys)
all_append P [] ys xs_all ys_all = ys_all
all_append P (x ∷ xs) ys xs_all ys_all = (xs_all.0, all_append P xs ys xs_all.1 ys_all)

all_flat : {B : Type 0} (P : B → Type 0) (f : ℕ → List B) (n : ℕ) → ((d : ℕ) → d < n → AllByRecursion P (f d)) → (k m : ℕ) → k + m ≤ n → AllByRecursion P (flat f (numbers_from k m))
all_flat P f n each k zero within = tt
all_flat P f n each k (suc m) within =
    all_append P (f k) (flat f (numbers_from (suc k) m)) (each k (omega (arith, within))) (all_flat P f n each (suc k) m (omega (arith, within)))

all_kept : {B : Type 0} (P : B → Type 0) (g : ℕ → B) (test : ℕ → Bool) (n : ℕ) → ((i : ℕ) → i < n → P (g i)) → (k m : ℕ) → k + m ≤ n → AllByRecursion P (map g (filter test (numbers_from k m)))
all_kept P g test n each k zero within = tt
all_kept {B} P g test n each k (suc m) within = go (test k) (all_kept P g test n each (suc k) m (omega (arith, within)))
  where
    go : (b : Bool) → AllByRecursion P (map g (filter test (numbers_from (suc k) m))) → AllByRecursion P (map g (cond b (k ∷ filter test (numbers_from (suc k) m)) (filter test (numbers_from (suc k) m))))
    go true rest = (each k (omega (arith, within)), rest)
    go false rest = rest

pub distances_below : (s : PlainSystem) → AllByRecursion (IsBelow (length s.states)) (states_by_distance s)
distances_below s =
    all_flat (IsBelow (length s.states)) (states_at_distance s) (length s.states)
    (λ d below. all_kept (IsBelow (length s.states)) (λ x. (d, x)) (λ x. is_number d (distance s x)) (length s.states) (λ i less. (below, less)) 0 (length s.states) (omega arith))
    0 (length s.states) (omega arith)

pub layers_below : (there : Bool) (s : PlainSystem) → AllByRecursion (IsBelow (length s.states)) (if there then states_by_distance s else [])
layers_below true s = distances_below s
layers_below false s = tt

-- ---- the last state of a refuted check

first_has : (P : ℕ → Type 0) (xs : List ℕ) (m : ℕ) → AllByRecursion P xs → first_of_list xs ≡ Some m → P m
first_has P [] m all is = absurd cc
first_has P (x ∷ xs) m all is = let same : x ≡ m = cc in subst P same all.0

pub last_below : (labels : ℕ) (s : PlainSystem) (p : Property) (m : ℕ) → last_state labels s p ≡ Some m → m < length s.states
last_below labels s p m is = first_has (λ i. i < length s.states) (violating_states labels s p) m violating is
  where
    violating : AllByRecursion (λ i. i < length s.states) (violating_states labels s p)
    violating = all_flat (λ i. i < length s.states) (λ d. filter (λ x. is_number d (distance s x) && violates labels s p x) (numbers_from 0 (length s.states))) (length s.states)
        (λ d below. subst (AllByRecursion (λ i. i < length s.states)) (map-id (filter (λ x. is_number d (distance s x) && violates labels s p x) (numbers_from 0 (length s.states))))
        (all_kept (λ i. i < length s.states) (λ i. i) (λ x. is_number d (distance s x) && violates labels s p x) (length s.states) (λ i less. less) 0 (length s.states) (omega arith)))
        0 (length s.states) (omega arith)

-- ---- what holds of the kept items holds of each that is kept

pub each_kept : {L B : Type 0} (P : B → Type 0) (g : L → B) (h : L → Bool) (ls : List L) → AllByRecursion P (map g (filter h ls)) → AllByRecursion (λ l. h l ≡ true → P (g l)) ls
each_kept P g h [] all = tt
each_kept {L} {B} P g h (l ∷ ls) all = go (h l) refl all (each_kept P g h ls)
  where
    Each : Type 0
    Each = AllByRecursion (λ k. h k ≡ true → P (g k)) ls

    go : (b : Bool) → h l ≡ b → AllByRecursion P (map g (cond b (l ∷ filter h ls) (filter h ls))) → (AllByRecursion P (map g (filter h ls)) → Each) → (h l ≡ true → P (g l)) × Each
    go true e kept later = ((λ is. kept.0), later kept.1)
    go false e kept later = ((λ is. absurd (false≢true (sym e ∙ is))), later kept)
