-- States that a present transition leaves, and lists with an item for each number.
use Rattle.std.proofs.Common.{◌≡◌, ◌<◌, ◌+◌, refl, sym, ap, ◌∙◌, ℕ, zero, suc, Bool, true, false, cond, List, [], ◌∷◌, map, length, get_or, set, take, replicate, arith}
use Rattle.std.specs.Prelude.{◌==◌, ◌&&◌, ◌||◌, not, filter, Some}
use Rattle.std.specs.List.{enumerate_from, list_any, slice_get}
use Rattle.std.proofs.Math.Bool.{or-false, and-true, and-false, or_assoc}
use Rattle.std.proofs.lemmas.Bool.{eq-eqb}
use Rattle.std.proofs.lemmas.Bool.Decides.{nat_tests}
use Rattle.meaning.specs.Texts.{numbers_from}
use Rattle.annotated_model.proofs.ViewedItems.{any_at}
use Rattle.invariant_check.proofs.FirstViolations.{map_numbers_same, set_numbers}

-- ---- an item for each number

pub by_number : {A B : Type 0} (f : A → B) (g : ℕ → B) (k : ℕ) (xs : List A) → ((i : ℕ) (x : A) → slice_get xs i ≡ Some x → g (k + i) ≡ f x)
    → map f xs ≡ map g (numbers_from k (length xs))
by_number f g k [] same = refl
by_number f g k (x ∷ xs) same =
    let first : k + 0 ≡ k = omega arith in
    let here : g k ≡ f x = ap g (sym first) ∙ same 0 x refl in
    let rest = by_number f g (suc k) xs (λ i y e. (let next : suc k + i ≡ k + suc i = omega arith in ap g next ∙ same (suc i) y e)) in
    cc

-- a test of each item, told by the items' numbers
pub tests_by_number : {A : Type 0} (f : A → Bool) (xs : List A)
    → map f xs ≡ map (λ i. list_any (λ (y : ℕ × A). (y.0 == i) && f y.1) (enumerate_from 0 xs)) (numbers_from 0 (length xs))
tests_by_number {A} f xs =
    by_number f (λ i. list_any (λ (y : ℕ × A). (y.0 == i) && f y.1) (enumerate_from 0 xs)) 0 xs (λ i x e. any_at f xs 0 i x e)

pub numbers_length : {B : Type 0} (f : ℕ → B) (k n : ℕ) → length (map f (numbers_from k n)) ≡ n
numbers_length f k zero = refl
numbers_length f k (suc n) = ap suc (numbers_length f (suc k) n)

pub map_same_numbers : {B : Type 0} (f g : ℕ → B) → ((i : ℕ) → f i ≡ g i) → (k n : ℕ) → map f (numbers_from k n) ≡ map g (numbers_from k n)
map_same_numbers f g same k n = map_numbers_same f g k n (λ i l m. same i)

pub all_alike : {B : Type 0} (b : B) (k n : ℕ) → replicate n b ≡ map (λ (i : ℕ). b) (numbers_from k n)
all_alike b k zero = refl
all_alike b k (suc n) = ap (λ bs. b ∷ bs) (all_alike b (suc k) n)

-- ---- which states are left

-- one of the transitions with these sources is present and leaves the state
abbrev pub is_left : List ℕ → List Bool → ℕ → Bool
is_left [] steps i = false
is_left (y ∷ ys) [] i = false
is_left (y ∷ ys) (b ∷ bs) i = ((y == i) && b) || is_left ys bs i

-- one transition more
left_more : (ys : List ℕ) (bs : List Bool) (k i : ℕ) → k < length ys → k < length bs
    → is_left (take (suc k) ys) bs i ≡ (is_left (take k ys) bs i || ((get_or ys k 0 == i) && get_or bs k false))
left_more [] bs k i l m = absurd (omega (arith, l))
left_more (y ∷ ys) [] k i l m = absurd (omega (arith, m))
left_more (y ∷ ys) (b ∷ bs) zero i l m = or-false ((y == i) && b)
left_more (y ∷ ys) (b ∷ bs) (suc k) i l m =
    ap (λ c. ((y == i) && b) || c) (left_more ys bs k i (omega (arith, l)) (omega (arith, m)))
    ∙ sym (or_assoc ((y == i) && b) (is_left (take k ys) bs i) ((get_or ys k 0 == i) && get_or bs k false))

neither : (a b : Bool) → not (a || (true && b)) ≡ (not a && not b)
neither true b = refl
neither false b = refl

-- the states that none of the transitions leaves, after one transition more
pub unleft_more : (ys : List ℕ) (bs : List Bool) (k n from : ℕ) (v : Bool) → k < length ys → k < length bs → from < n → get_or ys k 0 ≡ from
    → v ≡ (not (is_left (take k ys) bs from) && not (get_or bs k false))
    → set (map (λ i. not (is_left (take k ys) bs i)) (numbers_from 0 n)) from v ≡ map (λ i. not (is_left (take (k + 1) ys) bs i)) (numbers_from 0 n)
unleft_more ys bs k n from v l m below source is =
    set_numbers (λ i. not (is_left (take k ys) bs i)) (λ i. not (is_left (take (k + 1) ys) bs i)) 0 n from v other below here
  where
    next : k + 1 ≡ suc k
    next = omega arith

    more : (i : ℕ) → is_left (take (k + 1) ys) bs i ≡ (is_left (take k ys) bs i || ((from == i) && get_or bs k false))
    more i = ap (λ j. is_left (take j ys) bs i) next ∙ left_more ys bs k i l m
        ∙ ap (λ y. is_left (take k ys) bs i || ((y == i) && get_or bs k false)) source

    other : (j : ℕ) → (j ≡ 0 + from → ⊥) → not (is_left (take k ys) bs j) ≡ not (is_left (take (k + 1) ys) bs j)
    other j differ =
        let away : (from == j) ≡ false = grind (arith, nat_tests) in
        ap not (sym (more j ∙ ap (λ b. is_left (take k ys) bs j || (b && get_or bs k false)) away ∙ or-false (is_left (take k ys) bs j)))

    here : not (is_left (take (k + 1) ys) bs (0 + from)) ≡ v
    here =
        let first : 0 + from ≡ from = omega arith in
        ap (λ i. not (is_left (take (k + 1) ys) bs i)) first
        ∙ ap not (more from)
        ∙ ap (λ b. not (is_left (take k ys) bs from || (b && get_or bs k false))) (eq-eqb from from refl)
        ∙ neither (is_left (take k ys) bs from) (get_or bs k false) ∙ sym is

-- a state is left where one of the transitions that are present starts there
pub left_is : {A : Type 0} (source : A → ℕ) (present : A → Bool) (k i : ℕ) (ts : List A)
    → is_left (map source ts) (map present ts) i ≡ list_any (λ (t : ℕ × A). source t.1 == i) (filter (λ t. present t.1) (enumerate_from k ts))
left_is source present k i [] = refl
left_is {A} source present k i (t ∷ ts) = go (present t) (left_is source present (k + 1) i ts)
  where
    rest : List (ℕ × A)
    rest = filter (λ u. present u.1) (enumerate_from (k + 1) ts)

    go : (b : Bool) → is_left (map source ts) (map present ts) i ≡ list_any (λ (u : ℕ × A). source u.1 == i) rest
        → (((source t == i) && b) || is_left (map source ts) (map present ts) i) ≡ list_any (λ (u : ℕ × A). source u.1 == i) (cond b ((k, t) ∷ rest) rest)
    go true later = ap (λ c. c || is_left (map source ts) (map present ts) i) (and-true (source t == i)) ∙ ap (λ c. (source t == i) || c) later
    go false later = ap (λ c. c || is_left (map source ts) (map present ts) i) (and-false (source t == i)) ∙ later
