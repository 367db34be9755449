-- Before the first round, the list of the layers, and after the last round, at one world.
use Rattle.std.proofs.Common.{◌≡◌, ◌∙◌, refl, sym, ap, ℕ, zero, suc, ◌+◌, ◌-◌, ◌<◌, ◌≤◌, ◌⊎◌, inl, inr, List, [], ◌∷◌, ◌++◌, map, length, get_or, replicate, Bool, true, false, append_assoc, arith}
use Rattle.std.specs.Prelude.{◌&&◌, ◌==◌, nat_le, if◌then◌else◌, Option, Some, None, filter}
use Rattle.std.proofs.lemmas.Bool.{eqb-true}
use Rattle.std.proofs.lemmas.List.{length-map, get_or-map, ext_get_or, append-nil}
use Rattle.std.proofs.lemmas.List.FromFn.{length-enumerate_from}
use Rattle.meaning.specs.Texts.{numbered, numbers_from, flat, holds_at}
use Rattle.meaning.specs.Models.{State, Transition, PlainSystem}
use Rattle.meaning.specs.Systems.{distance, is_number, is_some_number, is_reachable}
use Rattle.meaning.specs.Layers.{is_within, states_at_distance, states_by_distance}
use Rattle.meaning.specs.Tidy.{is_step_back}
use Rattle.meaning.proofs.RunDistances.{true_or_false, false_if_not, first_layer, within_none, back_none, back_at_last, distance_below, numbers_push, length_numbers}
use Rattle.featured_systems.specs.Rounds.{layer_of, seen_of, goes_back, parents_of, layers_to, states_in}
use Rattle.featured_systems.proofs.RoundsAtWorlds.{map_numbers, at_number}

-- ---- at the start

pub holds_is : (bs : List Bool) (i : ℕ) → holds_at bs i ≡ get_or bs i false
holds_is [] i = refl
holds_is (b ∷ bs) zero = refl
holds_is (b ∷ bs) (suc i) = holds_is bs i

-- the initial states are the first layer
pub first_layer_is : (b : Bool) (p : PlainSystem) → map (λ s. b && s.initial) p.states ≡ layer_of b p 0
first_layer_is b p =
    let long = length-map p.states (λ s. b && s.initial) in
    let longer = length-map (numbers_from 0 (length p.states)) (λ y. b && is_number 0 (distance p y)) ∙ length_numbers 0 (length p.states) in
    ext_get_or false (map (λ s. b && s.initial) p.states) (layer_of b p 0) (long ∙ sym longer)
    (λ y within.
    let inside : y < length p.states = omega (arith, within, long) in
    let some : 0 < length p.states = omega (arith, inside) in
    let s = there_is p.states y inside in
    get_or-map (λ s. b && s.initial) p.states y s false inside
    ∙ ap (λ q. b && q) (sym (first_layer p y some ∙ holds_is (map (λ s. s.initial) p.states) y ∙ get_or-map (λ s. s.initial) p.states y s false inside))
    ∙ sym (at_number (λ z. b && is_number 0 (distance p z)) (length p.states) y inside))
  where
    there_is : (xs : List State) (i : ℕ) → i < length xs → State
    there_is [] i below = absurd (omega (arith, below))
    there_is (x ∷ xs) i below = x

pub first_seen_is : (b : Bool) (p : PlainSystem) → map (λ s. b && s.initial) p.states ≡ seen_of b p 0
first_seen_is b p =
    first_layer_is b p
    ∙ map_numbers (λ y. b && is_number 0 (distance p y)) (λ y. b && is_within 0 (distance p y)) 0 (length p.states) (λ y from below. ap (λ q. b && q) (sym (within_none p y)))

all_false : {X : Type 0} (f : X → Bool) (xs : List X) → ((x : X) → f x ≡ false) → replicate (length xs) false ≡ map f xs
all_false f [] none = refl
all_false f (x ∷ xs) none = let here = none x in let rest = all_false f xs none in cc

pub first_parents_are : (b : Bool) (p : PlainSystem) (ts : List Transition) → replicate (length ts) false ≡ parents_of b p ts 0
first_parents_are b p ts =
    ap (λ n. replicate n false) (sym (length-enumerate_from 0 ts))
    ∙ all_false (λ t. b && goes_back p 0 t.0 t.1.target) (numbered ts) (λ t. ap (λ q. b && q) (back_none p t.0 t.1.target) ∙ none b)
  where
    none : (c : Bool) → (c && false) ≡ false
    none true = refl
    none false = refl

-- ---- the list of the layers

filter_numbers : (f g : ℕ → Bool) (k n : ℕ) → ((y : ℕ) → k ≤ y → y < k + n → f y ≡ g y) → filter f (numbers_from k n) ≡ filter g (numbers_from k n)
filter_numbers f g k zero same = refl
filter_numbers f g k (suc n) same =
    let here = same k (omega arith) (omega arith) in
    go (g k) here (filter_numbers f g (suc k) n (λ y from below. same y (omega (arith, from)) (omega (arith, below))))
  where
    go : (b : Bool) → f k ≡ g k → filter f (numbers_from (suc k) n) ≡ filter g (numbers_from (suc k) n) → filter f (numbers_from k (suc n)) ≡ filter g (numbers_from k (suc n))
    go b here rest = rw here (both (g k) rest)
      where
        both : (c : Bool) → filter f (numbers_from (suc k) n) ≡ filter g (numbers_from (suc k) n)
            → (if c then k ∷ filter f (numbers_from (suc k) n) else filter f (numbers_from (suc k) n)) ≡ (if c then k ∷ filter g (numbers_from (suc k) n) else filter g (numbers_from (suc k) n))
        both true r = ap (λ ns. k ∷ ns) r
        both false r = r

filter_none : (k n : ℕ) → filter (λ y. false) (numbers_from k n) ≡ []
filter_none k zero = refl
filter_none k (suc n) = filter_none (suc k) n

-- the states of a layer
pub states_of_layer : (b : Bool) (p : PlainSystem) (d : ℕ) → states_in d (layer_of b p d) (length p.states) ≡ (if b then states_at_distance p d else [])
states_of_layer b p d =
    ap (map {B = ℕ × ℕ} (λ y. (d, y))) (filter_numbers (λ y. get_or (layer_of b p d) y false) (λ y. b && is_number d (distance p y)) 0 (length p.states)
    (λ y from below. at_number (λ z. b && is_number d (distance p z)) (length p.states) y (omega (arith, below))))
    ∙ go b
  where
    go : (c : Bool) → map {B = ℕ × ℕ} (λ y. (d, y)) (filter (λ y. c && is_number d (distance p y)) (numbers_from 0 (length p.states))) ≡ (if c then states_at_distance p d else [])
    go true = refl
    go false = ap (map {B = ℕ × ℕ} (λ y. (d, y))) (filter_none 0 (length p.states))

flat_append : {A B : Type 0} (f : A → List B) (xs ys : List A) → flat f (xs ++ ys) ≡ flat f xs ++ flat f ys
flat_append f [] ys = refl
flat_append f (x ∷ xs) ys = ap (λ zs. f x ++ zs) (flat_append f xs ys) ∙ sym (append_assoc (f x) (flat f xs) (flat f ys))

flat_push : {B : Type 0} (f : ℕ → List B) (k : ℕ) → flat f (numbers_from 0 (suc k)) ≡ flat f (numbers_from 0 k) ++ f k
flat_push f k =
    let first : 0 + k ≡ k = omega arith in
    ap (flat f) (numbers_push 0 k) ∙ flat_append f (numbers_from 0 k) ((0 + k) ∷ []) ∙ ap (λ i. flat f (numbers_from 0 k) ++ (f i ++ [])) first
    ∙ ap (λ zs. flat f (numbers_from 0 k) ++ zs) (append-nil (f k))

pub layers_push : (b : Bool) (p : PlainSystem) (k : ℕ) → layers_to b p (suc k) ≡ layers_to b p k ++ states_in k (layer_of b p k) (length p.states)
layers_push b p k = go b ∙ ap (λ ps. layers_to b p k ++ ps) (sym (states_of_layer b p k))
  where
    go : (c : Bool) → layers_to c p (suc k) ≡ layers_to c p k ++ (if c then states_at_distance p k else [])
    go true = flat_push (states_at_distance p) k
    go false = refl

-- ---- in the end

-- no distance is greater
abbrev pub NoneFurther : PlainSystem → ℕ → Type 0
NoneFurther p d = (y : ℕ) → is_within d (distance p y) ≡ is_reachable p y

-- a state at a distance isn't past the last one
at_most : (p : PlainSystem) (d i y : ℕ) → NoneFurther p d → d < i → is_number i (distance p y) ≡ false
at_most p d i y none past = go (distance p y) (none y)
  where
    go : (o : Option ℕ) → is_within d o ≡ is_some_number o → is_number i o ≡ false
    go None e = refl
    go (Some e) within = false_if_not (e == i) (λ h. let same = eqb-true e i h in grind (arith, same, past, within))

below_count : (p : PlainSystem) (i y : ℕ) → length p.states ≤ i → is_number i (distance p y) ≡ false
below_count p i y past = go (distance p y) refl
  where
    go : (o : Option ℕ) → distance p y ≡ o → is_number i o ≡ false
    go None e = refl
    go (Some e) is = false_if_not (e == i) (λ h. let same = eqb-true e i h in omega (arith, same, past, distance_below p y e is))

none_there : (p : PlainSystem) (i : ℕ) → ((y : ℕ) → is_number i (distance p y) ≡ false) → states_at_distance p i ≡ []
none_there p i none =
    ap (map {B = ℕ × ℕ} (λ y. (i, y))) (filter_numbers (λ y. is_number i (distance p y)) (λ y. false) 0 (length p.states) (λ y from below. none y) ∙ filter_none 0 (length p.states))

flat_more : {B : Type 0} (f : ℕ → List B) (k j : ℕ) → ((i : ℕ) → k ≤ i → f i ≡ []) → flat f (numbers_from 0 (k + j)) ≡ flat f (numbers_from 0 k)
flat_more f k zero none = let same : k + 0 ≡ k = omega arith in ap (λ n. flat f (numbers_from 0 n)) same
flat_more f k (suc j) none =
    let same : k + suc j ≡ suc (k + j) = omega arith in
    ap (λ n. flat f (numbers_from 0 n)) same ∙ flat_push f (k + j) ∙ ap (λ zs. flat f (numbers_from 0 (k + j)) ++ zs) (none (k + j) (omega arith))
    ∙ append-nil (flat f (numbers_from 0 (k + j))) ∙ flat_more f k j none

all_layers : (p : PlainSystem) (d : ℕ) → NoneFurther p d → flat (states_at_distance p) (numbers_from 0 (suc d)) ≡ states_by_distance p
all_layers p d none = go (true_or_false (nat_le (length p.states) (suc d)))
  where
    go : (nat_le (length p.states) (suc d) ≡ true) ⊎ (nat_le (length p.states) (suc d) ≡ false) → flat (states_at_distance p) (numbers_from 0 (suc d)) ≡ states_by_distance p
    go (inl few) =
        let whole : suc d ≡ length p.states + (suc d - length p.states) = grind (arith, few) in
        ap (λ k. flat (states_at_distance p) (numbers_from 0 k)) whole
        ∙ flat_more (states_at_distance p) (length p.states) (suc d - length p.states) (λ i past. none_there p i (λ y. below_count p i y past))
    go (inr many) =
        let whole : length p.states ≡ suc d + (length p.states - suc d) = grind (arith, many) in
        sym
        (ap (λ k. flat (states_at_distance p) (numbers_from 0 k)) whole
        ∙ flat_more (states_at_distance p) (suc d) (length p.states - suc d) (λ i past. none_there p i (λ y. at_most p d i y none (omega (arith, past)))))

pub last_seen_is : (b : Bool) (p : PlainSystem) (d : ℕ) → (b ≡ true → NoneFurther p d) → seen_of b p d ≡ map (λ y. b && is_reachable p y) (numbers_from 0 (length p.states))
last_seen_is b p d none =
    map_numbers (λ y. b && is_within d (distance p y)) (λ y. b && is_reachable p y) 0 (length p.states) (λ y from below. go b none y)
  where
    go : (c : Bool) → (c ≡ true → NoneFurther p d) → (y : ℕ) → (c && is_within d (distance p y)) ≡ (c && is_reachable p y)
    go true h y = h refl y
    go false h y = refl

map_same_all : {X : Type 0} (f g : X → Bool) (xs : List X) → ((x : X) → f x ≡ g x) → map f xs ≡ map g xs
map_same_all f g [] same = refl
map_same_all f g (x ∷ xs) same = let here = same x in let rest = map_same_all f g xs same in cc

pub last_parents_are : (b : Bool) (p : PlainSystem) (ts : List Transition) (d : ℕ) → (b ≡ true → NoneFurther p d)
    → parents_of b p ts d ≡ map (λ t. b && is_step_back p t.0 t.1.target (distance p t.1.target)) (numbered ts)
last_parents_are b p ts d none =
    map_same_all (λ t. b && goes_back p d t.0 t.1.target) (λ t. b && is_step_back p t.0 t.1.target (distance p t.1.target)) (numbered ts) (λ t. go b none t)
  where
    go : (c : Bool) → (c ≡ true → NoneFurther p d) → (t : ℕ × Transition) → (c && goes_back p d t.0 t.1.target) ≡ (c && is_step_back p t.0 t.1.target (distance p t.1.target))
    go true h t = back_at_last p t.0 t.1.target d (h refl t.1.target)
    go false h t = refl

pub last_layers_are : (b : Bool) (p : PlainSystem) (d : ℕ) → (b ≡ true → NoneFurther p d) → layers_to b p (suc d) ≡ (if b then states_by_distance p else [])
last_layers_are b p d none = go b none
  where
    go : (c : Bool) → (c ≡ true → NoneFurther p d) → layers_to c p (suc d) ≡ (if c then states_by_distance p else [])
    go true h = all_layers p d (h refl)
    go false h = refl
