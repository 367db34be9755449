-- One round at one world is one distance more.
use Rattle.std.proofs.Common.{◌≡◌, ◌∙◌, refl, sym, ap, ℕ, zero, suc, ◌+◌, ◌<◌, List, [], ◌∷◌, map, length, get_or, Bool, true, false, arith}
use Rattle.std.specs.Prelude.{◌&&◌, ◌||◌, not, None, find}
use Rattle.std.specs.List.{All}
use Rattle.std.proofs.lemmas.List.{length-map, get_or-map, ext_get_or}
use Rattle.std.proofs.lemmas.List.FromFn.{length-enumerate_from, get_or-enumerate_from}
use Rattle.meaning.specs.Texts.{numbered, numbers_from}
use Rattle.meaning.specs.Expressions.{truth}
use Rattle.meaning.specs.Models.{Transition, System, projection}
use Rattle.meaning.specs.Systems.{distance, is_number, is_some_number, IsProperSystem}
use Rattle.meaning.specs.Layers.{is_within}
use Rattle.meaning.proofs.RunDistances.{number_back, next_distance, within_next, back_next, length_numbers}
use Rattle.featured_systems.specs.Rounds.{Front, places, comes, first_into, is_entered, entered_below, seen_below, parents_below, layer_of, seen_of, goes_back, parents_of}
use Rattle.featured_systems.proofs.RoundSteps.{none_into}
use Rattle.featured_systems.proofs.RoundsAtWorlds.{map_numbers, at_number, find_among, seen_length, seen_at, parents_length, parent_after}

-- the rows of a round of a system at a world
pub record IsFront (f : Front) (b : Bool) (x : List Bool) (s : System) (d : ℕ) : Type 0 where
  pub sources : f.sources ≡ map (λ t. t.source) s.transitions
  pub targets : f.targets ≡ map (λ t. t.target) s.transitions
  pub steps : f.steps ≡ map (λ t. b && truth t.presence x) s.transitions
  pub last : f.last ≡ layer_of b (projection x s) d

-- the ends of the transitions are states
pub record HasEnds (s : System) : Type 0 where
  pub sources : All (λ t. t.source < length s.states) s.transitions
  pub targets : All (λ t. t.target < length s.states) s.transitions

and_false : (b : Bool) → (b && false) ≡ false
and_false true = refl
and_false false = refl

first_there : (f : Front) (x : List Bool) (s : System) (d y : ℕ) → HasEnds s → IsFront f true x s d → first_into f y ≡ number_back (projection x s) d y
first_there f x s d y ends is =
    let p = projection x s in
    let leads : Transition → Bool = λ t. is_number d (distance p t.source) in
    let present : Transition → Bool = λ t. truth t.presence x in
    ap (λ ts. find (comes f) (places 0 y ts)) is.targets
    ∙ find_among (comes f) leads present y 0 s.transitions
    (λ i t below.
    let none : 0 + i ≡ i = omega arith in
    let source : get_or f.sources i 0 ≡ (get_or s.transitions i t).source = ap (λ l. get_or l i 0) is.sources ∙ get_or-map (λ u. u.source) s.transitions i t 0 below in
    let last : get_or f.last (get_or f.sources i 0) false ≡ leads (get_or s.transitions i t) =
    ap (λ k. get_or f.last k false) source ∙ ap (λ l. get_or l (get_or s.transitions i t).source false) is.last
    ∙ at_number (λ z. true && is_number d (distance p z)) (length s.states) (get_or s.transitions i t).source (ends.sources i t below) in
    let step : get_or f.steps i false ≡ present (get_or s.transitions i t) = ap (λ l. get_or l i false) is.steps ∙ get_or-map (λ u. true && truth u.presence x) s.transitions i t false below in
    ap (comes f) none ∙ ap (λ q. q && get_or f.steps i false) last ∙ ap (λ q. leads (get_or s.transitions i t) && q) step)

first_nowhere : (f : Front) (x : List Bool) (s : System) (d y : ℕ) → IsFront f false x s d → first_into f y ≡ None
first_nowhere f x s d y is =
    none_into f y
    (λ t below at.
    ap (λ q. get_or f.last (get_or f.sources t 0) false && q) (ap (λ l. get_or l t false) is.steps ∙ in_row s.transitions t) ∙ and_false (get_or f.last (get_or f.sources t 0) false))
  where
    in_row : (ts : List Transition) (t : ℕ) → get_or (map (λ u. false && truth u.presence x) ts) t false ≡ false
    in_row [] t = refl
    in_row (u ∷ ts) zero = refl
    in_row (u ∷ ts) (suc t) = in_row ts t

module _ (f : Front) (b : Bool) (x : List Bool) (s : System) (d : ℕ) (ends : HasEnds s) (proper : IsProperSystem (projection x s)) (below : suc d < length s.states) (is : IsFront f b x s d) where
  abbrev seen : List Bool
  seen = seen_of b (projection x s) d

  seen_long : length seen ≡ length s.states
  seen_long = length-map (numbers_from 0 (length s.states)) (λ y. b && is_within d (distance (projection x s) y)) ∙ length_numbers 0 (length s.states)

  was_seen : (y : ℕ) → y < length s.states → get_or seen y false ≡ (b && is_within d (distance (projection x s) y))
  was_seen y within = at_number (λ z. b && is_within d (distance (projection x s) z)) (length s.states) y within

  entered_one : (y : ℕ) → y < length s.states → is_entered f seen y ≡ (b && is_number (suc d) (distance (projection x s) y))
  entered_one y within = ap (λ q. not q && is_some_number (first_into f y)) (was_seen y within) ∙ go b is
    where
      go : (c : Bool) → IsFront f c x s d → (not (c && is_within d (distance (projection x s) y)) && is_some_number (first_into f y)) ≡ (c && is_number (suc d) (distance (projection x s) y))
      go true front = ap (λ o. not (is_within d (distance (projection x s) y)) && is_some_number o) (first_there f x s d y ends front) ∙ sym (next_distance (projection x s) y d proper below)
      go false front = ap is_some_number (first_nowhere f x s d y front)

  pub next_layer_is : entered_below f (seen_of b (projection x s) d) (length s.states) ≡ layer_of b (projection x s) (suc d)
  next_layer_is =
      map_numbers (is_entered f seen) (λ y. b && is_number (suc d) (distance (projection x s) y)) 0 (length s.states) (λ y from within. entered_one y (omega (arith, within)))

  seen_one : (y : ℕ) → y < length s.states → (get_or seen y false || is_some_number (first_into f y)) ≡ (b && is_within (suc d) (distance (projection x s) y))
  seen_one y within = ap (λ q. q || is_some_number (first_into f y)) (was_seen y within) ∙ go b is
    where
      go : (c : Bool) → IsFront f c x s d → ((c && is_within d (distance (projection x s) y)) || is_some_number (first_into f y)) ≡ (c && is_within (suc d) (distance (projection x s) y))
      go true front = ap (λ o. is_within d (distance (projection x s) y) || is_some_number o) (first_there f x s d y ends front) ∙ sym (within_next (projection x s) y d proper below)
      go false front = ap is_some_number (first_nowhere f x s d y front)

  pub next_seen_is : seen_below f (seen_of b (projection x s) d) (length s.states) ≡ seen_of b (projection x s) (suc d)
  next_seen_is =
      let long = length-map (numbers_from 0 (length s.states)) (λ y. b && is_within (suc d) (distance (projection x s) y)) ∙ length_numbers 0 (length s.states) in
      ext_get_or false (seen_below f seen (length s.states)) (seen_of b (projection x s) (suc d))
      (seen_length f seen (length s.states) ∙ seen_long ∙ sym long)
      (λ y within.
      let inside : y < length s.states = omega (arith, within, seen_length f seen (length s.states), seen_long) in
      seen_at f seen (length s.states) y inside (omega (arith, seen_long)) ∙ seen_one y inside
      ∙ sym (at_number (λ z. b && is_within (suc d) (distance (projection x s) z)) (length s.states) y inside))

  parent_one : (t y : ℕ) → y < length s.states → ((b && goes_back (projection x s) d t y) || (not (get_or seen y false) && is_number t (first_into f y))) ≡ (b && goes_back (projection x s) (suc d) t y)
  parent_one t y within = ap (λ q. (b && goes_back (projection x s) d t y) || (not q && is_number t (first_into f y))) (was_seen y within) ∙ go b is
    where
      go : (c : Bool) → IsFront f c x s d
          → ((c && goes_back (projection x s) d t y) || (not (c && is_within d (distance (projection x s) y)) && is_number t (first_into f y))) ≡ (c && goes_back (projection x s) (suc d) t y)
      go true front =
          ap (λ o. goes_back (projection x s) d t y || (not (is_within d (distance (projection x s) y)) && is_number t o)) (first_there f x s d y ends front)
          ∙ sym (back_next (projection x s) t y d proper below)
      go false front = ap (is_number t) (first_nowhere f x s d y front)

  parents_long : (k : ℕ) → length (parents_of b (projection x s) s.transitions k) ≡ length s.transitions
  parents_long k = length-map (numbered s.transitions) (λ t. b && goes_back (projection x s) k t.0 t.1.target) ∙ length-enumerate_from 0 s.transitions

  parent_at : (k t : ℕ) (u : Transition) → t < length s.transitions → get_or (parents_of b (projection x s) s.transitions k) t false ≡ (b && goes_back (projection x s) k t (get_or s.transitions t u).target)
  parent_at k t u within =
      let long = length-enumerate_from 0 s.transitions in
      let first : 0 + t ≡ t = omega arith in
      get_or-map (λ v. b && goes_back (projection x s) k v.0 v.1.target) (numbered s.transitions) t (0, u) false (omega (arith, within, long))
      ∙ ap (λ v. b && goes_back (projection x s) k v.0 v.1.target) (get_or-enumerate_from 0 s.transitions t (0, u) within)
      ∙ ap (λ n. b && goes_back (projection x s) k n (get_or s.transitions t u).target) first

  pub next_parents_are : parents_below f (seen_of b (projection x s) d) (parents_of b (projection x s) s.transitions d) (length s.states) ≡ parents_of b (projection x s) s.transitions (suc d)
  next_parents_are =
      let before = parents_of b (projection x s) s.transitions d in
      let same = parents_length f seen before (length s.states) in
      ext_get_or false (parents_below f seen before (length s.states)) (parents_of b (projection x s) s.transitions (suc d))
      (same ∙ parents_long d ∙ sym (parents_long (suc d)))
      (λ t within.
      let inside : t < length s.transitions = omega (arith, within, same, parents_long d) in
      let u = there_is s.transitions t inside in
      let y = (get_or s.transitions t u).target in
      let target : get_or f.targets t 0 ≡ y = ap (λ l. get_or l t 0) is.targets ∙ get_or-map (λ v. v.target) s.transitions t u 0 inside in
      let state : y < length s.states = ends.targets t u inside in
      parent_after f seen before (length s.states) t y target state (omega (arith, inside, parents_long d))
      ∙ ap (λ q. q || (not (get_or seen y false) && is_number t (first_into f y))) (parent_at d t u inside)
      ∙ parent_one t y state ∙ sym (parent_at (suc d) t u inside))
    where
      there_is : (ts : List Transition) (t : ℕ) → t < length ts → Transition
      there_is [] t below = absurd (omega (arith, below))
      there_is (v ∷ ts) t below = v
