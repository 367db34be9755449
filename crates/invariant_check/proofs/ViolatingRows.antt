-- One condition for each state, which holds where the state violates.
use Rattle.std.proofs.Common.{◌≡◌, ◌∙◌, sym, ap, ℕ, ◌<◌, ◌≤◌, ◌+◌, List, [], map, length, get_or, set, take, Bool, true, false, replicate, arith}
use Rattle.std.specs.Prelude.{◌&&◌, not}
use Rattle.std.proofs.lemmas.List.{length-map, take_all}
use Rattle.std.proofs.lemmas.Simd.{map-map}
use Rattle.meaning.specs.Expressions.{Expression, truth}
use Rattle.meaning.specs.Texts.{numbers_from}
use Rattle.meaning.specs.Models as meaning
use Rattle.meaning.specs.Models.{Model, projection}
use Rattle.meaning.specs.Layers.{is_system_there, steps_there}
use Rattle.meaning.specs.Systems.{labels_true, violates, Never, NoDeadlock}
use Rattle.annotated_model.specs.View.{state_view, transition_view, system_view}
use Rattle.annotated_model.specs.declared.data.State.{State}
use Rattle.annotated_model.specs.declared.data.System.{System}
use Rattle.annotated_model.specs.declared.data.Transition.{Transition}
use Rattle.worlds.specs.Algebra.{Algebra, Kept, HoldsWhere}
use Rattle.worlds.specs.Rows.{AllLive, RowWhere, row_at}
use Rattle.worlds.proofs.Kept.{holds_as, world_before}
use Rattle.worlds.proofs.Rows.{row_set, row_is, row_length, at_row, live_at, holds_at_place}
use Rattle.invariant_check.specs.Searching.{Violating}
use Rattle.invariant_check.proofs.LeftStates.{is_left, tests_by_number, all_alike, unleft_more, left_is, numbers_length, map_same_numbers}
use Rattle.invariant_check.proofs.FirstViolations.{holds_at_numbers}
use Rattle.invariant_check.proofs.PlainChecks.{place_holds}

module _ {C : Type 0} {a : Algebra C} where
  -- conditions for the labels of each state
  pub satisfied_is : (m : Model) (system : System) (e : Expression) (cs : List C) (labels n : ℕ) → labels ≡ length m.labels → length system.states ≤ n → length cs ≡ length system.states
      → RowWhere a cs (λ x. map (λ s. truth e (labels_true labels (state_view s))) (take n system.states))
      → Violating a m (system_view system) (Never e) cs
  satisfied_is m system e cs labels n same all size rows = record {
    live = rows.live;
    size = size ∙ sym (length-map system.states state_view);
    holds = λ x w there.
        rows.holds x w
        ∙ ap (map test) (take_all n system.states all)
        ∙ ap (λ k. map (λ (s : State). truth e (labels_true k (state_view s))) system.states) same
        ∙ sym (map-map (λ (s : meaning.State). truth e (labels_true (length m.labels) s)) state_view system.states)
        ∙ tests_by_number (λ (s : meaning.State). truth e (labels_true (length m.labels) s)) (map state_view system.states);
  }
    where
      test : State → Bool
      test s = truth e (labels_true labels (state_view s))

  -- at first nothing leaves a state
  pub unleft_first : (cs : List C) (n k : ℕ) (steps : List Bool → List Bool) → k ≡ n → RowWhere a cs (λ x. replicate k true) → RowWhere a cs (λ x. map (λ i. not (is_left [] (steps x) i)) (numbers_from 0 n))
  unleft_first cs n k steps same rows = row_is (λ x. replicate k true) (λ x. map (λ i. not (is_left [] (steps x) i)) (numbers_from 0 n))
      (λ x. ap (λ j. replicate j true) same ∙ all_alike true 0 n) rows

-- after one transition more
pub unleft_next : {C : Type 0} {a b c : Algebra C} (steps cs : List C) (ys : List ℕ) (k n from : ℕ) (stuck step new : C) → Kept a b → Kept b c → AllLive a steps
    → k < length ys → k < length steps → length cs ≡ n → from < n → get_or ys k 0 ≡ from → stuck ≡ get_or cs from stuck → step ≡ get_or steps k step
    → RowWhere b cs (λ x. map (λ i. not (is_left (take k ys) (row_at a steps x) i)) (numbers_from 0 n))
    → HoldsWhere c new (λ x. b.holds stuck x && not (b.holds step x))
    → RowWhere c (set cs from new) (λ x. map (λ i. not (is_left (take (k + 1) ys) (row_at a steps x) i)) (numbers_from 0 n))
unleft_next {a = a} {b = b} steps cs ys k n from stuck step new ab bc live in_ys in_steps size below source is_stuck is_step rows made =
    row_is _ _ (λ x. (let long = row_length a steps x in
    unleft_more ys (row_at a steps x) k n from (get_or (before x) from false && not (get_or (row_at a steps x) k false)) in_ys (omega (arith, long, in_steps)) below source
    (ap (λ p. p && not (get_or (row_at a steps x) k false)) (at_number x))))
    (row_set from new bc rows
    (holds_as _ (λ x. get_or (before x) from false && not (get_or (row_at a steps x) k false))
    (λ x w. (let wb = world_before x bc w in
    ap (λ p. p && not (b.holds step x)) ((holds_at_place from stuck (omega (arith, size, below)) is_stuck rows).holds x wb)
    ∙ ap (λ p. get_or (before x) from false && not p) (ab.holds step (live_at a steps k step live in_steps is_step) x ∙ at_row a steps x k step in_steps is_step)))
    made))
  where
    before : List Bool → List Bool
    before x = map (λ i. not (is_left (take k ys) (row_at a steps x) i)) (numbers_from 0 n)

    at_number : (x : List Bool) → get_or (before x) from false ≡ not (is_left (take k ys) (row_at a steps x) from)
    at_number x =
        let long = numbers_length (λ i. not (is_left (take k ys) (row_at a steps x) i)) 0 n in
        let first : 0 + from ≡ from = omega arith in
        sym (place_holds (before x) from false (omega (arith, long, below)))
        ∙ holds_at_numbers (λ i. not (is_left (take k ys) (row_at a steps x) i)) 0 n from below
        ∙ ap (λ i. not (is_left (take k ys) (row_at a steps x) i)) first

-- after all transitions
pub stuck_is : {C : Type 0} {a b : Algebra C} (m : Model) (system : System) (steps cs : List C) (k : ℕ) → Kept a b → length system.transitions ≤ k → length cs ≡ length system.states
    → RowWhere a steps (steps_there m (system_view system))
    → RowWhere b cs (λ x. map (λ i. not (is_left (take k (map (λ (t : Transition). t.from) system.transitions)) (row_at a steps x) i)) (numbers_from 0 (length system.states)))
    → Violating b m (system_view system) NoDeadlock cs
stuck_is {a = a} m system steps cs k kept all size present rows = record {
  live = rows.live;
  size = size ∙ sym states;
  holds = λ x w there. rows.holds x w ∙ ap (λ n. map (test x) (numbers_from 0 n)) (sym states) ∙ map_same_numbers (test x) (λ i. violates (length m.labels) (projection x s) NoDeadlock i) (same x (world_before x kept w) there) 0 (length s.states);
}
  where
    s : meaning.System
    s = system_view system

    states : length s.states ≡ length system.states
    states = length-map system.states state_view

    sources : List ℕ
    sources = map (λ (t : Transition). t.from) system.transitions

    test : List Bool → ℕ → Bool
    test x i = not (is_left (take k sources) (row_at a steps x) i)

    same : (x : List Bool) → a.is_world x ≡ true → is_system_there m s x ≡ true → (i : ℕ) → test x i ≡ violates (length m.labels) (projection x s) NoDeadlock i
    same x w there i =
        let long = length-map system.transitions (λ (t : Transition). t.from) in
        ap (λ ys. not (is_left ys (row_at a steps x) i)) (take_all k sources (omega (arith, long, all)))
        ∙ ap (λ bs. not (is_left sources bs i)) (present.holds x w ∙ ap (λ b. map (λ (t : meaning.Transition). b && truth t.presence x) s.transitions) there)
        ∙ ap (λ ys. not (is_left ys (map (λ (t : meaning.Transition). truth t.presence x) s.transitions) i)) (sym (map-map (λ (t : meaning.Transition). t.source) transition_view system.transitions))
        ∙ ap not (left_is (λ (t : meaning.Transition). t.source) (λ (t : meaning.Transition). truth t.presence x) 0 i s.transitions)
