-- Conditions of the first state that violates, after one layer more.
use Rattle.std.proofs.Common.{◌≡◌, ◌∙◌, refl, sym, ap, ℕ, ◌<◌, ◌+◌, List, [], length, get_or, map, set, take, Bool, true, false, replicate, arith}
use Rattle.std.specs.Prelude.{◌&&◌, ◌||◌, not, is_none}
use Rattle.meaning.specs.Texts.{numbers_from, holds_at}
use Rattle.meaning.specs.Systems.{is_number}
use Rattle.worlds.specs.Algebra.{Algebra, Kept, HoldsWhere}
use Rattle.worlds.specs.Rows.{AllLive, RowWhere, row_at}
use Rattle.worlds.proofs.Kept.{holds_as, world_before}
use Rattle.worlds.proofs.Rows.{row_set, row_is, row_length, at_row, live_at, holds_at_place}
use Rattle.invariant_check.specs.Searching.{first_met, is_open, firsts_at}
use Rattle.invariant_check.proofs.PlainChecks.{place_holds}
use Rattle.invariant_check.proofs.FirstViolations.{holds_at_numbers, or_else}
use Rattle.invariant_check.proofs.LeftStates.{numbers_length}
use Rattle.invariant_check.proofs.FirstMet.{number_if, first_more, left_more, firsts_more, firsts_none}

-- the layer holds and its state violates
abbrev pub is_met : {C : Type 0} → Algebra C → List C → List Bool → ℕ × ℕ × C → Bool
is_met a violating x l = a.holds l.2 x && holds_at (row_at a violating x) l.1

module _ {C : Type 0} {a : Algebra C} (under : C) (violating : List C) where
  pub open_first : a.live under → HoldsWhere a under (is_open a under violating [])
  open_first live = record { live = live; holds = λ x w. alike (a.holds under x) }
    where
      alike : (u : Bool) → u ≡ (u && true)
      alike true = refl
      alike false = refl

  pub targets_first : (cs : List C) → RowWhere a cs (λ _. replicate (length violating) false) → RowWhere a cs (firsts_at a under violating [])
  targets_first cs rows = row_is (λ _. replicate (length violating) false) (firsts_at a under violating []) (λ x. firsts_none (a.holds under x) (length violating)) rows

  module _ {b c : Algebra C} (layers : List (ℕ × ℕ × C)) (k : ℕ) (l : ℕ × ℕ × C) (state : ℕ) (violates : C)
      (ab : Kept a b) (bc : Kept b c) (live : AllLive a violating) (l_live : a.live l.2) (below : k < length layers) (is : l ≡ get_or layers k l)
      (same : state ≡ l.1) (within : state < length violating) (is_violates : violates ≡ get_or violating state violates) where
    more_met : (x : List Bool) → first_met a violating (take (k + 1) layers) x ≡ or_else (first_met a violating (take k layers) x) (number_if (is_met a violating x l) l.1)
    more_met x = first_more (λ (m : ℕ × ℕ × C). m.1) (is_met a violating x) layers k l below is

    met : (x : List Bool) → (b.holds l.2 x && b.holds violates x) ≡ is_met a violating x l
    met x =
        let long = row_length a violating x in
        ap (λ p. p && b.holds violates x) (ab.holds l.2 l_live x)
        ∙ ap (λ p. a.holds l.2 x && p) (ab.holds violates (live_at a violating state violates live within is_violates) x ∙ at_row a violating x state violates within is_violates
        ∙ sym (place_holds (row_at a violating x) state false (omega (arith, long, within))) ∙ ap (holds_at (row_at a violating x)) same)

    pub open_next : (left new : C) → HoldsWhere b left (is_open a under violating (take k layers)) → HoldsWhere c new (λ x. b.holds left x && not (b.holds l.2 x && b.holds violates x))
        → HoldsWhere c new (is_open a under violating (take (k + 1) layers))
    open_next left new before made =
        holds_as (λ x. b.holds left x && not (b.holds l.2 x && b.holds violates x)) (is_open a under violating (take (k + 1) layers))
        (λ x w. ap (λ p. p && not (b.holds l.2 x && b.holds violates x)) (before.holds x (world_before x bc w))
        ∙ ap (λ p. is_open a under violating (take k layers) x && not p) (met x)
        ∙ left_more (a.holds under x) (is_met a violating x l) (first_met a violating (take k layers) x) l.1
        ∙ ap (λ o. a.holds under x && is_none o) (sym (more_met x))) made

    pub targets_next : (targets : List C) (left target new : C) → length targets ≡ length violating → target ≡ get_or targets state target
        → HoldsWhere b left (is_open a under violating (take k layers)) → RowWhere b targets (firsts_at a under violating (take k layers))
        → HoldsWhere c new (λ x. b.holds target x || (b.holds left x && (b.holds l.2 x && b.holds violates x)))
        → RowWhere c (set targets state new) (firsts_at a under violating (take (k + 1) layers))
    targets_next targets left target new size is_target open_before rows made =
        row_is (λ x. set (before x) state (gained x)) (firsts_at a under violating (take (k + 1) layers))
        (λ x. ap (λ i. set (before x) i (gained x)) same
        ∙ firsts_more (a.holds under x) (is_met a violating x l) (first_met a violating (take k layers) x) l.1 (length violating) (gained x) (omega (arith, same, within)) (gain x)
        ∙ ap (λ o. map (λ i. a.holds under x && is_number i o) (numbers_from 0 (length violating))) (sym (more_met x)))
        (row_set state new bc rows
        (holds_as (λ x. b.holds target x || (b.holds left x && (b.holds l.2 x && b.holds violates x))) gained
        (λ x w. (let wb = world_before x bc w in
        ap (λ p. p || (b.holds left x && (b.holds l.2 x && b.holds violates x))) ((holds_at_place state target (omega (arith, size, within)) is_target rows).holds x wb)
        ∙ ap (λ p. get_or (before x) state false || (p && (b.holds l.2 x && b.holds violates x))) (open_before.holds x wb)
        ∙ ap (λ p. get_or (before x) state false || (is_open a under violating (take k layers) x && p)) (met x))) made))
      where
        before : List Bool → List Bool
        before x = firsts_at a under violating (take k layers) x

        gained : List Bool → Bool
        gained x = get_or (before x) state false || (is_open a under violating (take k layers) x && is_met a violating x l)

        gain : (x : List Bool) → gained x ≡ ((a.holds under x && is_number l.1 (first_met a violating (take k layers) x)) || (is_open a under violating (take k layers) x && is_met a violating x l))
        gain x =
            let test : ℕ → Bool = λ i. a.holds under x && is_number i (first_met a violating (take k layers) x) in
            let long = numbers_length test 0 (length violating) in
            let first : 0 + state ≡ l.1 = omega (arith, same) in
            ap (λ p. p || (is_open a under violating (take k layers) x && is_met a violating x l))
            (sym (place_holds (before x) state false (omega (arith, long, within))) ∙ holds_at_numbers test 0 (length violating) state within ∙ ap test first)
