-- Rows of conditions from one layer to the next.
use Rattle.std.proofs.Common.{◌≡◌, ◌∙◌, sym, ap, ℕ, suc, ◌+◌, List, [], ◌∷◌, ◌++◌, map, get_or, set, Bool, true, false, arith}
use Rattle.std.specs.Prelude.{◌&&◌, ◌||◌, not, None}
use Rattle.std.proofs.lemmas.List.{length-map, map-append}
use Rattle.meaning.specs.Texts.{numbers_from}
use Rattle.meaning.specs.Systems.{is_some_number}
use Rattle.meaning.proofs.RunDistances.{numbers_push}
use Rattle.annotated_model.specs.declared.data.Transition.{Transition}
use Rattle.worlds.specs.Algebra.{Algebra, Kept, HoldsWhere}
use Rattle.worlds.specs.Rows.{RowWhere, row_at}
use Rattle.worlds.proofs.Kept.{holds_as, world_before}
use Rattle.worlds.proofs.Rows.{row_kept, row_push, row_is, row_is_at}
use Rattle.featured_systems.specs.Rounds.{Front, state_at, states_at, first_into, marked, is_entered, entered_below, seen_below, parents_below, front_at, Fronts, LeadsOnlyTo}
use Rattle.featured_systems.proofs.RoundSteps.{seen_above, none_into}

abbrev with_rows : List Transition → List Bool → List Bool → Front
with_rows ts steps last = record { sources = states_at false ts; targets = states_at true ts; steps = steps; last = last }

pub same_front : {C : Type 0} {a b : Algebra C} (ts : List Transition) (steps last : List C) (x : List Bool) → Kept a b → Fronts a ts steps last → front_at b ts steps last x ≡ front_at a ts steps last x
same_front {a} {b} ts steps last x kept fronts =
    ap (λ r. with_rows ts r (row_at b last x)) (row_kept steps x kept fronts.steps_live) ∙ ap (λ r. with_rows ts (row_at a steps x) r) (row_kept last x kept fronts.last_live)

-- nothing leads from the last layer to a state that isn't touched
pub nothing_comes : {C : Type 0} {a b : Algebra C} (ts : List Transition) (steps last : List C) (touched : List Bool) (y : ℕ) (x : List Bool) → Kept a b → Fronts a ts steps last → LeadsOnlyTo a ts last touched
    → get_or touched y false ≡ false → b.is_world x ≡ true → first_into (front_at b ts steps last x) y ≡ None
nothing_comes {a} {b} ts steps last touched y x kept fronts leads away w =
    ap (λ f. first_into f y) (same_front ts steps last x kept fronts)
    ∙ none_into (front_at a ts steps last x) y
    (λ t below is. ap (λ p. p && get_or (row_at a steps x) t false)
    (leads t (omega (arith, below, length-map ts (state_at true))) (ap (λ k. get_or touched k false) is ∙ away) x (world_before x kept w)))

entered_push : (f : Front) (seen : List Bool) (y : ℕ) → entered_below f seen (y + 1) ≡ entered_below f seen y ++ is_entered f seen y ∷ []
entered_push f seen y =
    let same : y + 1 ≡ suc y = omega arith in
    let first : 0 + y ≡ y = omega arith in
    ap (entered_below f seen) same ∙ ap (map (is_entered f seen)) (numbers_push 0 y)
    ∙ map-append (is_entered f seen) (numbers_from 0 y) ((0 + y) ∷ []) ∙ ap (λ n. entered_below f seen y ++ is_entered f seen n ∷ []) first

module _ {C : Type 0} {a b c : Algebra C} (ts : List Transition) (steps last before reached : List C) (y : ℕ) (ab : Kept a b) (bc : Kept b c) (fronts : Fronts a ts steps last)
    (rows : RowWhere b reached (λ x. seen_below (front_at a ts steps last x) (row_at a before x) y)) where
  abbrev front : List Bool → Front
  front x = front_at a ts steps last x

  abbrev seen : List Bool → List Bool
  seen x = row_at a before x

  -- the state isn't touched before its turn
  turn : (x : List Bool) → c.is_world x ≡ true → get_or (row_at b reached x) y false ≡ get_or (seen x) y false
  turn x w = ap (λ r. get_or r y false) (rows.holds x (world_before x bc w)) ∙ seen_above (front x) (seen x) y y (omega arith)

  pub one_more_entered : (next : List C) (entered : C) → RowWhere b next (λ x. entered_below (front_at a ts steps last x) (row_at a before x) y)
      → HoldsWhere c entered (λ x. is_entered (front_at b ts steps last x) (row_at b reached x) y)
      → RowWhere c (next ++ entered ∷ []) (λ x. entered_below (front_at a ts steps last x) (row_at a before x) (y + 1))
  one_more_entered next entered so_far made =
      row_is (λ x. entered_below (front x) (seen x) y ++ is_entered (front x) (seen x) y ∷ []) _ (λ x. sym (entered_push (front x) (seen x) y))
      (row_push entered bc so_far (holds_as (λ x. is_entered (front_at b ts steps last x) (row_at b reached x) y) (λ x. is_entered (front x) (seen x) y)
      (λ x w. ap (λ f. is_entered f (row_at b reached x) y) (same_front ts steps last x ab fronts) ∙ ap (λ p. not p && is_some_number (first_into (front x) y)) (turn x w)) made))

  pub one_more_seen : (after : List C)
      → RowWhere c after (λ x. set (row_at b reached x) y (get_or (row_at b reached x) y false || is_some_number (first_into (front_at b ts steps last x) y)))
      → RowWhere c after (λ x. seen_below (front_at a ts steps last x) (row_at a before x) (y + 1))
  one_more_seen after made =
      row_is_at _ (λ x. seen_below (front x) (seen x) (y + 1))
      (λ x w. ap (λ f. set (row_at b reached x) y (get_or (row_at b reached x) y false || is_some_number (first_into f y))) (same_front ts steps last x ab fronts)
      ∙ ap (λ p. set (row_at b reached x) y (p || is_some_number (first_into (front x) y))) (turn x w)
      ∙ ap (λ r. set r y (get_or (seen x) y false || is_some_number (first_into (front x) y))) (rows.holds x (world_before x bc w))
      ∙ (let same : suc y ≡ y + 1 = omega arith in ap (seen_below (front x) (seen x)) same)) made

  pub one_more_parents : (parents0 parents after : List C) → RowWhere b parents (λ x. parents_below (front_at a ts steps last x) (row_at a before x) (row_at a parents0 x) y)
      → RowWhere c after (λ x. marked (get_or (row_at b reached x) y false) (first_into (front_at b ts steps last x) y) (row_at b parents x))
      → RowWhere c after (λ x. parents_below (front_at a ts steps last x) (row_at a before x) (row_at a parents0 x) (y + 1))
  one_more_parents parents0 parents after so_far made =
      row_is_at _ (λ x. parents_below (front x) (seen x) (row_at a parents0 x) (y + 1))
      (λ x w. ap (λ f. marked (get_or (row_at b reached x) y false) (first_into f y) (row_at b parents x)) (same_front ts steps last x ab fronts)
      ∙ ap (λ p. marked p (first_into (front x) y) (row_at b parents x)) (turn x w)
      ∙ ap (marked (get_or (seen x) y false) (first_into (front x) y)) (so_far.holds x (world_before x bc w))
      ∙ (let same : suc y ≡ y + 1 = omega arith in ap (parents_below (front x) (seen x) (row_at a parents0 x)) same)) made
