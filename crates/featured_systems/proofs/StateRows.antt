-- Rows of conditions while a state is entered.
use Rattle.std.proofs.Common.{◌≡◌, ◌∙◌, sym, ap, subst, ℕ, ◌<◌, List, [], ◌∷◌, ◌++◌, length, get_or, set, Bool, false, arith}
use Rattle.std.specs.Prelude.{◌&&◌, ◌||◌, not, find}
use Rattle.std.proofs.lemmas.List.{get_or-map}
use Rattle.meaning.specs.Systems.{is_some_number}
use Rattle.annotated_model.specs.declared.data.Transition.{Transition}
use Rattle.worlds.specs.Algebra.{Algebra, Kept, HoldsWhere}
use Rattle.worlds.specs.Rows.{RowWhere, row_at}
use Rattle.worlds.proofs.Kept.{kept_then, holds_as, holds_later, world_before}
use Rattle.worlds.proofs.Rows.{at_row, live_at, holds_at_place, row_set, row_is}
use Rattle.featured_systems.specs.Rounds.{state_at, states_at, comes, marked, front_at, Fronts}
use Rattle.featured_systems.proofs.RoundSteps.{gains, seen_more, entered_more, parents_more}

-- the state at an end of a transition by its number
pub end_is : (end : Bool) (ts : List Transition) (t : ℕ) (d : Transition) → t < length ts → d ≡ get_or ts t d → get_or (states_at end ts) t 0 ≡ state_at end d
end_is end ts t d below is = get_or-map (state_at end) ts t d 0 below ∙ ap (state_at end) (sym is)

-- the conditions of a transition's source and of its step say whether it leads on
pub came : {C : Type 0} {a b : Algebra C} (ts : List Transition) (steps last : List C) (t i : ℕ) (d : Transition) (source step : C) (x : List Bool)
    → Kept a b → Fronts a ts steps last → t < length ts → d ≡ get_or ts t d → i ≡ d.from → source ≡ get_or last i source → step ≡ get_or steps t step
    → (b.holds source x && b.holds step x) ≡ comes (front_at a ts steps last x) t
came {a} {b} ts steps last t i d source step x kept fronts below is at source_is step_is =
    let within : d.from < length last = subst (λ (k : Transition). k.from < length last) (sym is) (fronts.sources t d below) in
    let first : i < length last = omega (arith, at, within) in
    let second : t < length steps = omega (arith, below, fronts.one_for_each) in
    let left = kept.holds source (live_at a last i source fronts.last_live first source_is) x ∙ at_row a last x i source first source_is
    ∙ ap (λ k. get_or (row_at a last x) k false) (at ∙ sym (end_is false ts t d below is)) in
    let right = kept.holds step (live_at a steps t step fronts.steps_live second step_is) x ∙ at_row a steps x t step second step_is in
    ap (λ p. p && b.holds step x) left ∙ ap (λ p. get_or (row_at a last x) (get_or (states_at false ts) t 0) false && p) right

-- where an older condition is joined with a new one
pub joined : {C : Type 0} {a b c : Algebra C} {old gained new : C} (f g : List Bool → Bool) → Kept a b → Kept b c → HoldsWhere a old f → HoldsWhere b gained g
    → HoldsWhere c new (λ x. b.holds old x || b.holds gained x) → HoldsWhere c new (λ x. f x || g x)
joined {a} {b} {c} {old} {gained} {new} f g ab bc before more made =
    holds_as (λ x. b.holds old x || b.holds gained x) (λ x. f x || g x)
    (λ x w. let wb = world_before x bc w in
    ap (λ p. p || b.holds gained x) ((holds_later ab before).holds x wb) ∙ ap (λ p. f x || p) (more.holds x wb)) made

-- what one more transition gains
pub gained_is : {C : Type 0} {b c : Algebra C} (source step seen gained : C) (test : List Bool → ℕ → Bool) (before : List Bool → Bool) (ts : List ℕ) (t : ℕ) → Kept b c
    → ((x : List Bool) → (b.holds source x && b.holds step x) ≡ test x t)
    → HoldsWhere b seen (λ x. before x || is_some_number (find (test x) ts))
    → HoldsWhere c gained (λ x. (b.holds source x && b.holds step x) && not (b.holds seen x))
    → HoldsWhere c gained (λ x. gains (test x) (before x) ts t)
gained_is {b = b} source step seen gained test before ts t kept leads so_far made =
    holds_as (λ x. (b.holds source x && b.holds step x) && not (b.holds seen x)) (λ x. gains (test x) (before x) ts t)
    (λ x w. ap (λ p. p && not (b.holds seen x)) (leads x) ∙ ap (λ p. test x t && not p) (so_far.holds x (world_before x kept w))) made

pub seen_is : {C : Type 0} {a : Algebra C} {seen : C} (test : List Bool → ℕ → Bool) (before : List Bool → Bool) (ts more : List ℕ) (t : ℕ) → more ≡ ts ++ t ∷ []
    → HoldsWhere a seen (λ x. (before x || is_some_number (find (test x) ts)) || gains (test x) (before x) ts t)
    → HoldsWhere a seen (λ x. before x || is_some_number (find (test x) more))
seen_is test before ts more t is made =
    holds_as _ _ (λ x w. seen_more (test x) (before x) ts t ∙ ap (λ us. before x || is_some_number (find (test x) us)) (sym is)) made

pub entered_is : {C : Type 0} {a : Algebra C} {entered : C} (test : List Bool → ℕ → Bool) (before : List Bool → Bool) (ts more : List ℕ) (t : ℕ) → more ≡ ts ++ t ∷ []
    → HoldsWhere a entered (λ x. (not (before x) && is_some_number (find (test x) ts)) || gains (test x) (before x) ts t)
    → HoldsWhere a entered (λ x. not (before x) && is_some_number (find (test x) more))
entered_is test before ts more t is made =
    holds_as _ _ (λ x w. entered_more (test x) (before x) ts t ∙ ap (λ us. not (before x) && is_some_number (find (test x) us)) (sym is)) made

pub parents_are : {C : Type 0} {a b c d : Algebra C} {parents : List C} {old gained new : C} (test : List Bool → ℕ → Bool) (before : List Bool → Bool) (row : List Bool → List Bool) (ts more : List ℕ) (t i : ℕ)
    → more ≡ ts ++ t ∷ [] → i ≡ t → Kept a b → Kept b c → Kept c d → i < length parents → old ≡ get_or parents i old
    → RowWhere a parents (λ x. marked (before x) (find (test x) ts) (row x))
    → HoldsWhere b gained (λ x. gains (test x) (before x) ts t)
    → HoldsWhere d new (λ x. c.holds old x || c.holds gained x)
    → RowWhere d (set parents i new) (λ x. marked (before x) (find (test x) more) (row x))
parents_are {a} {b} {c} {d} {parents} {old} {gained} {new} test before row ts more t i longer same ab bc cd below is rows gain made =
    let here = holds_at_place i old below is rows in
    let joins = joined (λ x. get_or (marked (before x) (find (test x) ts) (row x)) i false) (λ x. gains (test x) (before x) ts t) (kept_then ab bc) cd here (holds_later bc gain) made in
    row_is _ _
    (λ x. ap (λ k. set (marked (before x) (find (test x) ts) (row x)) k (get_or (marked (before x) (find (test x) ts) (row x)) k false || gains (test x) (before x) ts t)) same
    ∙ parents_more (test x) (before x) ts t (row x) ∙ ap (λ us. marked (before x) (find (test x) us) (row x)) (sym longer))
    (row_set i new (kept_then ab (kept_then bc cd)) rows joins)
