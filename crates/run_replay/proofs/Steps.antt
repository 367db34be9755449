-- One step of a replay.
use Rattle.std.proofs.Common.{◌≡◌, ◌<◌, ◌+◌, sym, ap, ◌∙◌, ℕ, suc, Bool, true, false, cond, List, ◌∷◌, map, length, drop, get_or, Option, Some, None, add-one, drop-cons, arith}
use Rattle.std.specs.Prelude.{◌==◌, ◌&&◌, not, option_map}
use Rattle.std.specs.List.{slice_get, enumerate_from, list_any}
use Rattle.std.proofs.lemmas.Bool.{eq-eqb}
use Rattle.std.proofs.lemmas.Bool.Decides.{nat_tests}
use Rattle.std.proofs.lemmas.Option.{slice_get-map, slice_get-get_or}
use Rattle.meaning.specs.Counts.{capped}
use Rattle.meaning.specs.Expressions.{truth}
use Rattle.meaning.specs.Models.{State, System, Transition}
use Rattle.meaning.specs.Replay.{NotJoined, NotPresent, taken, end_of_step, or_on, steps_replayed}
use Rattle.annotated_model.specs.declared.data.Transition.{Transition as Given}
use Rattle.annotated_model.specs.declared.data.State.{State as GivenState}
use Rattle.annotated_model.specs.View.{state_view, transition_view}
use Rattle.annotated_model.proofs.ViewedItems.{any_at}

-- the transition that is taken
pub taken_item : (ts all : List Given) (t n : ℕ) (d : Given) → ts ≡ all → t ≡ n → n < length all → d ≡ get_or ts t d → slice_get (map transition_view all) n ≡ Some (transition_view d)
taken_item ts all t n d are same below is =
    let known : d ≡ get_or all n d = is ∙ ap (λ xs. get_or xs t d) are ∙ ap (λ k. get_or all k d) same in
    slice_get-map transition_view all n ∙ ap (λ o. option_map transition_view o) (slice_get-get_or all n d below) ∙ ap (λ y. Some (transition_view y)) (sym known)

step_on : (s : System) (w : List Bool) (i x : ℕ) (ts : List ℕ) (d : Transition) (o : Option Transition) → o ≡ Some d
    → or_on (taken w i x o) (steps_replayed s w (suc i) (end_of_step x o) ts) ≡ or_on (taken w i x (Some d)) (steps_replayed s w (i + 1) d.target ts)
step_on s w i x ts d o e =
    ap (λ o. or_on (taken w i x o) (steps_replayed s w (suc i) (end_of_step x o) ts)) e
    ∙ ap (λ k. or_on (taken w i x (Some d)) (steps_replayed s w k d.target ts)) (omega arith)

pub one_step : (s : System) (w : List Bool) (i x : ℕ) (ts : List ℕ) (d : Transition) → i < length ts → slice_get s.transitions (get_or ts i 0) ≡ Some d
    → steps_replayed s w i x (drop i ts) ≡ or_on (taken w i x (Some d)) (steps_replayed s w (i + 1) d.target (drop (i + 1) ts))
one_step s w i x ts d below at =
    let split : drop i ts ≡ get_or ts i 0 ∷ drop (i + 1) ts = rw (add-one, drop-cons ts i 0) in
    ap (steps_replayed s w i x) split ∙ step_on s w i x (drop (i + 1) ts) d (slice_get s.transitions (get_or ts i 0)) at

pub not_joined : (w : List Bool) (i x : ℕ) (d : Transition) → (d.source ≡ x → ⊥) → taken w i x (Some d) ≡ Some (NotJoined (capped i))
not_joined w i x d differ =
    let e : (d.source == x) ≡ false = grind (arith, nat_tests) in
    ap (λ b. cond (not b) (Some (NotJoined (capped i))) (cond (truth d.presence w) None (Some (NotPresent (capped i))))) e

pub not_present : (w : List Bool) (i x : ℕ) (d : Transition) → d.source ≡ x → truth d.presence w ≡ false → taken w i x (Some d) ≡ Some (NotPresent (capped i))
not_present w i x d same absent =
    ap (λ b. cond (not b) (Some (NotJoined (capped i))) (cond (truth d.presence w) None (Some (NotPresent (capped i))))) (eq-eqb d.source x same)
    ∙ ap (λ b. cond b None (Some (NotPresent (capped i)))) absent

pub goes_on : (w : List Bool) (i x : ℕ) (d : Transition) → d.source ≡ x → truth d.presence w ≡ true → taken w i x (Some d) ≡ None
goes_on w i x d same present =
    ap (λ b. cond (not b) (Some (NotJoined (capped i))) (cond (truth d.presence w) None (Some (NotPresent (capped i))))) (eq-eqb d.source x same)
    ∙ ap (λ b. cond b None (Some (NotPresent (capped i)))) present

-- ---- the state that it starts from

-- the state at a place is initial where it is marked so
pub marked_initial : (xs all : List GivenState) (t n : ℕ) (x : GivenState) → xs ≡ all → t ≡ n → n < length all → x ≡ get_or xs t x
    → list_any (λ y. (y.0 == n) && y.1.initial) (enumerate_from 0 (map state_view all)) ≡ x.initial
marked_initial xs all t n x are same below is =
    let known : x ≡ get_or all n x = is ∙ ap (λ zs. get_or zs t x) are ∙ ap (λ k. get_or all k x) same in
    let at = slice_get-map state_view all n ∙ ap (λ o. option_map state_view o) (slice_get-get_or all n x below) ∙ ap (λ y. Some (state_view y)) (sym known) in
    let zeroth : n ≡ 0 + n = omega arith in
    ap (λ j. list_any (λ y. (y.0 == j) && y.1.initial) (enumerate_from 0 (map state_view all))) zeroth ∙ any_at (λ (y : State). y.initial) (map state_view all) 0 n (state_view x) at
