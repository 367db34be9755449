-- A system of a model by its number: what holds of it, what its conditions ask, and that it is explored.
use Rattle.std.proofs.Common.{◌≡◌, ◌∙◌, refl, sym, ap, subst, ℕ, zero, suc, ◌+◌, ◌*◌, ◌<◌, ◌≤◌, List, [], ◌∷◌, map, length, get_or, Bool, true, arith}
use Rattle.std.specs.Prelude.{◌&&◌, if◌then◌else◌, Some, option_map, unwrap_or}
use Rattle.std.specs.List.{All, slice_get, sum_by}
use Rattle.std.proofs.Math.Nat.{mul-le-mul}
use Rattle.std.proofs.lemmas.List.{length-map, get_or-map}
use Rattle.std.proofs.lemmas.List.Elements.{All-get_or}
use Rattle.std.proofs.lemmas.List.Sums.{sum_by-cons}
use Rattle.std.proofs.lemmas.Option.{slice_get-map, slice_get-get_or, slice_get_within, get_or_from_slice_get}
use Rattle.meaning.specs.Texts.{numbered, numbers_from}
use Rattle.meaning.specs.Expressions.{Expression, Top, Bottom, Name, Not, Both, Either, Implies, Same, truth, size_of, name_bound}
use Rattle.meaning.specs.Models as meaning
use Rattle.meaning.specs.Models.{Model, has_element, projection}
use Rattle.meaning.specs.Systems.{distance, is_reachable}
use Rattle.meaning.specs.Layers.{is_system_there, steps_there, reached_there, parents_there, states_by_distance}
use Rattle.meaning.specs.Tidy.{is_step_back}
use Rattle.meaning.specs.Bounds.{asks_of_exploring}
use Rattle.cond_text.specs.View.{expression}
use Rattle.annotated_model.specs.View.{state_view, transition_view, system_view}
use Rattle.annotated_model.specs.ModelFacts.{SystemFits, TransitionFits}
use Rattle.annotated_model.specs.declared.data.Transition.{Transition}
use Rattle.annotated_model.specs.declared.data.System.{System}
use Rattle.worlds.specs.Algebra.{Algebra}
use Rattle.worlds.specs.Rows.{RowWhere}
use Rattle.worlds.proofs.Rows.{row_is_at}
use Rattle.featured_systems.specs.Exploring.{IsExplored, IsLayer, Ascending, layers_at}
use Rattle.featured_systems.specs.Rounds.{HasExplored}
use Rattle.featured_systems.specs.declared.explored.Explored.{Explored}
use Rattle.featured_systems.proofs.RoundRows.{Fits}

-- ---- an item by its number

-- what holds of all items holds of this one
pub all_at : {X : Type 0} (P : X → Type 0) (xs : List X) (i : ℕ) (x : X) → All P xs → slice_get xs i ≡ Some x → P x
all_at P xs i x all at = subst P (get_or_from_slice_get xs i x x at) (All-get_or P xs i x (slice_get_within xs i x at) all)

-- an item of a list that is seen as another list
pub viewed_at : {X Y : Type 0} (v : X → Y) (xs : List X) (ys : List Y) (k i : ℕ) (x : X) → map v xs ≡ ys → k ≡ i → i < length ys → x ≡ get_or xs k x → slice_get ys i ≡ Some (v x)
viewed_at v xs ys k i x is same within item =
    let long : length xs ≡ length ys = sym (length-map xs v) ∙ ap length is in
    let below : i < length xs = omega (arith, long, within) in
    ap (λ zs. slice_get zs i) (sym is) ∙ slice_get-map v xs i ∙ ap (option_map v) (slice_get-get_or xs i x below)
    ∙ ap (λ j. Some (v (get_or xs j x))) (sym same) ∙ ap (λ y. Some (v y)) (sym item)

pub one_item : {X : Type 0} (xs : List X) (i : ℕ) (x y : X) → slice_get xs i ≡ Some x → slice_get xs i ≡ Some y → x ≡ y
one_item xs i x y at also = cc

-- ---- what holds of it

pub system_fits : (m : Model) (system : System) → SystemFits m (system_view system) → Fits system
system_fits m system fits k d below =
    let long = length-map system.states state_view in
    let t = get_or system.transitions k d in
    let ends : TransitionFits (system_view system) (transition_view t) =
    subst (TransitionFits (system_view system)) (get_or-map transition_view system.transitions k d (transition_view d) below)
    (fits.transitions k (transition_view d) (let many = length-map system.transitions transition_view in omega (arith, many, below))) in
    (omega (arith, ends.source, long), omega (arith, ends.target, long))

pub steps_named : (count : ℕ) (system : System) → All (λ t. name_bound t.presence ≤ count) (system_view system).transitions → All (λ t. name_bound (expression t.when) ≤ count) system.transitions
steps_named count system named k d below =
    subst (λ t. name_bound t.presence ≤ count) (get_or-map transition_view system.transitions k d (transition_view d) below)
    (named k (transition_view d) (let many = length-map system.transitions transition_view in omega (arith, many, below)))

-- ---- what it asks

size_positive : (e : Expression) → 1 ≤ size_of e
size_positive Top = omega arith
size_positive Bottom = omega arith
size_positive (Name n) = omega arith
size_positive (Not a) = omega arith
size_positive (Both a b) = omega arith
size_positive (Either a b) = omega arith
size_positive (Implies a b) = omega arith
size_positive (Same a b) = omega arith

steps_within : (ts : List Transition) → sum_by (λ t. 8 * size_of (expression t.when) + 1) ts ≤ 16 * sum_by (λ t. size_of t.presence) (map transition_view ts)
steps_within [] = omega arith
steps_within (t ∷ ts) =
    let first = sum_by-cons (λ (u : Transition). 8 * size_of (expression u.when) + 1) t ts in
    let other = sum_by-cons (λ (u : meaning.Transition). size_of u.presence) (transition_view t) (map transition_view ts) in
    omega (arith, first, other, size_positive (expression t.when), steps_within ts)

-- the condition of the element, those of the steps, and the rounds
pub exploring_asks : (m : Model) (system : System) (e : meaning.Element) → slice_get m.elements system.element ≡ Some e
    → (8 * size_of e.presence + sum_by (λ t. 8 * size_of (expression t.when) + 1) system.transitions) + 5 * (length system.states * length system.transitions) ≤ asks_of_exploring m (system_view system)
exploring_asks m system e at =
    let s = system_view system in
    let element : unwrap_or (option_map (λ x. size_of x.presence) (slice_get m.elements system.element)) 0 ≡ size_of e.presence = ap (λ o. unwrap_or (option_map (λ x. size_of x.presence) o) 0) at in
    let states = length-map system.states state_view in
    let transitions = length-map system.transitions transition_view in
    let left : length system.states ≤ length s.states + 1 = omega (arith, states) in
    let right : length system.transitions ≤ length s.states + length s.transitions + 1 = omega (arith, transitions) in
    omega (arith, element, steps_within system.transitions, mul-le-mul left right)

-- ---- that it is explored

pub element_in : (es : List meaning.Element) (x : List Bool) (e : ℕ) (y : meaning.Element) → slice_get es e ≡ Some y → has_element es x e ≡ truth y.presence x
element_in [] x e y at = absurd cc
element_in (z ∷ es) x zero y at = let same : z ≡ y = cc in ap (λ u. truth u.presence x) same
element_in (z ∷ es) x (suc e) y at = element_in es x e y at

pub explored_is : {C : Type 0} {a : Algebra C} (m : Model) (system : System) (there : List Bool → Bool) (e : Explored C) (reached parents steps : List C) (layers : List (ℕ × ℕ × C))
    → e.reached ≡ reached → e.parents ≡ parents → e.steps ≡ steps → e.layers ≡ layers
    → HasExplored a there (system_view system) reached parents layers
    → RowWhere a steps (λ x. map (λ t. there x && truth (expression t.when) x) system.transitions)
    → ((x : List Bool) → a.is_world x ≡ true → there x ≡ is_system_there m (system_view system) x)
    → length reached ≡ length system.states → length parents ≡ length system.transitions → length steps ≡ length system.transitions
    → IsExplored a m (system_view system) e
explored_is {a} m system there e reached parents steps layers is_reached is_parents is_steps is_layers has present here many over each =
    let s = system_view system in
    let states = length-map system.states state_view in
    let transitions = length-map system.transitions transition_view in
    record {
      one_for_each_state = ap length is_reached ∙ many ∙ sym states;
      one_for_each_transition = ap length is_parents ∙ over ∙ sym transitions;
      one_step_for_each = ap length is_steps ∙ each ∙ sym transitions;
      reached = subst (λ r. RowWhere a r (reached_there m s)) (sym is_reached)
          (row_is_at _ (reached_there m s) (λ x w. ap (λ b. map (λ y. b && is_reachable (projection x s) y) (numbers_from 0 (length s.states))) (here x w)) has.reached);
      parents = subst (λ r. RowWhere a r (parents_there m s)) (sym is_parents)
          (row_is_at _ (parents_there m s) (λ x w. ap (λ b. map (λ t. b && is_step_back (projection x s) t.0 t.1.target (distance (projection x s) t.1.target)) (numbered s.transitions)) (here x w)) has.parents);
      steps = subst (λ r. RowWhere a r (steps_there m s)) (sym is_steps)
          (row_is_at _ (steps_there m s) (λ x w. viewed_steps (there x) x system.transitions ∙ ap (λ b. map (λ t. b && truth t.presence x) s.transitions) (here x w)) present);
      layered = subst (All (IsLayer a)) (sym is_layers) has.layered;
      ascending = subst (λ l. Ascending (map {B = ℕ × ℕ} (λ k. (k.0, k.1)) l)) (sym is_layers) has.ascending;
      layers = λ x w. ap (λ l. layers_at a l x) is_layers ∙ has.layers x w ∙ ap (λ b. if b then states_by_distance (projection x s) else []) (here x w);
    }
  where
    viewed_steps : (b : Bool) (x : List Bool) (ts : List Transition) → map (λ t. b && truth (expression t.when) x) ts ≡ map (λ t. b && truth t.presence x) (map transition_view ts)
    viewed_steps b x [] = refl
    viewed_steps b x (t ∷ ts) = ap (λ l. (b && truth (expression t.when) x) ∷ l) (viewed_steps b x ts)
