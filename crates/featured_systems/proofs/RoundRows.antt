-- The rows of conditions over the rounds.
use Rattle.std.proofs.Common.{◌≡◌, ◌∙◌, refl, sym, ap, subst, ℕ, zero, suc, ◌+◌, ◌<◌, ◌≤◌, ◌⊎◌, inl, inr, List, [], ◌∷◌, ◌++◌, map, length, get_or, replicate, Bool, true, false, arith}
use Rattle.std.specs.Prelude.{◌&&◌, nat_le, Option, Some, None}
use Rattle.std.specs.List.{All}
use Rattle.std.proofs.lemmas.Bool.{false≢true, eqb-true}
use Rattle.std.proofs.lemmas.List.{length-map, get_or_past}
use Rattle.std.proofs.lemmas.List.Elements.{All-map, All-weaker}
use Rattle.meaning.specs.Texts.{holds_at}
use Rattle.meaning.specs.Expressions.{truth}
use Rattle.meaning.specs.Models.{PlainSystem, projection}
use Rattle.meaning.specs.Systems.{distance, is_number, ends_after, IsProperSystem}
use Rattle.meaning.proofs.RunDistances.{true_or_false, false_if_not, distance_is, last_step, all_within, all_within_before}
use Rattle.cond_text.specs.View.{expression}
use Rattle.annotated_model.specs.View.{state_view, transition_view, system_view}
use Rattle.annotated_model.specs.declared.data.State.{State}
use Rattle.annotated_model.specs.declared.data.Transition.{Transition}
use Rattle.annotated_model.specs.declared.data.System.{System}
use Rattle.worlds.specs.Algebra.{Algebra, Kept}
use Rattle.worlds.specs.Rows.{RowWhere, row_at}
use Rattle.worlds.proofs.Kept.{world_before}
use Rattle.worlds.proofs.Rows.{row_is, row_is_at}
use Rattle.featured_systems.specs.Exploring.{layers_at}
use Rattle.featured_systems.specs.Rounds.{states_at, entered_below, seen_below, parents_below, front_at, layer_of, seen_of, parents_of, layers_to, states_in, Listed, HasReached, HasExplored}
use Rattle.featured_systems.proofs.RoundsAtWorlds.{at_number}
use Rattle.featured_systems.proofs.RoundLaws.{IsFront, HasEnds, next_layer_is, next_seen_is, next_parents_are}
use Rattle.featured_systems.proofs.RoundEnds.{NoneFurther, holds_is, first_layer_is, first_seen_is, first_parents_are, layers_push, last_seen_is, last_parents_are, last_layers_are}
use Rattle.featured_systems.proofs.ListedLayers.{layers_later}

number_is : (d : ℕ) (o : Option ℕ) → is_number d o ≡ true → o ≡ Some d
number_is d None h = absurd (false≢true h)
number_is d (Some e) h = ap Some (eqb-true e d h)

-- ---- the system that the definitions see

sources_are : (ts : List Transition) → states_at false ts ≡ map (λ t. t.source) (map transition_view ts)
sources_are [] = refl
sources_are (t ∷ ts) = ap (λ l. t.from ∷ l) (sources_are ts)

targets_are : (ts : List Transition) → states_at true ts ≡ map (λ t. t.target) (map transition_view ts)
targets_are [] = refl
targets_are (t ∷ ts) = ap (λ l. t.to ∷ l) (targets_are ts)

steps_are : (b : Bool) (x : List Bool) (ts : List Transition) → map (λ t. b && truth (expression t.when) x) ts ≡ map (λ t. b && truth t.presence x) (map transition_view ts)
steps_are b x [] = refl
steps_are b x (t ∷ ts) = ap (λ l. (b && truth (expression t.when) x) ∷ l) (steps_are b x ts)

initial_are : (b : Bool) (ss : List State) → map (λ s. b && s.initial) ss ≡ map (λ s. b && s.initial) (map state_view ss)
initial_are b [] = refl
initial_are b (s ∷ ss) = ap (λ l. (b && s.initial) ∷ l) (initial_are b ss)

-- the ends of a system's transitions are its states
abbrev pub Fits : System → Type 0
Fits system = All (λ t. (t.from < length system.states) × (t.to < length system.states)) system.transitions

has_ends : (system : System) → Fits system → HasEnds (system_view system)
has_ends system fits =
    let n = length (system_view system).states in
    let long : n ≡ length system.states = length-map system.states state_view in
    record {
      sources = All-map (λ t. t.source < n) transition_view system.transitions
          (All-weaker (λ t. (t.from < length system.states) × (t.to < length system.states)) (λ t. t.from < n) (λ t h. omega (arith, long, h.0)) system.transitions fits);
      targets = All-map (λ t. t.target < n) transition_view system.transitions
          (All-weaker (λ t. (t.from < length system.states) × (t.to < length system.states)) (λ t. t.to < n) (λ t h. omega (arith, long, h.1)) system.transitions fits);
    }

module _ {C : Type 0} (there : List Bool → Bool) (system : System) where
  -- ---- at the start

  pub started : {a : Algebra C} (reached parents last : List C) (layers before : List (ℕ × ℕ × C)) → before ≡ []
      → RowWhere a reached (λ x. map (λ t. there x && t.initial) system.states)
      → RowWhere a last (λ x. map (λ t. there x && t.initial) system.states)
      → RowWhere a parents (λ x. replicate (length system.transitions) false)
      → length last ≡ length system.states
      → Listed a layers (0 + 1) 0
      → ((x : List Bool) → a.is_world x ≡ true → layers_at a layers x ≡ layers_at a before x ++ states_in 0 (row_at a last x) (length last))
      → HasReached a there (system_view system) 0 reached parents layers
  started {a} reached parents last layers before none reached_row last_row parents_row long listed listed_at = record {
    reached = row_is _ (λ x. seen_of (there x) (projection x (system_view system)) 0) (λ x. initial_are (there x) system.states ∙ first_seen_is (there x) (projection x (system_view system))) reached_row;
    parents = row_is _ (λ x. parents_of (there x) (projection x (system_view system)) (system_view system).transitions 0)
        (λ x. ap (λ n. replicate n false) (sym (length-map system.transitions transition_view)) ∙ first_parents_are (there x) (projection x (system_view system)) (system_view system).transitions) parents_row;
    listed = listed;
    layers = λ x w.
        listed_at x w ∙ ap (λ l. layers_at a l x ++ states_in 0 (row_at a last x) (length last)) none
        ∙ ap (λ n. states_in 0 (row_at a last x) n) (long ∙ sym (length-map system.states state_view))
        ∙ ap (λ r. states_in 0 r (length (system_view system).states)) (last_row.holds x w ∙ initial_are (there x) system.states ∙ first_layer_is (there x) (projection x (system_view system)))
        ∙ sym (layers_push (there x) (projection x (system_view system)) 0 ∙ nothing_before (there x) (projection x (system_view system)) (states_in 0 (layer_of (there x) (projection x (system_view system)) 0) (length (system_view system).states)))
        ∙ (let one : 1 ≡ 0 + 1 = omega arith in ap (layers_to (there x) (projection x (system_view system))) one);
  }
    where
      nothing_before : (b : Bool) (p : PlainSystem) (ps : List (ℕ × ℕ)) → (layers_to b p 0 ++ ps) ≡ ps
      nothing_before true p ps = refl
      nothing_before false p ps = refl

  pub first_last : {a : Algebra C} (last : List C) → RowWhere a last (λ x. map (λ t. there x && t.initial) system.states) → RowWhere a last (λ x. layer_of (there x) (projection x (system_view system)) 0)
  first_last last row = row_is _ (λ x. layer_of (there x) (projection x (system_view system)) 0) (λ x. initial_are (there x) system.states ∙ first_layer_is (there x) (projection x (system_view system))) row

  -- ---- one round

  front_is : {a : Algebra C} (steps last : List C) (d : ℕ) (x : List Bool) → a.is_world x ≡ true
      → RowWhere a steps (λ x. map (λ t. there x && truth (expression t.when) x) system.transitions) → RowWhere a last (λ x. layer_of (there x) (projection x (system_view system)) d)
      → IsFront (front_at a system.transitions steps last x) (there x) x (system_view system) d
  front_is steps last d x w step_rows last_rows = record {
    sources = sources_are system.transitions;
    targets = targets_are system.transitions;
    steps = step_rows.holds x w ∙ steps_are (there x) x system.transitions;
    last = last_rows.holds x w;
  }

  module _ {a b : Algebra C} (steps last reached parents : List C) (d : ℕ) (kept : Kept a b) (fits : Fits system)
      (proper : (x : List Bool) → IsProperSystem (projection x (system_view system))) (below : suc d < length system.states) (long : length last ≡ length system.states)
      (step_rows : RowWhere a steps (λ x. map (λ t. there x && truth (expression t.when) x) system.transitions))
      (last_rows : RowWhere a last (λ x. layer_of (there x) (projection x (system_view system)) d))
      (reached_rows : RowWhere a reached (λ x. seen_of (there x) (projection x (system_view system)) d))
      (parents_rows : RowWhere a parents (λ x. parents_of (there x) (projection x (system_view system)) (system_view system).transitions d)) where
    within : suc d < length (system_view system).states
    within = let same = length-map system.states state_view in omega (arith, same, below)

    many : length last ≡ length (system_view system).states
    many = long ∙ sym (length-map system.states state_view)

    front_there : (x : List Bool) → b.is_world x ≡ true → IsFront (front_at a system.transitions steps last x) (there x) x (system_view system) d
    front_there x w = front_is steps last d x (world_before x kept w) step_rows last_rows

    pub next_last : (next : List C) → RowWhere b next (λ x. entered_below (front_at a system.transitions steps last x) (row_at a reached x) (length last))
        → RowWhere b next (λ x. layer_of (there x) (projection x (system_view system)) (suc d))
    next_last next rows =
        row_is_at _ (λ x. layer_of (there x) (projection x (system_view system)) (suc d))
        (λ x w. ap (λ r. entered_below (front_at a system.transitions steps last x) r (length last)) (reached_rows.holds x (world_before x kept w))
        ∙ ap (entered_below (front_at a system.transitions steps last x) (seen_of (there x) (projection x (system_view system)) d)) many
        ∙ next_layer_is (front_at a system.transitions steps last x) (there x) x (system_view system) d (has_ends system fits) (proper x) within (front_there x w)) rows

    pub next_reached : (after : List C) → RowWhere b after (λ x. seen_below (front_at a system.transitions steps last x) (row_at a reached x) (length last))
        → RowWhere b after (λ x. seen_of (there x) (projection x (system_view system)) (suc d))
    next_reached after rows =
        row_is_at _ (λ x. seen_of (there x) (projection x (system_view system)) (suc d))
        (λ x w. ap (λ r. seen_below (front_at a system.transitions steps last x) r (length last)) (reached_rows.holds x (world_before x kept w))
        ∙ ap (seen_below (front_at a system.transitions steps last x) (seen_of (there x) (projection x (system_view system)) d)) many
        ∙ next_seen_is (front_at a system.transitions steps last x) (there x) x (system_view system) d (has_ends system fits) (proper x) within (front_there x w)) rows

    pub next_parents : (after : List C) → RowWhere b after (λ x. parents_below (front_at a system.transitions steps last x) (row_at a reached x) (row_at a parents x) (length last))
        → RowWhere b after (λ x. parents_of (there x) (projection x (system_view system)) (system_view system).transitions (suc d))
    next_parents after rows =
        row_is_at _ (λ x. parents_of (there x) (projection x (system_view system)) (system_view system).transitions (suc d))
        (λ x w. ap (λ r. parents_below (front_at a system.transitions steps last x) r (row_at a parents x) (length last)) (reached_rows.holds x (world_before x kept w))
        ∙ ap (λ r. parents_below (front_at a system.transitions steps last x) (seen_of (there x) (projection x (system_view system)) d) r (length last)) (parents_rows.holds x (world_before x kept w))
        ∙ ap (parents_below (front_at a system.transitions steps last x) (seen_of (there x) (projection x (system_view system)) d) (parents_of (there x) (projection x (system_view system)) (system_view system).transitions d)) many
        ∙ next_parents_are (front_at a system.transitions steps last x) (there x) x (system_view system) d (has_ends system fits) (proper x) within (front_there x w)) rows

  -- the layers with one more
  pub next_layers : {a b : Algebra C} (layers after : List (ℕ × ℕ × C)) (next : List C) (d : ℕ) → Kept a b → length next ≡ length system.states
      → Listed a layers (d + 1) 0
      → ((x : List Bool) → a.is_world x ≡ true → layers_at a layers x ≡ layers_to (there x) (projection x (system_view system)) (d + 1))
      → RowWhere b next (λ x. layer_of (there x) (projection x (system_view system)) (d + 1))
      → ((x : List Bool) → b.is_world x ≡ true → layers_at b after x ≡ layers_at b layers x ++ states_in (d + 1) (row_at b next x) (length next))
      → (x : List Bool) → b.is_world x ≡ true → layers_at b after x ≡ layers_to (there x) (projection x (system_view system)) ((d + 1) + 1)
  next_layers {a} {b} layers after next d kept long listed so_far next_rows more x w =
      let same : suc (d + 1) ≡ (d + 1) + 1 = omega arith in
      more x w
      ∙ ap (λ ps. ps ++ states_in (d + 1) (row_at b next x) (length next)) (layers_later layers x kept listed.layered ∙ so_far x (world_before x kept w))
      ∙ ap (λ r. layers_to (there x) (projection x (system_view system)) (d + 1) ++ states_in (d + 1) r (length next)) (next_rows.holds x w)
      ∙ ap (λ n. layers_to (there x) (projection x (system_view system)) (d + 1) ++ states_in (d + 1) (layer_of (there x) (projection x (system_view system)) (d + 1)) n) (long ∙ sym (length-map system.states state_view))
      ∙ sym (layers_push (there x) (projection x (system_view system)) (d + 1))
      ∙ ap (layers_to (there x) (projection x (system_view system))) same

  -- all that one more round and its list give, in the words of the calls
  module _ {a b : Algebra C} (ts : List Transition) (l m steps last reached parents next after_reached after_parents : List C) (layers mid after : List (ℕ × ℕ × C)) (d : ℕ)
      (is_ts : ts ≡ system.transitions) (is_last : l ≡ last) (is_next : m ≡ next) (is_mid : mid ≡ layers) (kept : Kept a b) (fits : Fits system)
      (proper : (x : List Bool) → IsProperSystem (projection x (system_view system))) (below : suc d < length system.states) (long : length last ≡ length system.states)
      (step_rows : RowWhere a steps (λ x. map (λ t. there x && truth (expression t.when) x) system.transitions))
      (last_rows : RowWhere a last (λ x. layer_of (there x) (projection x (system_view system)) d))
      (so_far : HasReached a there (system_view system) d reached parents layers)
      (entered : RowWhere b next (λ x. entered_below (front_at a ts steps l x) (row_at a reached x) (length l))) where
    further : suc d ≡ d + 1
    further = omega arith

    pub round_last : RowWhere b next (λ x. layer_of (there x) (projection x (system_view system)) (d + 1))
    round_last =
        let first = subst (λ k. RowWhere b next (λ x. entered_below (front_at a k steps l x) (row_at a reached x) (length l))) is_ts entered in
        let both = subst (λ k. RowWhere b next (λ x. entered_below (front_at a system.transitions steps k x) (row_at a reached x) (length k))) is_last first in
        subst (λ k. RowWhere b next (λ x. layer_of (there x) (projection x (system_view system)) k)) further
        (next_last steps last reached parents d kept fits proper below long step_rows last_rows so_far.reached so_far.parents next both)

    pub round_has : RowWhere b after_reached (λ x. seen_below (front_at a ts steps l x) (row_at a reached x) (length l))
        → RowWhere b after_parents (λ x. parents_below (front_at a ts steps l x) (row_at a reached x) (row_at a parents x) (length l))
        → length next ≡ length l
        → Listed b after ((d + 1) + 1) 0
        → ((x : List Bool) → b.is_world x ≡ true → layers_at b after x ≡ layers_at b mid x ++ states_in (d + 1) (row_at b m x) (length m))
        → HasReached b there (system_view system) (d + 1) after_reached after_parents after
    round_has seen over size listed listing =
        let seen_first = subst (λ k. RowWhere b after_reached (λ x. seen_below (front_at a k steps l x) (row_at a reached x) (length l))) is_ts seen in
        let seen_both = subst (λ k. RowWhere b after_reached (λ x. seen_below (front_at a system.transitions steps k x) (row_at a reached x) (length k))) is_last seen_first in
        let over_first = subst (λ k. RowWhere b after_parents (λ x. parents_below (front_at a k steps l x) (row_at a reached x) (row_at a parents x) (length l))) is_ts over in
        let over_both = subst (λ k. RowWhere b after_parents (λ x. parents_below (front_at a system.transitions steps k x) (row_at a reached x) (row_at a parents x) (length k))) is_last over_first in
        let listing_first = subst (λ k. (x : List Bool) → b.is_world x ≡ true → layers_at b after x ≡ layers_at b mid x ++ states_in (d + 1) (row_at b k x) (length k)) is_next listing in
        let listing_both = subst (λ k. (x : List Bool) → b.is_world x ≡ true → layers_at b after x ≡ layers_at b k x ++ states_in (d + 1) (row_at b next x) (length next)) is_mid listing_first in
        record {
          reached = subst (λ k. RowWhere b after_reached (λ x. seen_of (there x) (projection x (system_view system)) k)) further
              (next_reached steps last reached parents d kept fits proper below long step_rows last_rows so_far.reached so_far.parents after_reached seen_both);
          parents = subst (λ k. RowWhere b after_parents (λ x. parents_of (there x) (projection x (system_view system)) (system_view system).transitions k)) further
              (next_parents steps last reached parents d kept fits proper below long step_rows last_rows so_far.reached so_far.parents after_parents over_both);
          listed = listed;
          layers = next_layers layers after next d kept (size ∙ ap length is_last ∙ long) so_far.listed so_far.layers round_last listing_both;
        }

  -- ---- at the end

  ended : {a : Algebra C} (reached parents : List C) (layers : List (ℕ × ℕ × C)) (d : ℕ) → HasReached a there (system_view system) d reached parents layers
      → ((x : List Bool) → a.is_world x ≡ true → there x ≡ true → NoneFurther (projection x (system_view system)) d)
      → HasExplored a there (system_view system) reached parents layers
  ended reached parents layers d h none = record {
    reached = row_is_at _ _ (λ x w. last_seen_is (there x) (projection x (system_view system)) d (none x w)) h.reached;
    parents = row_is_at _ _ (λ x w. last_parents_are (there x) (projection x (system_view system)) (system_view system).transitions d (none x w)) h.parents;
    layered = h.listed.layered;
    ascending = h.listed.ascending;
    layers = λ x w. h.layers x w ∙ (let same : d + 1 ≡ suc d = omega arith in ap (layers_to (there x) (projection x (system_view system))) same) ∙ last_layers_are (there x) (projection x (system_view system)) d (none x w);
  }

  -- as many rounds as there are states
  pub ended_by_count : {a : Algebra C} (reached parents : List C) (layers : List (ℕ × ℕ × C)) (d : ℕ) → length system.states ≤ suc d
      → HasReached a there (system_view system) d reached parents layers → HasExplored a there (system_view system) reached parents layers
  ended_by_count reached parents layers d enough h =
      let same = length-map system.states state_view in
      ended reached parents layers d h (λ x w is y. all_within (projection x (system_view system)) y d (omega (arith, same, enough)))

  -- an empty layer
  pub ended_by_layer : {a : Algebra C} (reached parents last : List C) (layers : List (ℕ × ℕ × C)) (d : ℕ) → ((x : List Bool) → IsProperSystem (projection x (system_view system)))
      → RowWhere a last (λ x. layer_of (there x) (projection x (system_view system)) d)
      → ((x : List Bool) → a.is_world x ≡ true → (y : ℕ) → get_or (row_at a last x) y false ≡ false)
      → HasReached a there (system_view system) d reached parents layers → HasExplored a there (system_view system) reached parents layers
  ended_by_layer {a} reached parents last layers d proper rows empty h =
      ended reached parents layers d h
      (λ x w is. all_within_before (projection x (system_view system)) d (proper x) (λ y. none_at x w is y (true_or_false (nat_le (suc y) (length (system_view system).states)))))
    where
      no_run : (p : PlainSystem) → IsProperSystem p → (d y : ℕ) → length p.states ≤ y → holds_at (ends_after p d) y ≡ true → ⊥
      no_run p right zero y past h = false≢true (sym (holds_is (map (λ t. t.initial) p.states) y ∙ get_or_past (map (λ t. t.initial) p.states) y false (let same = length-map p.states (λ t. t.initial) in omega (arith, same, past))) ∙ h)
      no_run p right (suc d) y past h = let r = last_step p d y h in let state = right.to_states r.0 r.1 in omega (arith, state, past, r.2)

      is_past : (p : PlainSystem) → IsProperSystem p → (d y : ℕ) → length p.states ≤ y → is_number d (distance p y) ≡ false
      is_past p right d y past = false_if_not (is_number d (distance p y)) (λ h. no_run p right d y past (distance_is p y d (number_is d (distance p y) h)).passes)

      none_at : (x : List Bool) → a.is_world x ≡ true → there x ≡ true → (y : ℕ) → (nat_le (suc y) (length (system_view system).states) ≡ true) ⊎ (nat_le (suc y) (length (system_view system).states) ≡ false) → is_number d (distance (projection x (system_view system)) y) ≡ false
      none_at x w is y (inl below) =
          ap (λ b. b && is_number d (distance (projection x (system_view system)) y)) (sym is)
          ∙ sym (ap (λ r. get_or r y false) (rows.holds x w) ∙ at_number (λ z. there x && is_number d (distance (projection x (system_view system)) z)) (length (system_view system).states) y (grind (arith, below)))
          ∙ empty x w y
      none_at x w is y (inr past) = is_past (projection x (system_view system)) (proper x) d y (grind (arith, past))
