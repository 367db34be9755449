-- What was explored and found before, at a later moment.
use Rattle.std.proofs.Common.{◌≡◌, ◌∙◌, sym, List, Bool, true}
use Rattle.std.proofs.lemmas.List.Elements.{All-weaker}
use Rattle.meaning.specs.Models.{Model, System}
use Rattle.meaning.specs.Layers.{is_system_there}
use Rattle.worlds.specs.Algebra.{Algebra, Kept}
use Rattle.worlds.proofs.Kept.{world_before}
use Rattle.worlds.proofs.Rows.{row_later}
use Rattle.featured_systems.specs.Exploring.{IsExplored, IsLayer}
use Rattle.featured_systems.specs.declared.explored.Explored.{Explored}
use Rattle.featured_systems.proofs.ListedLayers.{layers_later}

pub explored_later : {C : Type 0} {a b : Algebra C} {m : Model} {s : System} {e : Explored C} → Kept a b → IsExplored a m s e → IsExplored b m s e
explored_later {a} {b} {e} kept h = record {
  one_for_each_state = h.one_for_each_state;
  one_for_each_transition = h.one_for_each_transition;
  one_step_for_each = h.one_step_for_each;
  reached = row_later kept h.reached;
  parents = row_later kept h.parents;
  steps = row_later kept h.steps;
  layered = All-weaker (IsLayer a) (IsLayer b)
      (λ l is. record { live = kept.live l.2 is.live; somewhere = λ nowhere. is.somewhere (λ x w. sym (kept.holds l.2 is.live x) ∙ nowhere x (kept.worlds x ∙ w)) }) e.layers h.layered;
  ascending = h.ascending;
  layers = λ x w. layers_later e.layers x kept h.layered ∙ h.layers x (world_before x kept w);
}

-- a condition that holds only where the system is there
pub within_later : {C : Type 0} {a b : Algebra C} (m : Model) (s : System) (c : C) → Kept a b → a.live c
    → ((x : List Bool) → a.is_world x ≡ true → a.holds c x ≡ true → is_system_there m s x ≡ true)
    → (x : List Bool) → b.is_world x ≡ true → b.holds c x ≡ true → is_system_there m s x ≡ true
within_later m s c kept live within x w h = within x (world_before x kept w) (sym (kept.holds c live x) ∙ h)
