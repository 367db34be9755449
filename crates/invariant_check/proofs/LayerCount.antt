-- The layers of an exploration are places below the number of states.
use Rattle.std.proofs.Common.{◌≡◌, refl, sym, subst, ℕ, ◌*◌, ◌≤◌, inl, inr, List, map, length, get_or, Bool, true, false, arith}
use Rattle.std.specs.List.{All, AllByRecursion}
use Rattle.std.proofs.lemmas.Bool.{cases_lt}
use Rattle.std.proofs.lemmas.List.{length-map}
use Rattle.std.proofs.lemmas.List.Elements.{All-map, All-from_recursion, recursion_from_All}
use Rattle.meaning.specs.Models.{Model, System, projection}
use Rattle.meaning.specs.Layers.{is_system_there}
use Rattle.worlds.specs.Algebra.{Algebra}
use Rattle.featured_systems.specs.Exploring.{IsLayer, IsExplored}
use Rattle.featured_systems.specs.declared.explored.Explored.{Explored}
use Rattle.invariant_check.proofs.LayerPlaces.{IsBelow, count_below, layers_below, each_kept}

never_true : (b : Bool) → (b ≡ true → ⊥) → b ≡ false
never_true true denied = absurd (denied refl)
never_true false denied = refl

module _ {C : Type 0} {a : Algebra C} where
  layer_below : (n : ℕ) (l : ℕ × ℕ × C) → ((x : List Bool) → a.is_world x ≡ true → a.holds l.2 x ≡ true → IsBelow n (l.0, l.1)) → IsLayer a l → IsBelow n (l.0, l.1)
  layer_below n l each layer =
      elim (cases_lt l.0 n) [
        | inl first ↦ elim (cases_lt l.1 n) [
          | inl second ↦ (first, second)
          | inr above ↦ absurd (layer.somewhere (λ x w. never_true (a.holds l.2 x) (λ is. let below = each x w is in omega (arith, above, below.1))))
        ]
        | inr above ↦ absurd (layer.somewhere (λ x w. never_true (a.holds l.2 x) (λ is. let below = each x w is in omega (arith, above, below.0))))
      ]

  -- each layer holds at some world, where its state is at its distance
  pub all_below : (m : Model) (s : System) (e : Explored C) → IsExplored a m s e → All (λ (l : ℕ × ℕ × C). IsBelow (length s.states) (l.0, l.1)) e.layers
  all_below m s e explored i d below =
      layer_below (length s.states) (get_or e.layers i d) (λ x w. there x w i d below) (explored.layered i d below)
    where
      there : (x : List Bool) → a.is_world x ≡ true → All (λ (l : ℕ × ℕ × C). a.holds l.2 x ≡ true → IsBelow (length s.states) (l.0, l.1)) e.layers
      there x w =
          All-from_recursion (λ (l : ℕ × ℕ × C). a.holds l.2 x ≡ true → IsBelow (length s.states) (l.0, l.1)) e.layers
          (each_kept (IsBelow (length s.states)) (λ (l : ℕ × ℕ × C). (l.0, l.1)) (λ l. a.holds l.2 x) e.layers
          (subst (AllByRecursion (IsBelow (length s.states))) (sym (explored.layers x w)) (layers_below (is_system_there m s x) (projection x s))))

  pub layer_count : (m : Model) (s : System) (e : Explored C) → IsExplored a m s e → length e.layers ≤ length s.states * length s.states
  layer_count m s e explored =
      let pairs = map {B = ℕ × ℕ} (λ (l : ℕ × ℕ × C). (l.0, l.1)) e.layers in
      let long : length pairs ≡ length e.layers = length-map e.layers (λ (l : ℕ × ℕ × C). (l.0, l.1)) in
      let below = All-map (IsBelow (length s.states)) (λ (l : ℕ × ℕ × C). (l.0, l.1)) e.layers (all_below m s e explored) in
      let few = count_below (length s.states) pairs explored.ascending (recursion_from_All (IsBelow (length s.states)) pairs below) in
      omega (arith, long, few)
