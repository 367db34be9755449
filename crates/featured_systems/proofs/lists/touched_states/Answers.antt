use Rattle.std.proofs.Common.{◌≡◌, ◌∙◌, ◌<◌, ◌+◌, [], true, false, inl, inr, get_or, length, sym, ap, subst, arith}
use Rattle.std.specs.Prelude.{◌==◌, Contains}
use Rattle.std.specs.List.{All}
use Rattle.std.proofs.lemmas.Bool.{eqb-true, eq-eqb, false≢true}
use Rattle.std.proofs.lemmas.List.{get_or-map, length-map}
use Rattle.std.proofs.lemmas.List.Elements.{All-weaker}
use Rattle.meaning.proofs.RunDistances.{true_or_false, false_if_not}
use Rattle.worlds.specs.Rows.{row_at}
use Rattle.worlds.proofs.Rows.{at_row}
use Rattle.featured_systems.specs.Rounds.{places, state_at, states_at}
use Rattle.featured_systems.proofs.Places.{IsPlace, all_places, place_among}
use Rattle.featured_systems.proofs.lists.touched_states.Goals as goal

pub touch_from-requires-clause-numbers : goal.touch_from-requires-clause-numbers
touch_from-requires-clause-numbers g c =
    let ts = c.args.transitions.now in
    let sources = states_at false ts in
    let y = c.states.state in
    let long = length-map ts (state_at false) in
    let numbers = c.deref.ensures.value ∙ ap (λ list. list.items) c.index-from-state.is ∙ sym (get_or-map (λ list. list.items) c.args.from.now y c.index-from-state.result [] c.states-test.true) ∙ c.requires.lists y in
    subst (All (λ t. t < length ts)) (sym numbers)
    (All-weaker (IsPlace 0 y sources) (λ t. t < length ts) (λ t p. omega (arith, p.below, long)) (places 0 y sources) (all_places y sources))

pub states-preserved : goal.states-preserved
states-preserved g c =
    let a = g.W.Worlds.algebra c.args.w.now in
    let ts = c.args.transitions.now in
    let sources = states_at false ts in
    let y = c.states.state in
    let from = c.index-last-state.result in
    let long = length-map ts (state_at false) in
    let so_far = c.states.invariant in
    let within : y < length c.args.last.now = omega (arith, c.states-test.true, c.requires.sized) in
    let numbers = c.deref.ensures.value ∙ ap (λ list. list.items) c.index-from-state.is ∙ sym (get_or-map (λ list. list.items) c.args.from.now y c.index-from-state.result [] c.states-test.true) ∙ c.requires.lists y in
    record {
      sized = c.touch_from.ensures.size ∙ so_far.sized;
      touched = λ t below near away x w.
          let old : get_or c.states.touched.items (get_or (states_at true ts) t 0) false ≡ false =
          false_if_not _ (λ h. false≢true (sym away ∙ c.touch_from.ensures.kept (get_or (states_at true ts) t 0) h)) in
          elim (true_or_false (get_or sources t 0 == y)) [
            | inl e ↦
                let same : get_or sources t 0 ≡ y = eqb-true (get_or sources t 0) y e in
                let place : t ≡ 0 + t = omega arith in
                let among = subst (λ ns. Contains ns t) (sym numbers) (subst (Contains (places 0 y sources)) (sym place) (place_among 0 y sources t (omega (arith, below, long)) same)) in
                ap (λ k. get_or (row_at a c.args.last.now x) k false) same ∙ sym (at_row a c.args.last.now x y from within c.index-last-state.is) ∙ c.touch_from.ensures.left t among away x w
            | inr e ↦
                let other : (get_or sources t 0 ≡ y) → ⊥ = λ same. false≢true (sym e ∙ eq-eqb (get_or sources t 0) y same) in
                so_far.touched t below (grind (arith, near, other)) old x w
          ];
    }
