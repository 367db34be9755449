use Rattle.std.proofs.Common.{◌≡◌, ◌∙◌, inl, inr, false, get_or, sym, ap, arith}
use Rattle.std.specs.Prelude.{◌==◌}
use Rattle.std.proofs.lemmas.Bool.{eqb-true, eq-eqb, false≢true}
use Rattle.meaning.proofs.RunDistances.{true_or_false}
use Rattle.worlds.specs.Rows.{row_at}
use Rattle.worlds.proofs.Rows.{at_row}
use Rattle.featured_systems.specs.Exploring.{layers_at}
use Rattle.featured_systems.proofs.ListedLayers.{one_more_state}
use Rattle.featured_systems.proofs.listing.list_layer.Goals as goal

pub states-preserved : goal.states-preserved
states-preserved g c =
    let a = g.W.Worlds.algebra c.args.w.now in
    let layer = c.args.layer.now in
    let y = c.states.y in
    let so_far = c.states.invariant in
    let call = c.in_ok-any.ensures in
    let there = c.index-layer-y.result in
    record {
      none = λ nothing x w k below.
          elim (true_or_false (k == y)) [
            | inl e ↦ ap (λ i. get_or (row_at a layer x) i false) (eqb-true k y e) ∙ sym (at_row a layer x y there c.states-test.true c.index-layer-y.is) ∙ call.any nothing x w
            | inr e ↦
                let other : (k ≡ y) → ⊥ = λ same. false≢true (sym e ∙ eq-eqb k y same) in
                so_far.none (call.before nothing) x w k (grind (arith, below, other))
          ];
      listed = call.listed;
      layers = λ x w. one_more_state c.args.distance (row_at a layer x) y (layers_at a c.args.layers.now.items x) (layers_at a c.states.layers.items x) _ (a.holds there x)
          (at_row a layer x y there c.states-test.true c.index-layer-y.is) (so_far.layers x w) (call.layers x w);
    }
