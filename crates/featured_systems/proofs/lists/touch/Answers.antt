use Rattle.std.proofs.Common.{◌≡◌, ◌∙◌, ℕ, ◌<◌, List, Bool, true, false, get_or, length, take, set, sym, ap, subst, refl, arith}
use Rattle.std.specs.List.{All}
use Rattle.std.proofs.lemmas.List.{length-set, get_or-set_same, get_or-set_other, take_all}
use Rattle.std.proofs.lemmas.List.Elements.{All-more, All-weaker}
use Rattle.std.proofs.lemmas.Bool.{eqb-true, eq-eqb, false≢true}
use Rattle.std.specs.Prelude.{◌==◌}
use Rattle.annotated_model.specs.declared.data.Transition.{Transition}
use Rattle.featured_systems.specs.Rounds.{states_at}
use Rattle.featured_systems.proofs.StateRows.{end_is}
use Rattle.featured_systems.proofs.lists.touch.Goals as goal

still : (bs : List Bool) (i y : ℕ) → i < length bs → get_or bs y false ≡ true → get_or (set bs i true) y false ≡ true
still bs i y below h = go (y == i) refl
  where
    go : (b : Bool) → (y == i) ≡ b → get_or (set bs i true) y false ≡ true
    go true e = ap (λ k. get_or (set bs i true) k false) (eqb-true y i e) ∙ get_or-set_same bs i true false below
    go false e = get_or-set_other bs i y true false (λ (same : y ≡ i). false≢true (sym e ∙ eq-eqb y i same)) ∙ h

pub loop-number-preserved : goal.loop-number-preserved
loop-number-preserved c =
    let ts = c.args.transitions.now in
    let touched = c.loop-number.touched.items in
    let so_far = c.loop-number.invariant in
    let target = c.from-in-loop-number.result in
    let d = c.index-transitions-from.result in
    let numbers = c.args.numbers.now in
    let i = c.loop-number.number-index in
    let t = get_or numbers i 0 in
    let below : t < length ts = c.requires.numbers i 0 c.loop-number-test.true in
    let is : d ≡ get_or ts t d = c.index-transitions-from.is ∙ ap (λ k. get_or ts k d) (omega (arith, c.from.ensures)) in
    let within : target < length touched = omega (arith, so_far.size, c.from-in-loop-number.ensures, ap (λ (k : Transition). k.to) c.index-transitions-from.is, subst (λ (k : Transition). k.to < length c.args.touched.now.items) (sym is) (c.requires.targets t d below)) in
    let reads : get_or (states_at true ts) t 0 ≡ target = end_is true ts t d below is ∙ ap (λ (k : Transition). k.to) c.index-transitions-from.is ∙ sym c.from-in-loop-number.ensures in
    record {
      size = length-set touched target true ∙ so_far.size;
      kept = λ y h. still touched target y within (so_far.kept y h);
      marked = All-more (λ u. get_or (set touched target true) (get_or (states_at true ts) u 0) false ≡ true) numbers i 0 c.loop-number-test.true
          (All-weaker (λ u. get_or touched (get_or (states_at true ts) u 0) false ≡ true) (λ u. get_or (set touched target true) (get_or (states_at true ts) u 0) false ≡ true)
          (λ u h. still touched target (get_or (states_at true ts) u 0) within h) (take i numbers) so_far.marked)
          (ap (λ k. get_or (set touched target true) k false) reads ∙ get_or-set_same touched target true false within);
    }

pub returns-clause-marked : goal.returns-clause-marked
returns-clause-marked c =
    let ts = c.args.transitions.now in
    let whole = take_all c.loop-number.number-index c.args.numbers.now c.loop-number-test.false in
    subst (All (λ u. get_or c.loop-number.touched.items (get_or (states_at true ts) u 0) false ≡ true)) whole c.loop-number.invariant.marked
