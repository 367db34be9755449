use Rattle.std.specs.Prelude.{◌&&◌, ◌++◌, true}
use Rattle.std.proofs.Common.{◌≡◌, ◌∙◌, ℕ, ◌<◌, ◌≤◌, ◌+◌, ◌*◌, suc, List, Bool, false, get_or, length, map, sym, ap, subst, arith}
use Rattle.std.proofs.Math.Nat.{mul-le-mul_right, add-mul}
use Rattle.std.proofs.lemmas.List.Elements.{All-weaker}
use Rattle.annotated_model.specs.declared.data.State.{State}
use Rattle.annotated_model.specs.declared.data.Transition.{Transition}
use Rattle.worlds.specs.Rows.{RowWhere, row_at}
use Rattle.worlds.proofs.Kept.{worked_itself, worked_then, worked_at_most}
use Rattle.worlds.proofs.Rows.{row_later, live_later}
use Rattle.featured_systems.specs.Exploring.{layers_at}
use Rattle.featured_systems.specs.Rounds.{Fronts, Listed, places, states_at, states_in}
use Rattle.featured_systems.proofs.ListedLayers.{listed_later}
use Rattle.featured_systems.proofs.RoundRows.{started, first_last, round_last, round_has, ended_by_count, ended_by_layer}
use Rattle.featured_systems.proofs.exploring.rounds.Goals as goal

pub rounds-init : goal.rounds-init
rounds-init g c =
    let a = g.W.Worlds.algebra c.args.w.now in
    let there = λ (x : List Bool). a.holds c.args.there x in
    let last = c.in_ok-last.last.items in
    let system = c.args.system.now in
    let found = c.args.found.now in
    let rows = subst (λ (ss : List State). RowWhere a last (λ x. map (λ s. there x && s.initial) ss)) c.list.ensures c.in_ok-last.ensures.made in
    let long = c.in_ok-last.ensures.one_for_each ∙ ap length c.list.ensures in
    record {
      worked = worked_at_most (worked_itself a) (omega arith);
      has = started there system found.reached.items found.parents.items last c.list_layer.new.layers.items found.layers.items c.requires.empty c.requires.reached rows c.requires.parents long c.in_ok-list_layer.ensures.listed
          (subst (λ l. (x : List Bool) → a.is_world x ≡ true → layers_at a c.list_layer.new.layers.items x ≡ layers_at a found.layers.items x ++ states_in 0 (row_at a l x) (length l)) c.deref.ensures.value c.in_ok-list_layer.ensures.layers);
      last = first_last there system last rows;
      one_for_each = long;
      states = c.requires.one_for_each_state;
      transitions = c.requires.one_for_each_transition;
    }

pub next_round-requires-clause-from : goal.next_round-requires-clause-from
next_round-requires-clause-from g c = λ y. c.requires.from y ∙ ap (λ ts. places 0 y (states_at false ts)) (sym c.list-in-rounds.ensures)

pub next_round-requires-clause-into : goal.next_round-requires-clause-into
next_round-requires-clause-into g c = λ y. c.requires.into y ∙ ap (λ ts. places 0 y (states_at true ts)) (sym c.list-in-rounds.ensures)

pub next_round-requires-clause-fronts : goal.next_round-requires-clause-fronts
next_round-requires-clause-fronts g c =
    let a = g.W.Worlds.algebra c.rounds.w in
    let system = c.args.system.now in
    let steps = c.args.steps.now in
    let last = c.rounds.last.items in
    let so_far = c.rounds.invariant in
    let long = so_far.one_for_each in
    let fronts : Fronts a system.transitions steps last =
    record {
      steps_live = live_later steps so_far.worked.kept c.requires.steps.live;
      last_live = so_far.last.live;
      one_for_each = c.requires.one_step_for_each;
      sources = All-weaker (λ (t : Transition). (t.from < length system.states) × (t.to < length system.states)) (λ t. t.from < length last) (λ t h. omega (arith, h.0, long)) system.transitions c.requires.fits;
      targets = All-weaker (λ (t : Transition). (t.from < length system.states) × (t.to < length system.states)) (λ t. t.to < length last) (λ t h. omega (arith, h.1, long)) system.transitions c.requires.fits;
    } in
    subst (λ l. Fronts a c.list-in-rounds.result.now steps l) (sym c.deref-in-rounds.ensures.value) (subst (λ ts. Fronts a ts steps last) (sym c.list-in-rounds.ensures) fronts)

-- at most so many rounds
within : (before states transitions : ℕ) → before + 1 ≤ states → 5 * (before * transitions) + 5 * transitions ≤ 5 * (states * transitions)
within before states transitions few =
    let more = mul-le-mul_right transitions few in
    let sum = add-mul before 1 transitions in
    omega (arith, more, sum)

pub returns-in_err-last-2-clause-worked : goal.returns-in_err-last-2-clause-worked
returns-in_err-last-2-clause-worked g c =
    let few : c.rounds.before + 1 ≤ length c.args.system.now.states = omega (arith, c.rounds-test.true, c.saturating_sub-before-end.ensures, ap length c.list-2.ensures) in
    worked_at_most (worked_then c.rounds.invariant.worked c.next_round.ensures.worked) (omega (arith, c.requires.into_once, within c.rounds.before (length c.args.system.now.states) (length c.args.system.now.transitions) few))

pub returns-in_err-list_layer-2-clause-worked : goal.returns-in_err-list_layer-2-clause-worked
returns-in_err-list_layer-2-clause-worked g c =
    let few : c.rounds.before + 1 ≤ length c.args.system.now.states = omega (arith, c.rounds-test.true, c.saturating_sub-before-end.ensures, ap length c.list-2.ensures) in
    worked_at_most (worked_then c.rounds.invariant.worked c.next_round.ensures.worked) (omega (arith, c.requires.into_once, within c.rounds.before (length c.args.system.now.states) (length c.args.system.now.transitions) few))

pub returns-then-not-branch-clause-worked : goal.returns-then-not-branch-clause-worked
returns-then-not-branch-clause-worked g c =
    let few : c.rounds.before + 1 ≤ length c.args.system.now.states = omega (arith, c.rounds-test.true, c.saturating_sub-before-end.ensures, ap length c.list-2.ensures) in
    worked_at_most (worked_then c.rounds.invariant.worked c.next_round.ensures.worked) (omega (arith, c.requires.into_once, within c.rounds.before (length c.args.system.now.states) (length c.args.system.now.transitions) few))

pub list_layer-requires-in-rounds-clause-listed : goal.list_layer-requires-in-rounds-clause-listed
list_layer-requires-in-rounds-clause-listed g c =
    let b = g.W.Worlds.algebra c.next_round.new.w in
    subst (λ layers. Listed b layers (c.rounds.before + 1) 0) (sym c.next_round.ensures.layers)
    (listed_later c.rounds.found.layers.items (c.rounds.before + 1) 0 c.next_round.ensures.worked.kept c.rounds.invariant.has.listed)

pub rounds-preserved : goal.rounds-preserved
rounds-preserved g c =
    let a0 = g.W.Worlds.algebra c.args.w.now in
    let there = λ (x : List Bool). a0.holds c.args.there x in
    let system = c.args.system.now in
    let so_far = c.rounds.invariant in
    let call = c.in_ok-last-2.ensures in
    let list = c.in_ok-list_layer-2.ensures in
    let d = c.rounds.before in
    let below : suc d < length system.states = omega (arith, c.rounds-test.true, c.saturating_sub-before-end.ensures, ap length c.list-2.ensures) in
    let step_rows = row_later so_far.worked.kept c.requires.steps in
    let sum = add-mul d 1 (length system.transitions) in
    record {
      worked = worked_at_most (worked_then so_far.worked call.worked) (omega (arith, c.requires.into_once, sum));
      has = round_has there system c.list-in-rounds.result.now c.deref-in-rounds.result.now c.deref-in-rounds-2.result.now c.args.steps.now c.rounds.last.items c.rounds.found.reached.items c.rounds.found.parents.items
          c.in_ok-last-2.last.items c.next_round.new.found.reached.items c.next_round.new.found.parents.items c.rounds.found.layers.items c.next_round.new.found.layers.items c.list_layer-in-rounds.new.layers.items d
          c.list-in-rounds.ensures c.deref-in-rounds.ensures.value c.deref-in-rounds-2.ensures.value call.layers call.worked.kept c.requires.fits c.requires.proper below so_far.one_for_each step_rows so_far.last so_far.has call.entered
          call.reached call.parents call.one_for_each list.listed list.layers;
      last = round_last there system c.list-in-rounds.result.now c.deref-in-rounds.result.now c.deref-in-rounds-2.result.now c.args.steps.now c.rounds.last.items c.rounds.found.reached.items c.rounds.found.parents.items
          c.in_ok-last-2.last.items c.next_round.new.found.reached.items c.next_round.new.found.parents.items c.rounds.found.layers.items c.next_round.new.found.layers.items c.list_layer-in-rounds.new.layers.items d
          c.list-in-rounds.ensures c.deref-in-rounds.ensures.value c.deref-in-rounds-2.ensures.value call.layers call.worked.kept c.requires.fits c.requires.proper below so_far.one_for_each step_rows so_far.last so_far.has call.entered;
      one_for_each = call.one_for_each ∙ ap length c.deref-in-rounds.ensures.value ∙ so_far.one_for_each;
      states = call.states ∙ so_far.states;
      transitions = call.transitions ∙ so_far.transitions;
    }

pub returns-then-not-branch-clause-explored : goal.returns-then-not-branch-clause-explored
returns-then-not-branch-clause-explored g c =
    let a0 = g.W.Worlds.algebra c.args.w.now in
    let b = g.W.Worlds.algebra c.next_round.new.w in
    let there = λ (x : List Bool). a0.holds c.args.there x in
    let system = c.args.system.now in
    let so_far = c.rounds.invariant in
    let call = c.in_ok-last-2.ensures in
    let list = c.in_ok-list_layer-2.ensures in
    let d = c.rounds.before in
    let below : suc d < length system.states = omega (arith, c.rounds-test.true, c.saturating_sub-before-end.ensures, ap length c.list-2.ensures) in
    let step_rows = row_later so_far.worked.kept c.requires.steps in
    let has = round_has there system c.list-in-rounds.result.now c.deref-in-rounds.result.now c.deref-in-rounds-2.result.now c.args.steps.now c.rounds.last.items c.rounds.found.reached.items c.rounds.found.parents.items
    c.in_ok-last-2.last.items c.next_round.new.found.reached.items c.next_round.new.found.parents.items c.rounds.found.layers.items c.next_round.new.found.layers.items c.list_layer-in-rounds.new.layers.items d
    c.list-in-rounds.ensures c.deref-in-rounds.ensures.value c.deref-in-rounds-2.ensures.value call.layers call.worked.kept c.requires.fits c.requires.proper below so_far.one_for_each step_rows so_far.last so_far.has call.entered
    call.reached call.parents call.one_for_each list.listed list.layers in
    let last = round_last there system c.list-in-rounds.result.now c.deref-in-rounds.result.now c.deref-in-rounds-2.result.now c.args.steps.now c.rounds.last.items c.rounds.found.reached.items c.rounds.found.parents.items
    c.in_ok-last-2.last.items c.next_round.new.found.reached.items c.next_round.new.found.parents.items c.rounds.found.layers.items c.next_round.new.found.layers.items c.list_layer-in-rounds.new.layers.items d
    c.list-in-rounds.ensures c.deref-in-rounds.ensures.value c.deref-in-rounds-2.ensures.value call.layers call.worked.kept c.requires.fits c.requires.proper below so_far.one_for_each step_rows so_far.last so_far.has call.entered in
    let empty = subst (λ l. (x : List Bool) → b.is_world x ≡ true → (y : ℕ) → get_or (row_at b l x) y false ≡ false) c.deref-in-rounds-2.ensures.value (list.none c.if-not-branch.true) in
    ended_by_layer there system c.next_round.new.found.reached.items c.next_round.new.found.parents.items c.in_ok-last-2.last.items c.list_layer-in-rounds.new.layers.items (d + 1) c.requires.proper last empty has

pub returns-clause-explored : goal.returns-clause-explored
returns-clause-explored g c =
    let a0 = g.W.Worlds.algebra c.args.w.now in
    let there = λ (x : List Bool). a0.holds c.args.there x in
    let enough : length c.args.system.now.states ≤ suc c.rounds.before = omega (arith, c.rounds-test.false, c.saturating_sub-before-end.ensures, ap length c.list-2.ensures) in
    ended_by_count there c.args.system.now c.rounds.found.reached.items c.rounds.found.parents.items c.rounds.found.layers.items c.rounds.before enough c.rounds.invariant.has
