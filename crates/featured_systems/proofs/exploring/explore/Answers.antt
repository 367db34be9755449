use Rattle.std.specs.Prelude.{◌&&◌}
use Rattle.std.proofs.Common.{◌∙◌, ◌≤◌, ◌+◌, ◌*◌, List, Bool, length, map, sym, ap, subst, arith}
use Rattle.std.specs.List.{sum_by, All}
use Rattle.std.proofs.lemmas.List.{length-map}
use Rattle.meaning.specs.Expressions.{truth, size_of, name_bound}
use Rattle.meaning.specs.Bounds.{asks_of_exploring}
use Rattle.cond_text.specs.View.{expression}
use Rattle.annotated_model.specs.View.{state_view, transition_view, system_view, element_view}
use Rattle.annotated_model.specs.ModelFacts.{SystemFits}
use Rattle.annotated_model.specs.declared.data.Transition.{Transition}
use Rattle.annotated_model.proofs.ProperProducts.{projection_is_proper}
use Rattle.worlds.specs.Algebra.{Worked}
use Rattle.worlds.proofs.Kept.{kept_then, worked_then, worked_at_most, world_before}
use Rattle.worlds.proofs.Rows.{row_later, row_is_at}
use Rattle.featured_systems.specs.Exploring.{IsExplored}
use Rattle.featured_systems.proofs.SystemFacts.{all_at, viewed_at, one_item, system_fits, steps_named, exploring_asks, element_in, explored_is}
use Rattle.featured_systems.proofs.exploring.explore.Goals as goal

pub bounds-elements-from : goal.bounds-elements-from
bounds-elements-from g c =
    let m = c.args.model.now in
    let system = c.index-systems-from.result in
    let at = viewed_at system_view c.systems.result.now m.systems c.from.result c.args.system system c.systems.ensures.systems (omega (arith, c.from.ensures)) c.requires.there c.index-systems-from.is in
    let fits : SystemFits m (system_view system) = all_at (SystemFits m) m.systems c.args.system (system_view system) c.systems.ensures.fit at in
    let long = sym (length-map c.elements.result.now element_view) ∙ ap length c.elements.ensures.elements in
    omega (arith, long, fits.element, c.from-2.ensures)

pub condition-requires : goal.condition-requires
condition-requires g c =
    let m = c.args.model.now in
    let system = c.index-systems-from.result in
    let at = viewed_at system_view c.systems.result.now m.systems c.from.result c.args.system system c.systems.ensures.systems (omega (arith, c.from.ensures)) c.requires.there c.index-systems-from.is in
    let fits : SystemFits m (system_view system) = all_at (SystemFits m) m.systems c.args.system (system_view system) c.systems.ensures.fit at in
    let element = viewed_at element_view c.elements.result.now m.elements c.from-2.result system.element c.index-elements-from.result c.elements.ensures.elements (omega (arith, c.from-2.ensures)) fits.element c.index-elements-from.is in
    let bound : name_bound (expression c.index-elements-from.result.when) ≤ (g.W.Worlds.algebra c.args.w.now).count =
    all_at (λ e. name_bound e.presence ≤ (g.W.Worlds.algebra c.args.w.now).count) m.elements system.element (element_view c.index-elements-from.result) c.requires.names.elements element in
    subst (λ e. name_bound (expression e.when) ≤ (g.W.Worlds.algebra c.args.w.now).count) c.index-elements-from.is bound

-- no more than the whole
pub returns-in_err-there-clause-worked : goal.returns-in_err-there-clause-worked
returns-in_err-there-clause-worked g c = λ s is.
    let m = c.args.model.now in
    let system = c.index-systems-from.result in
    let at = viewed_at system_view c.systems.result.now m.systems c.from.result c.args.system system c.systems.ensures.systems (omega (arith, c.from.ensures)) c.requires.there c.index-systems-from.is in
    let fits : SystemFits m (system_view system) = all_at (SystemFits m) m.systems c.args.system (system_view system) c.systems.ensures.fit at in
    let element = viewed_at element_view c.elements.result.now m.elements c.from-2.result system.element c.index-elements-from.result c.elements.ensures.elements (omega (arith, c.from-2.ensures)) fits.element c.index-elements-from.is in
    let same = one_item m.systems c.args.system (system_view system) s at is in
    let asks = exploring_asks m system (element_view c.index-elements-from.result) element in
    let here = ap (λ e. size_of (expression e.when)) c.index-elements-from.is in
    subst (λ k. Worked (asks_of_exploring m k) (g.W.Worlds.algebra c.args.w.now) (g.W.Worlds.algebra c.condition.new.w)) same
    (worked_at_most c.condition.ensures.worked (omega (arith, asks, here)))

pub steps_of-requires-clause-names : goal.steps_of-requires-clause-names
steps_of-requires-clause-names g c =
    let m = c.args.model.now in
    let system = c.index-systems-from.result in
    let at = viewed_at system_view c.systems.result.now m.systems c.from.result c.args.system system c.systems.ensures.systems (omega (arith, c.from.ensures)) c.requires.there c.index-systems-from.is in
    let a1 = g.W.Worlds.algebra c.condition.new.w in
    let named = steps_named a1.count system
    (subst (λ n. All (λ t. name_bound t.presence ≤ n) (system_view system).transitions) (sym c.condition.ensures.worked.kept.count)
    (all_at (λ s. All (λ t. name_bound t.presence ≤ (g.W.Worlds.algebra c.args.w.now).count) s.transitions) m.systems c.args.system (system_view system) c.requires.names.transitions at)) in
    subst (All (λ (t : Transition). name_bound (expression t.when) ≤ a1.count)) (sym c.list.ensures) named

pub returns-in_err-steps-clause-worked : goal.returns-in_err-steps-clause-worked
returns-in_err-steps-clause-worked g c = λ s is.
    let m = c.args.model.now in
    let system = c.index-systems-from.result in
    let at = viewed_at system_view c.systems.result.now m.systems c.from.result c.args.system system c.systems.ensures.systems (omega (arith, c.from.ensures)) c.requires.there c.index-systems-from.is in
    let fits : SystemFits m (system_view system) = all_at (SystemFits m) m.systems c.args.system (system_view system) c.systems.ensures.fit at in
    let element = viewed_at element_view c.elements.result.now m.elements c.from-2.result system.element c.index-elements-from.result c.elements.ensures.elements (omega (arith, c.from-2.ensures)) fits.element c.index-elements-from.is in
    let same = one_item m.systems c.args.system (system_view system) s at is in
    let asks = exploring_asks m system (element_view c.index-elements-from.result) element in
    let here = ap (λ e. size_of (expression e.when)) c.index-elements-from.is in
    let steps = ap (sum_by (λ (t : Transition). 8 * size_of (expression t.when) + 1)) c.list.ensures in
    subst (λ k. Worked (asks_of_exploring m k) (g.W.Worlds.algebra c.args.w.now) (g.W.Worlds.algebra c.steps_of.new.w)) same
    (worked_at_most (worked_then c.condition.ensures.worked c.steps_of.ensures.worked) (omega (arith, asks, here, steps)))

pub found_of-requires-clause-few_states : goal.found_of-requires-clause-few_states
found_of-requires-clause-few_states g c =
    let m = c.args.model.now in
    let system = c.index-systems-from.result in
    let at = viewed_at system_view c.systems.result.now m.systems c.from.result c.args.system system c.systems.ensures.systems (omega (arith, c.from.ensures)) c.requires.there c.index-systems-from.is in
    let fits : SystemFits m (system_view system) = all_at (SystemFits m) m.systems c.args.system (system_view system) c.systems.ensures.fit at in
    let long = length-map system.states state_view in
    omega (arith, long, fits.few_states)

pub found_of-requires-clause-few_transitions : goal.found_of-requires-clause-few_transitions
found_of-requires-clause-few_transitions g c =
    let m = c.args.model.now in
    let system = c.index-systems-from.result in
    let at = viewed_at system_view c.systems.result.now m.systems c.from.result c.args.system system c.systems.ensures.systems (omega (arith, c.from.ensures)) c.requires.there c.index-systems-from.is in
    let fits : SystemFits m (system_view system) = all_at (SystemFits m) m.systems c.args.system (system_view system) c.systems.ensures.fit at in
    let long = length-map system.transitions transition_view in
    omega (arith, long, fits.few_transitions)

pub found_of-requires-clause-fits : goal.found_of-requires-clause-fits
found_of-requires-clause-fits g c =
    let m = c.args.model.now in
    let system = c.index-systems-from.result in
    let at = viewed_at system_view c.systems.result.now m.systems c.from.result c.args.system system c.systems.ensures.systems (omega (arith, c.from.ensures)) c.requires.there c.index-systems-from.is in
    let fits : SystemFits m (system_view system) = all_at (SystemFits m) m.systems c.args.system (system_view system) c.systems.ensures.fit at in
    system_fits m system fits

pub found_of-requires-clause-proper : goal.found_of-requires-clause-proper
found_of-requires-clause-proper g c =
    let m = c.args.model.now in
    let system = c.index-systems-from.result in
    let at = viewed_at system_view c.systems.result.now m.systems c.from.result c.args.system system c.systems.ensures.systems (omega (arith, c.from.ensures)) c.requires.there c.index-systems-from.is in
    let fits : SystemFits m (system_view system) = all_at (SystemFits m) m.systems c.args.system (system_view system) c.systems.ensures.fit at in
    projection_is_proper m (system_view system) fits

pub returns-in_err-reached-clause-worked : goal.returns-in_err-reached-clause-worked
returns-in_err-reached-clause-worked g c = λ s is.
    let m = c.args.model.now in
    let system = c.index-systems-from.result in
    let at = viewed_at system_view c.systems.result.now m.systems c.from.result c.args.system system c.systems.ensures.systems (omega (arith, c.from.ensures)) c.requires.there c.index-systems-from.is in
    let fits : SystemFits m (system_view system) = all_at (SystemFits m) m.systems c.args.system (system_view system) c.systems.ensures.fit at in
    let element = viewed_at element_view c.elements.result.now m.elements c.from-2.result system.element c.index-elements-from.result c.elements.ensures.elements (omega (arith, c.from-2.ensures)) fits.element c.index-elements-from.is in
    let same = one_item m.systems c.args.system (system_view system) s at is in
    let asks = exploring_asks m system (element_view c.index-elements-from.result) element in
    let here = ap (λ e. size_of (expression e.when)) c.index-elements-from.is in
    let steps = ap (sum_by (λ (t : Transition). 8 * size_of (expression t.when) + 1)) c.list.ensures in
    subst (λ k. Worked (asks_of_exploring m k) (g.W.Worlds.algebra c.args.w.now) (g.W.Worlds.algebra c.found_of.new.w)) same
    (worked_at_most (worked_then (worked_then c.condition.ensures.worked c.steps_of.ensures.worked) c.found_of.ensures.worked) (omega (arith, asks, here, steps)))

pub returns-clause-worked : goal.returns-clause-worked
returns-clause-worked g c = λ s is.
    let m = c.args.model.now in
    let system = c.index-systems-from.result in
    let at = viewed_at system_view c.systems.result.now m.systems c.from.result c.args.system system c.systems.ensures.systems (omega (arith, c.from.ensures)) c.requires.there c.index-systems-from.is in
    let fits : SystemFits m (system_view system) = all_at (SystemFits m) m.systems c.args.system (system_view system) c.systems.ensures.fit at in
    let element = viewed_at element_view c.elements.result.now m.elements c.from-2.result system.element c.index-elements-from.result c.elements.ensures.elements (omega (arith, c.from-2.ensures)) fits.element c.index-elements-from.is in
    let same = one_item m.systems c.args.system (system_view system) s at is in
    let asks = exploring_asks m system (element_view c.index-elements-from.result) element in
    let here = ap (λ e. size_of (expression e.when)) c.index-elements-from.is in
    let steps = ap (sum_by (λ (t : Transition). 8 * size_of (expression t.when) + 1)) c.list.ensures in
    subst (λ k. Worked (asks_of_exploring m k) (g.W.Worlds.algebra c.args.w.now) (g.W.Worlds.algebra c.found_of.new.w)) same
    (worked_at_most (worked_then (worked_then c.condition.ensures.worked c.steps_of.ensures.worked) c.found_of.ensures.worked) (omega (arith, asks, here, steps)))

pub returns-clause-explored : goal.returns-clause-explored
returns-clause-explored g c = λ s is.
    let m = c.args.model.now in
    let system = c.index-systems-from.result in
    let at = viewed_at system_view c.systems.result.now m.systems c.from.result c.args.system system c.systems.ensures.systems (omega (arith, c.from.ensures)) c.requires.there c.index-systems-from.is in
    let fits : SystemFits m (system_view system) = all_at (SystemFits m) m.systems c.args.system (system_view system) c.systems.ensures.fit at in
    let element = viewed_at element_view c.elements.result.now m.elements c.from-2.result system.element c.index-elements-from.result c.elements.ensures.elements (omega (arith, c.from-2.ensures)) fits.element c.index-elements-from.is in
    let same = one_item m.systems c.args.system (system_view system) s at is in
    let a1 = g.W.Worlds.algebra c.condition.new.w in
    let a2 = g.W.Worlds.algebra c.steps_of.new.w in
    let k2 = c.steps_of.ensures.worked.kept in
    let k3 = c.found_of.ensures.worked.kept in
    let made = c.in_ok-there.ensures.made in
    let there = c.in_ok-there.there in
    let test = λ (x : List Bool). a2.holds there x in
    let row = row_is_at _ (λ x. map (λ (t : Transition). test x && truth (expression t.when) x) system.transitions)
    (λ x w. ap (map (λ (t : Transition). a1.holds there x && truth (expression t.when) x)) c.list.ensures
    ∙ ap (λ b. map (λ (t : Transition). b && truth (expression t.when) x) system.transitions) (sym (k2.holds there made.live x))) (row_later k3 c.in_ok-steps.ensures.made) in
    let here = λ (x : List Bool) (w : _).
    k2.holds there made.live x ∙ made.holds x (world_before x (kept_then k2 k3) w)
    ∙ ap (λ e. truth (expression e.when) x) (sym c.index-elements-from.is) ∙ sym (element_in m.elements x system.element (element_view c.index-elements-from.result) element) in
    let found = c.in_ok-reached.ensures in
    let each = c.in_ok-steps.ensures.one_for_each ∙ ap length c.list.ensures in
    subst (λ k. IsExplored (g.W.Worlds.algebra c.found_of.new.w) m k (record { reached = c.of.result; parents = c.of-2.result; layers = c.of-3.result; steps = c.of-4.result })) same
    (explored_is m system test (record { reached = c.of.result; parents = c.of-2.result; layers = c.of-3.result; steps = c.of-4.result })
    c.in_ok-reached.field-0.reached.items c.in_ok-reached.field-0.parents.items c.in_ok-steps.steps.items c.in_ok-reached.field-0.layers.items
    c.of.ensures c.of-2.ensures c.of-4.ensures c.of-3.ensures
    found.explored row here found.one_for_each_state found.one_for_each_transition each)
