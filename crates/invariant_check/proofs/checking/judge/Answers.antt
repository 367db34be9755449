use Rattle.std.proofs.Common.{◌≡◌, ◌<◌, false, sym, ap, ◌∙◌, subst, length, replicate, arith}
use Rattle.std.specs.List.{All}
use Rattle.std.proofs.lemmas.List.{length-map}
use Rattle.annotated_model.specs.View.{state_view, transition_view, system_view}
use Rattle.worlds.specs.Rows.{RowWhere}
use Rattle.worlds.proofs.Kept.{worked_then, worked_at_most, one_call, world_before}
use Rattle.worlds.proofs.Rows.{row_later}
use Rattle.featured_systems.specs.Exploring.{layers_at}
use Rattle.featured_systems.proofs.ListedLayers.{layers_later}
use Rattle.invariant_check.specs.Searching.{Violating}
use Rattle.invariant_check.specs.View.{property}
use Rattle.invariant_check.proofs.LayerPlaces.{judging_asks}
use Rattle.invariant_check.proofs.LayerCount.{all_below, layer_count}
use Rattle.invariant_check.proofs.FoundStates.{judged_is}
use Rattle.invariant_check.proofs.checking.judge.Goals as goal

pub nearest-requires-clause-states : goal.nearest-requires-clause-states
nearest-requires-clause-states g c =
    let s = system_view c.args.system.now in
    let explored = c.args.explored.now in
    let long : length c.deref.result.now ≡ length s.states = ap length c.deref.ensures.value ∙ c.in_ok-violations.ensures.made.size in
    subst (All (λ l. l.1 < length c.deref.result.now)) (sym c.list-2.ensures)
    (λ k d below. (let place = all_below c.args.model.now s explored c.requires.explored k d below in omega (arith, place.1, long)))

pub nearest-requires-clause-never : goal.nearest-requires-clause-never
nearest-requires-clause-never g c =
    let a = g.W.Worlds.algebra c.args.w.now in
    let states = c.args.system.now.states in
    let long : length states ≡ length c.deref.result.now = sym (length-map states state_view) ∙ sym (ap length c.deref.ensures.value ∙ c.in_ok-violations.ensures.made.size) in
    row_later c.violating.ensures.worked.kept (subst (λ n. RowWhere a c.args.ends.now.items (λ x. replicate n false)) long c.requires.never)

pub returns-in_err-supported-clause-worked : goal.returns-in_err-supported-clause-worked
returns-in_err-supported-clause-worked g c =
    let s = system_view c.args.system.now in
    let few = layer_count c.args.model.now s c.args.explored.now c.requires.explored in
    let asks = judging_asks s (length c.args.explored.now.layers) few in
    let many = ap length c.list-2.ensures in
    let over = length-map c.args.system.now.transitions transition_view in
    worked_at_most (worked_then c.violating.ensures.worked c.nearest.ensures.worked) (omega (arith, asks, many, over))

pub returns-in_err-refuted-clause-worked : goal.returns-in_err-refuted-clause-worked
returns-in_err-refuted-clause-worked g c =
    let s = system_view c.args.system.now in
    let few = layer_count c.args.model.now s c.args.explored.now c.requires.explored in
    let asks = judging_asks s (length c.args.explored.now.layers) few in
    let many = ap length c.list-2.ensures in
    let over = length-map c.args.system.now.transitions transition_view in
    worked_at_most (worked_then (worked_then c.violating.ensures.worked c.nearest.ensures.worked) (one_call c.without.ensures.kept c.without.ensures.asked)) (omega (arith, asks, many, over))

pub returns-clause-worked : goal.returns-clause-worked
returns-clause-worked g c =
    let s = system_view c.args.system.now in
    let few = layer_count c.args.model.now s c.args.explored.now c.requires.explored in
    let asks = judging_asks s (length c.args.explored.now.layers) few in
    let many = ap length c.list-2.ensures in
    let over = length-map c.args.system.now.transitions transition_view in
    worked_at_most (worked_then (worked_then c.violating.ensures.worked c.nearest.ensures.worked) (one_call c.without.ensures.kept c.without.ensures.asked)) (omega (arith, asks, many, over))

pub returns-clause-judged : goal.returns-clause-judged
returns-clause-judged g c =
    let a = g.W.Worlds.algebra c.violating.new.w in
    let m = c.args.model.now in
    let s = system_view c.args.system.now in
    let p = property c.args.property.now in
    let explored = c.requires.explored in
    let first = c.violating.ensures.worked.kept in
    let violates = subst (Violating a m s p) (sym c.deref.ensures.value) c.in_ok-violations.ensures.made in
    judged_is a c.deref.result.now c.list-2.result.now m s p violates
    (λ x w. ap (λ l. layers_at a l x) c.list-2.ensures ∙ layers_later c.args.explored.now.layers x first explored.layered ∙ explored.layers x (world_before x first w))
    c.args.under c.nearest.ensures.worked.kept c.without.ensures.kept (first.live c.args.under c.requires.live)
    (λ x w held. c.requires.under x (world_before x first w) (sym (first.holds c.args.under c.requires.live x) ∙ held))
    c.in_ok-supported.supported c.in_ok-refuted.refuted c.nearest.new.targets.items c.in_ok-supported.ensures.left c.in_ok-supported.ensures.targets c.in_ok-refuted.ensures.made
