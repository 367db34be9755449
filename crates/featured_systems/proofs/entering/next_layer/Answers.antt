use Rattle.std.proofs.Common.{◌∙◌, ◌<◌, ◌+◌, ◌∷◌, [], length, map, sym, ap, subst, arith}
use Rattle.std.proofs.lemmas.List.{get_or-map, length-map, length-append}
use Rattle.std.proofs.lemmas.List.Sums.{sum_by_more, sum_by_more_le}
use Rattle.worlds.specs.Rows.{RowWhere, row_at}
use Rattle.worlds.proofs.Kept.{worked_then, worked_at_most}
use Rattle.featured_systems.specs.Rounds.{front_at, entered_below}
use Rattle.featured_systems.proofs.Layering.{nothing_comes, one_more_entered, one_more_seen, one_more_parents}
use Rattle.featured_systems.proofs.entering.next_layer.Goals as goal

pub enter_state-requires-clause-touched : goal.enter_state-requires-clause-touched
enter_state-requires-clause-touched g c = λ away x w.
    nothing_comes c.args.transitions.now c.args.steps.now c.args.last.now c.args.touched.now c.states.y x c.states.invariant.worked.kept c.requires.fronts c.requires.touched away w

pub returns-in_err-entered-clause-worked : goal.returns-in_err-entered-clause-worked
returns-in_err-entered-clause-worked g c =
    let lists = map (λ list. list.items) c.args.into.now in
    let long = length-map c.args.into.now (λ list. list.items) in
    let below : c.states.y < length lists = omega (arith, long, c.states-test.true) in
    let numbers = ap length (c.deref.ensures.value ∙ ap (λ list. list.items) c.index-into-y.is ∙ sym (get_or-map (λ list. list.items) c.args.into.now c.states.y c.index-into-y.result [] c.states-test.true)) in
    worked_at_most (worked_then c.states.invariant.worked c.enter_state.ensures.worked) (omega (arith, numbers, sum_by_more_le length lists c.states.y [] below))

pub returns-in_err-push-clause-worked : goal.returns-in_err-push-clause-worked
returns-in_err-push-clause-worked g c =
    let lists = map (λ list. list.items) c.args.into.now in
    let long = length-map c.args.into.now (λ list. list.items) in
    let below : c.states.y < length lists = omega (arith, long, c.states-test.true) in
    let numbers = ap length (c.deref.ensures.value ∙ ap (λ list. list.items) c.index-into-y.is ∙ sym (get_or-map (λ list. list.items) c.args.into.now c.states.y c.index-into-y.result [] c.states-test.true)) in
    worked_at_most (worked_then c.states.invariant.worked c.enter_state.ensures.worked) (omega (arith, numbers, sum_by_more_le length lists c.states.y [] below))

pub states-preserved : goal.states-preserved
states-preserved g c =
    let a = g.W.Worlds.algebra c.args.w.now in
    let now = g.W.Worlds.algebra c.enter_state.new.w in
    let ts = c.args.transitions.now in
    let steps = c.args.steps.now in
    let last = c.args.last.now in
    let before = c.args.found.now.reached.items in
    let y = c.states.y in
    let so_far = c.states.invariant in
    let call = c.in_ok-entered.ensures in
    let lists = map (λ list. list.items) c.args.into.now in
    let long = length-map c.args.into.now (λ list. list.items) in
    let below : y < length lists = omega (arith, long, c.states-test.true) in
    let numbers = ap length (c.deref.ensures.value ∙ ap (λ list. list.items) c.index-into-y.is ∙ sym (get_or-map (λ list. list.items) c.args.into.now y c.index-into-y.result [] c.states-test.true)) in
    let longer = length-append c.states.next.items (c.in_ok-entered.entered ∷ []) in
    let entered = one_more_entered ts steps last before c.states.found.reached.items y so_far.worked.kept call.worked.kept c.requires.fronts so_far.reached c.states.next.items c.in_ok-entered.entered so_far.entered call.entered in
    record {
      worked = worked_at_most (worked_then so_far.worked call.worked) (omega (arith, numbers, sum_by_more length lists y [] below));
      entered = subst (λ cs. RowWhere now cs (λ x. entered_below (front_at a ts steps last x) (row_at a before x) (y + 1))) (sym c.in_ok-push.ensures.items) entered;
      reached = one_more_seen ts steps last before c.states.found.reached.items y so_far.worked.kept call.worked.kept c.requires.fronts so_far.reached c.enter_state.new.found.reached.items call.reached;
      parents = one_more_parents ts steps last before c.states.found.reached.items y so_far.worked.kept call.worked.kept c.requires.fronts so_far.reached c.args.found.now.parents.items c.states.found.parents.items c.enter_state.new.found.parents.items so_far.parents call.parents;
      one_for_each = ap length c.in_ok-push.ensures.items ∙ omega (arith, longer, so_far.one_for_each);
      states = call.states ∙ so_far.states;
      transitions = call.transitions ∙ so_far.transitions;
      layers = call.layers ∙ so_far.layers;
    }
