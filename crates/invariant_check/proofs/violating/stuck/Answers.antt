use Rattle.std.proofs.Common.{◌≡◌, ◌<◌, ◌∙◌, sym, ap, subst, map, length, get_or, arith}
use Rattle.std.proofs.lemmas.List.{length-map, get_or-map, length-set}
use Rattle.annotated_model.specs.declared.data.Transition.{Transition}
use Rattle.worlds.specs.Rows.{row_at}
use Rattle.worlds.proofs.Kept.{worked_itself, worked_then, worked_at_most, one_call}
use Rattle.invariant_check.proofs.ViolatingRows.{unleft_first, unleft_next, stuck_is}
use Rattle.invariant_check.proofs.violating.stuck.Goals as goal

pub loop-number-init : goal.loop-number-init
loop-number-init g c =
    let a = g.W.Worlds.algebra c.args.w.now in
    let system = c.args.system.now in
    let long = ap length c.list.ensures in
    record {
      worked = worked_itself a;
      made = unleft_first c.in_ok-stuck.stuck.items (length system.states) _ (λ x. row_at a c.args.steps.now x) long c.in_ok-stuck.ensures.made;
      sized = c.in_ok-stuck.ensures.sized ∙ long;
    }

pub loop-number-preserved : goal.loop-number-preserved
loop-number-preserved g c =
    let system = c.args.system.now in
    let so_far = c.loop-number.invariant in
    let ts = system.transitions in
    let k = c.loop-number.number in
    let d = c.transition-item.result in
    let from = c.from-from.result in
    let long = ap length c.list-transition-items.ensures in
    let below : k < length ts = omega (arith, c.loop-number-test.true, long) in
    let is : d ≡ get_or ts k d = c.transition-item.is ∙ ap (λ xs. get_or xs k d) c.list-transition-items.ensures in
    let sources = map (λ (t : Transition). t.from) ts in
    let many = length-map ts (λ (t : Transition). t.from) in
    let source : get_or sources k 0 ≡ from = get_or-map (λ (t : Transition). t.from) ts k d 0 below ∙ ap (λ (t : Transition). t.from) (sym is) ∙ sym c.from-from.ensures in
    let within : d.from < length system.states = subst (λ (t : Transition). t.from < length system.states) (sym is) (c.requires.from k d below) in
    record {
      worked = worked_at_most (worked_then so_far.worked (one_call c.without.ensures.kept c.without.ensures.asked)) (omega arith);
      made = unleft_next c.args.steps.now c.loop-number.stuck.items sources k (length system.states) from c.index.result.now c.index-steps-number.result c.in_ok-stuck-2.field-0
          so_far.worked.kept c.without.ensures.kept c.requires.steps.live (omega (arith, below, many)) (omega (arith, below, c.requires.size)) so_far.sized (omega (arith, within, c.from-from.ensures)) source
          c.index.ensures c.index-steps-number.is so_far.made c.in_ok-stuck-2.ensures.made;
      sized = length-set c.loop-number.stuck.items from c.in_ok-stuck-2.field-0 ∙ so_far.sized;
    }

pub returns-clause-made : goal.returns-clause-made
returns-clause-made g c =
    let so_far = c.loop-number.invariant in
    let long = ap length c.list-transition-items.ensures in
    stuck_is c.args.model.now c.args.system.now c.args.steps.now c.loop-number.stuck.items c.loop-number.number so_far.worked.kept (omega (arith, long, c.loop-number-test.false)) so_far.sized c.requires.steps so_far.made
