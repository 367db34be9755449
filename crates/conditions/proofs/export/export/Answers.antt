use Rattle.std.proofs.Common.{◌≡◌, length, replicate}
use Rattle.conditions.proofs.Leaving.{IsGathered-start, IsGathered-more}
use Rattle.conditions.proofs.export.export.Goals as goal

pub loop-number-init : goal.loop-number-init
loop-number-init c =
    let r = c.args.store.now in
    let none : c.in_ok-ids.ids.items ≡ replicate (length r.nodes) 0 = rw (← c.used.ensures.value) c.in_ok-ids.ensures in
    rw (c.new-rows.ensures.items, c.new-found.ensures.items) (IsGathered-start r c.args.numbers.now c.in_ok-ids.ids.items none)

pub loop-number-preserved : goal.loop-number-preserved
loop-number-preserved c =
    rw c.in_ok-push.ensures (IsGathered-more c.args.store.now c.args.numbers.now c.loop-number.number-index c.loop-number.ids.items c.leave.new.ids.items c.loop-number.rows.items c.leave.new.rows.items c.loop-number.found.items c.in_ok-id.id c.loop-number.invariant c.in_ok-id.ensures)
