use Rattle.std.proofs.Common.{◌≡◌, ◌∙◌, ◌<◌, length, get_or, arith}
use Rattle.std.proofs.Math.ListN.{length-set}
use Rattle.std.proofs.lemmas.List.{get_or_read}
use Rattle.conditions.specs.Applier.{no_kept}
use Rattle.conditions.proofs.KeptResults.{each_from_set}
use Rattle.conditions.proofs.applier.spread.Goals as goal

pub loop-slot-preserved : goal.loop-slot-preserved
loop-slot-preserved c =
    let now = c.loop-slot.kept.items in
    let before = c.loop-slot.invariant in
    let i = c.kept_slot.result in
    let s = c.loop-slot.slot in
    let s_in : s < length now = omega (arith, before.slots, c.requires.count, c.loop-slot-test.true) in
    let read : c.index-result.result.now ≡ get_or now s no_kept = get_or_read now _ _ s_in c.index-result.ensures no_kept in
    record {
      slots = length-set now i _ ∙ before.slots;
      from = rw read (each_from_set c.args.kept.now.items now i s s_in (omega (arith, before.slots, c.requires.slots, c.kept_slot.ensures)) before.from);
      capacity = before.capacity;
    }
