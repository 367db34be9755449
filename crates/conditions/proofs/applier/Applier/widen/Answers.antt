use Rattle.std.proofs.Common.{ap, length, ◌-◌, ◌++◌, replicate, arith}
use Rattle.std.proofs.lemmas.List.{length-append, length-replicate}
use Rattle.conditions.specs.Applier.{no_kept, EachFrom}
use Rattle.conditions.proofs.KeptResults.{all_true_later}
use Rattle.conditions.proofs.applier.Applier.widen.Goals as goal

pub invariant_of-self : goal.invariant_of-self
invariant_of-self c =
    let s = c.self.inside in
    let sound = c.self.invariant in
    let n = c.next_mask-wider.result - s.mask in
    let blanks = c.add_blanks.ensures.items in
    let from : EachFrom (s.kept.items ++ replicate n no_kept) c.spread.new.kept.items = rw (← blanks) c.spread.ensures.from in
    let long = ap length blanks in
    record {
      region = sound.region;
      slots = omega (arith, c.spread.ensures.slots, long, length-append s.kept.items (replicate n no_kept), length-replicate n no_kept, sound.slots, c.next_mask-wider.ensures.more);
      within = c.next_mask-wider.ensures.within;
      room = omega (arith, c.spread.ensures.capacity, c.add_blanks.ensures.capacity, sound.room);
      all_true = all_true_later s.pool s.kept.items c.spread.new.kept.items n sound.all_true from;
    }
