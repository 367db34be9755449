use Rattle.std.proofs.Common.{arith, refl, ap}
use Rattle.outside.specs.MemFiles.{count_of}
use Rattle.outside.proofs.MemFiles.{held-set-at, held-push-at}
use Rattle.outside.proofs.MemCounts.{place-set-at, count_of-pushed}
use Rattle.outside.proofs.mem_shelf.MemShelf.add.Goals as goal

pub returns-then-at-len-clause-ok : goal.returns-then-at-len-clause-ok
returns-then-at-len-clause-ok c other =
    held-set-at c.args.self.now.files.items c.as_slice.result.now c.args.name.now other c.args.bytes.now c.place_of-at.result c.index_mut.result.now _
    c.as_slice.ensures.value c.place_of-at.ensures (omega (arith, c.args.self.now.files.ok.0, c.len.ensures)) c.index_mut.ensures.value refl c.in_ok-bytes.ensures.items

pub returns-clause-ok : goal.returns-clause-ok
returns-clause-ok c other =
    held-push-at c.args.self.now.files.items c.as_slice.result.now c.push.new.self.items c.args.name.now other c.args.bytes.now c.place_of-at.result _
    c.as_slice.ensures.value c.place_of-at.ensures (omega (arith, c.args.self.now.files.ok.0, c.len.ensures)) c.in_ok-push.ensures.items c.in_ok-name.ensures.ok c.in_ok-bytes.ensures.items

pub returns-then-at-len-clause-same_counts : goal.returns-then-at-len-clause-same_counts
returns-then-at-len-clause-same_counts c =
    let old = c.args.self.now in
    record {
      faults = λ other. ap (λ p. (count_of old.counts.items old.missing p).faults)
          (place-set-at old.files.items c.place_of-at.result c.index_mut.result.now _ other (omega (arith, old.files.ok.0, c.len.ensures)) c.index_mut.ensures.value refl);
      given = λ other. ap (λ p. (count_of old.counts.items old.missing p).given)
          (place-set-at old.files.items c.place_of-at.result c.index_mut.result.now _ other (omega (arith, old.files.ok.0, c.len.ensures)) c.index_mut.ensures.value refl);
      next = refl;
      reads = refl;
      failing = refl;
    }

pub returns-clause-same_counts : goal.returns-clause-same_counts
returns-clause-same_counts c =
    let old = c.args.self.now in
    record {
      faults = λ other. ap (λ x. x.faults) (count_of-pushed old.files.items c.push.new.self.items old.counts.items c.reserve.new.self.items c.push-2.new.self.items old.missing _ other
          (omega (arith, old.files.ok.0, old.counts.ok.0, old.one_count_each)) c.in_ok-push.ensures.items c.in_ok-reserve.ensures.items c.in_ok-push-2.ensures.items);
      given = λ other. ap (λ x. x.given) (count_of-pushed old.files.items c.push.new.self.items old.counts.items c.reserve.new.self.items c.push-2.new.self.items old.missing _ other
          (omega (arith, old.files.ok.0, old.counts.ok.0, old.one_count_each)) c.in_ok-push.ensures.items c.in_ok-reserve.ensures.items c.in_ok-push-2.ensures.items);
      next = refl;
      reads = refl;
      failing = refl;
    }
