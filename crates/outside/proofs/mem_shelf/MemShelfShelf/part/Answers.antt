use Rattle.std.proofs.Common.{arith, refl}
use Rattle.std.proofs.lemmas.Grind.{common_steps}
use Rattle.outside.proofs.MemFiles.{held-part, held-much, absent-at, present-at}
use Rattle.outside.proofs.MemCounts.{faults-set, faults-absent, given-set}
use Rattle.outside.proofs.mem_shelf.MemShelfShelf.part.Goals as goal

pub returns-clause-bytes : goal.returns-clause-bytes
returns-clause-bytes c file holds =
    held-part c.args.self.now.files.items c.as_slice.result.now c.args.name.now file c.as_slice-2.result.now c.place_of-at.result _ _ _ c.index-2.result.now holds
    c.as_slice.ensures.value c.place_of-at.ensures (omega (arith, c.args.self.now.files.ok.0, c.len.ensures)) c.index-2.ensures c.as_slice-2.ensures.value c.copy_part-n.ensures.part

pub returns-then-at-len-clause-fails : goal.returns-then-at-len-clause-fails
returns-then-at-len-clause-fails c =
    rw (absent-at c.args.self.now.files.items c.as_slice.result.now c.args.name.now c.place_of-at.result c.as_slice.ensures.value c.place_of-at.ensures
    (omega (arith, c.args.self.now.files.ok.0, c.len.ensures))) refl

pub returns-clause-fails : goal.returns-clause-fails
returns-clause-fails c =
    rw (present-at c.args.self.now.files.items c.as_slice.result.now c.args.name.now c.place_of-at.result c.as_slice.ensures.value c.place_of-at.ensures
    (omega (arith, c.args.self.now.files.ok.0, c.len.ensures))) (grind (arith, common_steps, c.contains.ensures.value, c.deref.ensures.value))

pub returns-clause-as_much : goal.returns-clause-as_much
returns-clause-as_much c file holds =
    held-much c.args.self.now.files.items c.as_slice.result.now c.args.name.now file c.as_slice-2.result.now c.place_of-at.result _ _ _ c.index-2.result.now holds
    c.as_slice.ensures.value c.place_of-at.ensures (omega (arith, c.args.self.now.files.ok.0, c.len.ensures)) c.index-2.ensures c.as_slice-2.ensures.value c.copy_part-n.ensures.as_much

pub returns-then-at-len-clause-counts_fault : goal.returns-then-at-len-clause-counts_fault
returns-then-at-len-clause-counts_fault c other =
    let old = c.args.self.now in
    faults-absent old.files.items c.as_slice.result.now old.counts.items old.missing c.saturating_add-self-then-at-len.result c.args.name.now other c.place_of-at.result
    (omega (arith, old.files.ok.0, old.counts.ok.0, old.one_count_each)) c.as_slice.ensures.value c.place_of-at.ensures (omega (arith, old.files.ok.0, c.len.ensures)) (grind (arith, c.saturating_add-self-then-at-len.ensures))

pub returns-then-contains-clause-counts_fault : goal.returns-then-contains-clause-counts_fault
returns-then-contains-clause-counts_fault c other =
    let old = c.args.self.now in
    faults-set old.files.items c.as_slice.result.now old.counts.items old.missing c.args.name.now other c.place_of-at.result c.index.result.now _
    (omega (arith, old.files.ok.0, old.counts.ok.0, old.one_count_each)) c.as_slice.ensures.value c.place_of-at.ensures (omega (arith, old.files.ok.0, c.len.ensures))
    c.index.ensures (grind (arith, c.saturating_add.ensures))

pub returns-clause-gives_under_the_name : goal.returns-clause-gives_under_the_name
returns-clause-gives_under_the_name c other =
    let old = c.args.self.now in
    given-set old.files.items c.as_slice.result.now old.counts.items old.missing c.copy_part-n.result c.args.name.now other c.place_of-at.result c.index-3.result.now _
    (omega (arith, old.files.ok.0, old.counts.ok.0, old.one_count_each)) c.as_slice.ensures.value c.place_of-at.ensures (omega (arith, old.files.ok.0, c.len.ensures))
    c.index-3.ensures (grind (arith, c.saturating_add-2.ensures))
