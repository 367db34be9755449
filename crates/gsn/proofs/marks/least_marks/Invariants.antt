use Rattle.gsn.specs.Marks.{IsUnderWay, leads_into, steps}
use Rattle.gsn.proofs.marks.least_marks.Given as goal

abbrev pub invariant-pending : goal.invariant-pending
invariant-pending l =
    IsUnderWay l.relations l.fn.needed.items l.fn.start.items (leads_into l.marked.items) l.marked.items l.missing.items l.pending.items

abbrev pub decreases-pending : goal.decreases-pending
decreases-pending l = steps l.missing.items l.pending.items
