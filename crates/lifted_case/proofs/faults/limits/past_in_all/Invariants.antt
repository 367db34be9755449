use Rattle.std.proofs.Common.{◌≡◌, drop, map}
use Rattle.meaning.specs.CaseReading as reading
use Rattle.doc_tree.specs.View.{documents}
use Rattle.lifted_case.specs.ReadFaults.{size_at}
use Rattle.lifted_case.proofs.faults.limits.past_in_all.Given as goal

abbrev pub invariant-systems : goal.invariant-systems
invariant-systems l =
    reading.past_in_all l.i l.room (map (size_at l.list) (documents (drop l.i l.systems))) ≡ reading.past_in_all 0 l.limit (map (size_at l.list) (documents l.systems))
