use Rattle.std.proofs.Common.{◌≡◌, ◌<◌, ◌≤◌, ◌-◌, length, vec_len, ℕ, List, Bool, true, slice_index}
use Rattle.gsn.specs.Incoming.{targets}
use Rattle.gsn.specs.Marks.{IsUnderWay, is_in, leads_into_from, steps}
use Rattle.gsn.proofs.credit.credit_all.Given as goal

abbrev pub invariant-chain : goal.invariant-chain
invariant-chain l = record {
  place_in : l.place ≤ length l.relations;
  place_to : 0 < l.place → slice_index (targets l.relations) (l.place - 1) ≡ l.node;
  sized : vec_len l.missing ≡ vec_len l.fn.missing;
  keeps : (needed start : List ℕ) (marked : List Bool) → is_in marked l.node ≡ true
      → IsUnderWay l.relations needed start (leads_into_from marked l.node (slice_index l.incoming.last.items l.node)) marked l.fn.missing.items l.fn.pending.items
      → IsUnderWay l.relations needed start (leads_into_from marked l.node l.place) marked l.missing.items l.pending.items;
  no_more_steps : steps l.missing.items l.pending.items ≤ steps l.fn.missing.items l.fn.pending.items;
}

abbrev pub decreases-chain : goal.decreases-chain
decreases-chain l = l.place
