use Rattle.std.proofs.Common.{◌≡◌, ◌<◌, ℕ, length, slice_index}
use Rattle.lifted_case.specs.CaseIds.{number_at}
use Rattle.lifted_case.proofs.case_ids.place.Given as goal

abbrev pub invariant-roots : goal.invariant-roots
invariant-roots l = record {
  long : length l.ids.items ≡ l.count;
  each : (k : ℕ) → k < l.place → slice_index l.ids.items (number_at l.roots k) ≡ slice_index l.found k;
}
