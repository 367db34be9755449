use Rattle.std.proofs.Common.{◌≡◌, ◌≤◌, ℕ, length, take, not, slice_index, if◌then◌else◌}
use Rattle.std.specs.Prelude.{◌&&◌}
use Rattle.gsn.specs.Marks.{is_in, total}
use Rattle.gsn.proofs.needs.all_supports.Given as goal

abbrev pub invariant-relations : goal.invariant-relations
invariant-relations l = record {
  sized : length l.needed.items ≡ length l.arguing;
  few : (x : ℕ) → slice_index l.needed.items x ≤ l.relation-index;
  needed : (x : ℕ) → slice_index l.needed.items x ≡ (if is_in l.arguing x && not (is_in l.refuted x) then total (take l.relation-index l.relations) x else 0);
}
