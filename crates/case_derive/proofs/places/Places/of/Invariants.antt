use Rattle.std.proofs.Common.{◌≡◌, ℕ, ◌<◌, length, slice_index}
use Rattle.case_derive.specs.Places.{marked_before}
use Rattle.case_derive.proofs.places.Places.of.Given as goal

abbrev pub invariant-marks : goal.invariant-marks
invariant-marks l =
    (length l.numbers.items ≡ l.mark-index) × (l.number ≡ marked_before l.mark-items l.mark-index)
    × ((i : ℕ) → i < l.mark-index → slice_index l.numbers.items i ≡ marked_before l.mark-items i)
