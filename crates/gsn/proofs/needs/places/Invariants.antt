use Rattle.gsn.specs.Marks.{IsPlaces}
use Rattle.gsn.proofs.needs.places.Given as goal

abbrev pub invariant-marks : goal.invariant-marks
invariant-marks l = IsPlaces l.marks l.k l.places.items
