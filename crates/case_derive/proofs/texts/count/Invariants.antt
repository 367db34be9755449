use Rattle.std.proofs.Common.{◌≡◌, count_by, take}
use Rattle.case_derive.proofs.texts.count.Given as goal

abbrev pub invariant-conditions : goal.invariant-conditions
invariant-conditions g l = l.count ≡ count_by (g.T.Truth.holds l.truth) (take l.condition-index l.conditions)
