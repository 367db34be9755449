use Rattle.std.proofs.Common.{◌≡◌, ◌++◌, take}
use Rattle.lifted_case.proofs.case_walk.walk_conditions.Given as goal

abbrev pub invariant-conditions : goal.invariant-conditions
invariant-conditions l = l.walk.items ≡ l.initial.walk.items ++ (take l.condition-index l.conditions)
