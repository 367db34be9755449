use Rattle.std.proofs.Common.{◌≡◌, ◌++◌, map, take}
use Rattle.lifted_case.proofs.case_walk.walk_targets.Given as goal

abbrev pub invariant-targets : goal.invariant-targets
invariant-targets l = l.walk.items ≡ l.initial.walk.items ++ map (λ t. t.1) (take l.target-index l.targets)
