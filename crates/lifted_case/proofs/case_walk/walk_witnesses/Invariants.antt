use Rattle.std.proofs.Common.{◌≡◌, ◌++◌, map, take}
use Rattle.lifted_case.proofs.case_walk.walk_witnesses.Given as goal

abbrev pub invariant-witnesses : goal.invariant-witnesses
invariant-witnesses l = l.walk.items ≡ l.initial.walk.items ++ map (λ x. x.1) (take l.witness-index l.witnesses)
