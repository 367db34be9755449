use Rattle.std.proofs.Common.{◌≡◌, ◌++◌, map, take}
use Rattle.lifted_case.proofs.case_walk.walk_relations.Given as goal

abbrev pub invariant-relations : goal.invariant-relations
invariant-relations l = l.walk.items ≡ l.initial.walk.items ++ map (λ r. r.when) (take l.relation-index l.relations)
