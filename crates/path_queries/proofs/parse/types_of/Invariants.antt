use Rattle.std.proofs.Common.{◌≡◌, map, take}
use Rattle.path_queries.proofs.parse.types_of.Given as goal

abbrev pub invariant-variables : goal.invariant-variables
invariant-variables l = l.types.items ≡ map (λ v. v.1) (take l.variable-index l.variables)
