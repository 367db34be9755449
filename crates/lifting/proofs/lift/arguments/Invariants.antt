use Rattle.std.proofs.Common.{◌≡◌, map, take}
use Rattle.meaning.specs.Queries.{element_of_variable}
use Rattle.lifting.proofs.lift.arguments.Given as goal

abbrev pub invariant-variables : goal.invariant-variables
invariant-variables l = l.elements.items ≡ map (element_of_variable l.bound) (take l.variable-index l.variables)
