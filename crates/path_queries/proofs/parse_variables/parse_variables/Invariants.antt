use Rattle.std.proofs.Common.{◌-◌}
use Rattle.path_queries.proofs.VariableLists.{Variables}
use Rattle.path_queries.proofs.parse_variables.parse_variables.Given as goal

abbrev pub invariant-commas : goal.invariant-commas
invariant-commas l = Variables l.model l.scope l.tokens l.next l.new.items

abbrev pub decreases-commas : goal.decreases-commas
decreases-commas l = 12 - l.next
