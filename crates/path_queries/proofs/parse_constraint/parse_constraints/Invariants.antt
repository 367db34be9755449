use Rattle.std.proofs.Common.{◌≡◌, ◌++◌, ◌-◌, map, length, vec_len}
use Rattle.path_queries.specs.View.{constraint}
use Rattle.path_queries.proofs.ConstraintLists.{SoFar}
use Rattle.path_queries.proofs.parse_constraint.parse_constraints.Given as goal

abbrev pub invariant-commas : goal.invariant-commas
invariant-commas l = SoFar l.model (l.scope ++ l.new) l.tokens l.at l.next (map constraint l.list.items)

abbrev pub decreases-commas : goal.decreases-commas
decreases-commas l = 256 - l.next
