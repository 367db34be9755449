use Rattle.path_queries.proofs.FirstConstraints.{not_reads}
use Rattle.path_queries.proofs.ConstraintLists.{first_of_list}
use Rattle.path_queries.proofs.parse_constraint.comparison_at.Goals as goal
