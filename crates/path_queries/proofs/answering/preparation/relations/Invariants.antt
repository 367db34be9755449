use Rattle.std.proofs.Common.{take}
use Rattle.std.specs.List.{sum_by}
use Rattle.worlds.specs.Algebra.{Worked}
use Rattle.path_queries.specs.Searching.{TellConstraints, walk_asks}
use Rattle.path_queries.proofs.answering.preparation.relations.Given as goal

abbrev pub invariant-loop-constraint : goal.invariant-loop-constraint
invariant-loop-constraint g l =
    let algebra = g.W.Worlds.algebra in
    record {
      worked : Worked (sum_by (walk_asks l.model) (take l.constraint-index l.constraints)) (algebra l.fn.w) (algebra l.w);
      told : TellConstraints (algebra l.w) l.model l.rows.items (take l.constraint-index l.constraints);
    }
