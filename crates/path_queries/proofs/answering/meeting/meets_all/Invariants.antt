use Rattle.std.proofs.Common.{◌++◌}
use Rattle.std.specs.Prelude.{◌&&◌}
use Rattle.meaning.specs.Models.{model_at}
use Rattle.worlds.specs.Algebra.{Worked, HoldsWhere}
use Rattle.path_queries.specs.View.{query}
use Rattle.path_queries.proofs.MetConstraints.{accepts_first}
use Rattle.path_queries.proofs.answering.meeting.meets_all.Given as goal

abbrev pub invariant-loop-number : goal.invariant-loop-number
invariant-loop-number g l =
    let algebra = g.W.Worlds.algebra in
    record {
      worked : Worked l.number (algebra l.fn.w) (algebra l.w);
      met : HoldsWhere (algebra l.w) l.here (λ x. (algebra l.fn.w).holds l.fn.under x && accepts_first (model_at l.search.model.now x) (query l.search.query.now) (l.search.bound.now ++ l.given) l.number);
    }
