use Rattle.std.proofs.Common.{◌+◌, ◌-◌, ◌*◌, length}
use Rattle.std.specs.Prelude.{not}
use Rattle.meaning.specs.Queries.{is_empty}
use Rattle.worlds.specs.Algebra.{Worked, HoldsWhere}
use Rattle.path_queries.specs.Searching.{asks_with_one}
use Rattle.path_queries.proofs.Trying.{found_so_far}
use Rattle.path_queries.proofs.answering.existence.+existence.Given as goal

abbrev pub decreases-any_answer : goal.decreases-any_answer
decreases-any_answer g l = 2 * (length l.search.now.query.now.vars - length l.given.now)

abbrev pub decreases-any_with : goal.decreases-any_with
decreases-any_with g l = 2 * (length l.search.now.query.now.vars - (length l.given.now + 1)) + 1

abbrev pub invariant-any_answer-loop-e : goal.invariant-any_answer-loop-e
invariant-any_answer-loop-e g l =
    let algebra = g.W.Worlds.algebra in
    record {
      worked : Worked (l.e * (asks_with_one l.search l.given + 1)) (algebra l.fn.w) (algebra l.w);
      found : HoldsWhere (algebra l.w) l.found (λ x. not (is_empty (found_so_far (algebra l.fn.w) l.search l.given l.under l.of_type l.e x)));
    }
