use Rattle.std.proofs.Common.{◌+◌, ◌-◌, ◌*◌, ◌≤◌, length}
use Rattle.worlds.specs.Algebra.{Worked}
use Rattle.path_queries.specs.Tuples.{Adds}
use Rattle.path_queries.specs.Searching.{asks_with_one}
use Rattle.path_queries.proofs.Trying.{found_so_far, possible_so_far}
use Rattle.path_queries.proofs.answering.tuples.+tuples.Given as goal

abbrev pub decreases-add_all : goal.decreases-add_all
decreases-add_all g l = 2 * (length l.search.now.query.now.vars - length l.given.now)

abbrev pub decreases-add_with : goal.decreases-add_with
decreases-add_with g l = 2 * (length l.search.now.query.now.vars - (length l.given.now + 1)) + 1

abbrev pub invariant-add_all-loop-e : goal.invariant-add_all-loop-e
invariant-add_all-loop-e g l =
    let algebra = g.W.Worlds.algebra in
    record {
      worked : Worked (l.e * asks_with_one l.search l.given) (algebra l.fn.w) (algebra l.w);
      added : Adds (algebra l.w) l.fn.rows.items l.rows.items (found_so_far (algebra l.fn.w) l.search l.given l.under l.of_type l.e) (possible_so_far l.search l.given l.of_type l.e);
      few : length l.rows.items ≤ l.most;
    }
