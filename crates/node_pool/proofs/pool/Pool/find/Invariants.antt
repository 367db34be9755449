use Rattle.node_pool.proofs.Search.{IsSearched}
use Rattle.node_pool.proofs.pool.Pool.find.Given as goal

abbrev pub invariant-loop-link : goal.invariant-loop-link
invariant-loop-link l = IsSearched l.self-inside.mask l.self.nodes l.node l.link

abbrev pub decreases-loop-link : goal.decreases-loop-link
decreases-loop-link l = l.link
