use Rattle.node_pool.specs.Functions.{world_of}
use Rattle.conditions.proofs.Least.{IsWayDown}
use Rattle.conditions.proofs.store.Store.least.Given as goal

abbrev pub invariant-loop-var : goal.invariant-loop-var
invariant-loop-var l = IsWayDown l.self.vars l.self.nodes l.fn.number.0 l.number.0 (world_of l.out) l.var
