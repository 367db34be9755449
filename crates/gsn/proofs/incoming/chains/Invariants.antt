use Rattle.gsn.specs.Incoming.{IsIncoming, targets}
use Rattle.gsn.proofs.incoming.chains.Given as goal

abbrev pub invariant-relations : goal.invariant-relations
invariant-relations l = IsIncoming l.fn.nodes (targets l.relations) l.k l.last.items l.before.items
