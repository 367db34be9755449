use Rattle.std.proofs.Common.{◌≡◌, map, take}
use Rattle.gsn.specs.Marks.{one_for}
use Rattle.gsn.proofs.needs.one_support.Given as goal

abbrev pub invariant-nodes : goal.invariant-nodes
invariant-nodes l = l.needed.items ≡ map one_for (take l.argues-index l.arguing)
