use Rattle.std.proofs.Common.{◌≡◌, map, take}
use Rattle.meaning.specs.Cases as plain
use Rattle.gsn.specs.View.{kind_of}
use Rattle.gsn.proofs.needs.arguing.Given as goal

abbrev pub invariant-nodes : goal.invariant-nodes
invariant-nodes l = l.marks.items ≡ map (λ n. plain.argues (kind_of n.kind)) (take l.node-index l.nodes)
