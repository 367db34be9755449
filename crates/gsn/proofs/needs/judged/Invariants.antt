use Rattle.std.proofs.Common.{◌≡◌, map, take}
use Rattle.meaning.specs.Cases as plain
use Rattle.gsn.specs.View.{node_of}
use Rattle.gsn.proofs.needs.judged.Given as goal

abbrev pub invariant-nodes : goal.invariant-nodes
invariant-nodes l = l.marks.items ≡ map (λ n. plain.is_judged l.verdict (node_of n)) (take l.node-index l.nodes)
