use Rattle.std.proofs.Common.{◌≡◌, ◌++◌, map, take}
use Rattle.std.specs.Prelude.{codes}
use Rattle.meaning.specs.Texts.{flat, numbered}
use Rattle.meaning.specs.Cases as plain
use Rattle.gsn.specs.View.{case_of, node_of}
use Rattle.case_text.proofs.written.text.Given as goal

abbrev pub invariant-nodes : goal.invariant-nodes
invariant-nodes l =
    l.out.items ≡ plain.heading (codes "case") l.fn.title l.fn.features l.fn.world
    ++ flat (λ x. plain.node_text (case_of l.fn.case) (plain.statuses (case_of l.fn.case)) x.0 x.1) (numbered (take l.place (map node_of l.fn.case.nodes)))
