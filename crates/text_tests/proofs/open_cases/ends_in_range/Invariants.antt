use Rattle.std.proofs.Common.{◌<◌, length, take}
use Rattle.std.specs.Prelude.{All}
use Rattle.text_tests.proofs.open_cases.ends_in_range.Given as goal

abbrev pub invariant-relations : goal.invariant-relations
invariant-relations l =
    All (λ r. (r.from < length l.case.nodes) × (r.to < length l.case.nodes)) (take l.relation-index l.relation-items)
