use Rattle.std.proofs.Common.{sym, subst}
use Rattle.std.specs.List.{All}
use Rattle.lifted_case.specs.SmallNumbers.{TargetIsNarrow}
use Rattle.lifted_case.proofs.SmallNumbers.{of_documents}
use Rattle.lifted_case.proofs.values.nodes.finding.Goals as goal

pub targets-requires : goal.targets-requires
targets-requires c =
    of_documents TargetIsNarrow c.list_at.result.now (subst (All TargetIsNarrow) (sym c.list_at.ensures) c.requires.targets)
