use Rattle.std.proofs.Common.{sym, subst}
use Rattle.std.specs.List.{All}
use Rattle.lifted_case.specs.SmallNumbers.{TransitionIsNarrow}
use Rattle.lifted_case.proofs.SmallNumbers.{of_documents}
use Rattle.lifted_case.proofs.values.systems.system.Goals as goal

pub transitions-requires : goal.transitions-requires
transitions-requires c =
    of_documents TransitionIsNarrow c.list_at-3.result.now (subst (All TransitionIsNarrow) (sym c.list_at-3.ensures) c.requires)
