use Rattle.std.proofs.Common.{[], ◌∷◌}
use Rattle.lifted_case.proofs.CaseMembers.{AreWritten-two}
use Rattle.lifted_case.proofs.case_members.pair.Goals as goal

pub returns : goal.returns
returns c = λ v w p q. c.list.ensures (v ∷ w ∷ []) (AreWritten-two _ c.args.first c.args.second v w c.in_ok-docs.ensures.items p q)
