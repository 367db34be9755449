use Rattle.std.proofs.Common.{[], ◌∷◌}
use Rattle.lifted_case.proofs.CaseMembers.{AreWritten-three}
use Rattle.lifted_case.proofs.case_members.triple.Goals as goal

pub returns : goal.returns
returns c = λ u v w p q r. c.list.ensures (u ∷ v ∷ w ∷ []) (AreWritten-three _ c.args.first c.args.second c.args.third u v w c.in_ok-docs.ensures.items p q r)
