use Rattle.std.proofs.Common.{◌≡◌, IfOk, subst}
use Rattle.meaning.specs.Cases as plain
use Rattle.gsn.specs.View.{case_of}
use Rattle.case_derive.proofs.Cuts.{cut_at_one}
use Rattle.case_derive.proofs.cutting.plain.Goals as goal

pub returns-clause-cut : goal.returns-clause-cut
returns-clause-cut c =
    subst (λ (k : plain.Case). IfOk c.at_world.result (λ x. case_of x ≡ k)) (cut_at_one c.args.case.now) c.at_world.ensures.cut
