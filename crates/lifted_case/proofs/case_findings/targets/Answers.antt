use Rattle.std.proofs.Common.{refl, arith}
use Rattle.meaning.specs.CaseBytes.{target_data}
use Rattle.lifted_case.specs.CaseWritten.{id_in, target_with}
use Rattle.lifted_case.proofs.Writing.{AreWritten-next-of}
use Rattle.lifted_case.proofs.case_findings.targets.Goals as goal

pub targets-preserved : goal.targets-preserved
targets-preserved c =
    AreWritten-next-of target_data (target_with (id_in c.args.ids.now)) c.args.targets.now c.targets.one-index _ c.targets.docs.items c.push.new.self.items c.in_ok-target.field-0
    _ (omega arith) refl c.in_ok-push.ensures.items c.targets.invariant c.in_ok-target.ensures
