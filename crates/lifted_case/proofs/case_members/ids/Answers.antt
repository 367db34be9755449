use Rattle.std.proofs.Common.{ap, arith}
use Rattle.meaning.specs.CaseBytes.{natural_data}
use Rattle.lifted_case.specs.CaseWritten.{id_in}
use Rattle.lifted_case.proofs.Writing.{AreWritten-next-of}
use Rattle.lifted_case.proofs.case_members.ids.Goals as goal

pub conditions-preserved : goal.conditions-preserved
conditions-preserved c =
    AreWritten-next-of natural_data (id_in c.args.ids.now) c.args.conditions.now c.conditions.condition-index _ c.conditions.docs.items c.push.new.self.items c.number.result
    (natural_data c.id.result) (omega arith) (ap natural_data c.id.ensures) c.in_ok-push.ensures.items c.conditions.invariant c.number.ensures
