use Rattle.std.proofs.Common.{ap, arith}
use Rattle.meaning.specs.CaseBytes.{system_data}
use Rattle.lifted_case.specs.CaseWritten.{id_in, system_with}
use Rattle.lifted_case.proofs.Writing.{AreWritten-next-of}
use Rattle.lifted_case.proofs.case_systems.systems.Goals as goal

pub systems-preserved : goal.systems-preserved
systems-preserved c =
    let ids = c.args.ids.now in
    AreWritten-next-of system_data (system_with (id_in ids)) c.args.systems.now c.systems.one-index c.one-item.result c.systems.docs.items c.push.new.self.items c.in_ok-system.field-0
    (system_data (system_with (id_in ids) c.one-item.result)) (omega arith) (ap (λ x. system_data (system_with (id_in ids) x)) c.one-item.is) c.in_ok-push.ensures.items c.systems.invariant c.in_ok-system.ensures
