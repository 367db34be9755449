use Rattle.std.proofs.Common.{ap, arith}
use Rattle.meaning.specs.CaseBytes.{transition_data}
use Rattle.lifted_case.proofs.Writing.{AreWritten-next}
use Rattle.lifted_case.proofs.case_systems.transitions.Goals as goal

pub transitions-preserved : goal.transitions-preserved
transitions-preserved c =
    AreWritten-next transition_data c.args.transitions.now c.transitions.one-index c.one-item.result c.transitions.docs.items c.push.new.self.items c.in_ok-transition.field-0
    (transition_data c.one-item.result) (omega arith) (ap transition_data c.one-item.is) c.in_ok-push.ensures.items c.transitions.invariant c.in_ok-transition.ensures
