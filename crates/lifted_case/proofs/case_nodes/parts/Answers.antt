use Rattle.std.proofs.Common.{ap, arith}
use Rattle.meaning.specs.CaseBytes.{part_data}
use Rattle.lifted_case.specs.CaseView.{case_part_of}
use Rattle.lifted_case.proofs.Writing.{AreWritten-next-of}
use Rattle.lifted_case.proofs.case_nodes.parts.Goals as goal

pub parts-preserved : goal.parts-preserved
parts-preserved c =
    AreWritten-next-of part_data case_part_of c.args.parts.now c.parts.one-index c.one-item.result c.parts.docs.items c.push.new.self.items c.in_ok-part.field-0
    (part_data (case_part_of c.one-item.result)) (omega arith) (ap (λ x. part_data (case_part_of x)) c.one-item.is) c.in_ok-push.ensures.items c.parts.invariant c.in_ok-part.ensures
