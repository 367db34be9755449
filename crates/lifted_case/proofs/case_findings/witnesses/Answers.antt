use Rattle.std.proofs.Common.{ap, arith}
use Rattle.meaning.specs.CaseBytes.{witness_data}
use Rattle.lifted_case.specs.CaseWritten.{id_in, witness_with}
use Rattle.lifted_case.proofs.Writing.{AreWritten-next-of}
use Rattle.lifted_case.proofs.case_findings.witnesses.Goals as goal

pub witnesses-preserved : goal.witnesses-preserved
witnesses-preserved c =
    let ids = c.args.ids.now in
    AreWritten-next-of witness_data (witness_with (id_in ids)) c.args.witnesses.now c.witnesses.one-index c.one-item.result c.witnesses.docs.items c.push.new.self.items c.in_ok-witness.field-0
    (witness_data (witness_with (id_in ids) c.one-item.result)) (omega arith) (ap (λ x. witness_data (witness_with (id_in ids) x)) c.one-item.is) c.in_ok-push.ensures.items c.witnesses.invariant c.in_ok-witness.ensures
