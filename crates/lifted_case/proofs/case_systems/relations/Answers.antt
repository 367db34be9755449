use Rattle.std.proofs.Common.{refl, arith}
use Rattle.meaning.specs.CaseBytes.{relation_data}
use Rattle.lifted_case.specs.CaseWritten.{id_in, relation_with}
use Rattle.lifted_case.proofs.Writing.{AreWritten-next-of}
use Rattle.lifted_case.proofs.case_systems.relations.Goals as goal

pub relations-preserved : goal.relations-preserved
relations-preserved c =
    AreWritten-next-of relation_data (relation_with (id_in c.args.ids.now)) c.args.relations.now c.relations.one-index _ c.relations.docs.items c.push.new.self.items c.in_ok-relation.field-0
    _ (omega arith) refl c.in_ok-push.ensures.items c.relations.invariant c.in_ok-relation.ensures
