use Rattle.std.proofs.Common.{[], ap, sym, arith}
use Rattle.std.proofs.lemmas.Option.{get_or_from_slice_get}
use Rattle.serde_json.specs.Data.{string}
use Rattle.lifted_case.proofs.Writing.{AreWritten-next}
use Rattle.lifted_case.proofs.case_members.names.Goals as goal

pub names-preserved : goal.names-preserved
names-preserved c =
    AreWritten-next string c.args.names.now c.names.no [] c.names.docs.items c.push.new.self.items c.in_ok-text.field-0 (string c.name.result.now)
    (omega (arith, c.count-no-end.ensures.count)) (ap string (sym (get_or_from_slice_get c.args.names.now c.names.no c.name.result.now [] c.name.ensures.name)))
    c.in_ok-push.ensures.items c.names.invariant c.in_ok-text.ensures
