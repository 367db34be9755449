use Rattle.std.proofs.Common.{ap, ◌∙◌, arith}
use Rattle.serde_json.specs.Data.{string}
use Rattle.lifted_case.proofs.Writing.{AreWritten-next}
use Rattle.lifted_case.proofs.tables.texts.Goals as goal

pub words-preserved : goal.words-preserved
words-preserved c =
    AreWritten-next string c.args.words.now c.words.word-index c.word-item.result c.words.docs.items c.push.new.self.items c.in_ok-text.field-0 (string c.text.result.now)
    (omega arith) (ap string (c.text.ensures ∙ c.word-item.is)) c.in_ok-push.ensures.items c.words.invariant c.in_ok-text.ensures
