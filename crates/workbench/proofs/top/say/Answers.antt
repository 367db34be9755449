use Rattle.std.proofs.Common.{ap, ◌∙◌}
use Rattle.meaning.specs.Counts.{appended}
use Rattle.workbench.proofs.TopCauses.{said_whole}
use Rattle.workbench.proofs.top.say.Goals as goal

pub returns-in-Ok-clause-said : goal.returns-in-Ok-clause-said
returns-in-Ok-clause-said g c =
    said_whole (g.E.Sink.got c.args.err.now) (g.E.Sink.got c.write_whole.new.sink) (g.E.Sink.faults c.args.err.now) (g.E.Sink.faults c.write_whole.new.sink)
    c.args.line.now (c.in-Ok.ensures.taken ∙ ap (appended (g.E.Sink.got c.args.err.now)) c.as_bytes.ensures.value)
