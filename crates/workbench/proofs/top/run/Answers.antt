use Rattle.std.proofs.Common.{refl, map, string_bytes}
use Rattle.workbench.specs.Limits.{diagrams_of}
use Rattle.workbench.specs.Run.{outside_of}
use Rattle.workbench.proofs.TopCauses.{refused_promise}
use Rattle.workbench.proofs.top.run.Goals as goal

pub returns-in-Err-clause-promise : goal.returns-in-Err-clause-promise
returns-in-Err-clause-promise g c =
    let words = map string_bytes c.args.words.now in
    let before = outside_of (g.F.Shelf.holds c.args.shelf.now) (g.F.Shelf.faults c.args.shelf.now) (g.F.Shelf.next c.args.shelf.now) (g.F.Shelf.given c.args.shelf.now)
    (g.O.Sink.got c.args.out.now) (g.O.Sink.faults c.args.out.now) (g.E.Sink.got c.args.err.now) (g.E.Sink.faults c.args.err.now) in
    let after = outside_of (g.F.Shelf.holds c.answer.new.shelf) (g.F.Shelf.faults c.answer.new.shelf) (g.F.Shelf.next c.answer.new.shelf) (g.F.Shelf.given c.answer.new.shelf)
    (g.O.Sink.got c.args.out.now) (g.O.Sink.faults c.args.out.now) (g.E.Sink.got c.refuse.new.err) (g.E.Sink.faults c.refuse.new.err) in
    refused_promise words before after (diagrams_of c.args.d.now) (diagrams_of c.answer.new.d) c.in-Err.status c.refuse.result c.in-Err.ensures.stopped
    c.refuse.ensures.same refl c.refuse.ensures.said
