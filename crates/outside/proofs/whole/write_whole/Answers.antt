use Rattle.std.proofs.Common.{arith, ◌∙◌, ap, take, drop}
use Rattle.std.proofs.lemmas.Grind.{common_steps}
use Rattle.std.proofs.lemmas.List.{take_rest}
use Rattle.meaning.specs.Counts.{appended}
use Rattle.outside.proofs.Laws.{appended-take}
use Rattle.outside.proofs.whole.write_whole.Goals as goal

pub pieces-preserved : goal.pieces-preserved
pieces-preserved g c =
    let d = c.pieces.done in
    let n = c.in_ok-done.field-0 in
    let bytes = c.args.bytes.now in
    record {
      within = grind (arith, common_steps, c.in_ok-done.ensures.count);
      taken = (rw take_rest at c.in_ok-done.ensures.taken)
          ∙ ap (λ known. appended known (take n (drop d bytes))) c.pieces.invariant.taken
          ∙ appended-take (g.O.Sink.got c.args.sink.now) bytes d n;
      no_fewer_faults = omega (arith, c.in_ok-done.ensures.no_fewer_faults);
    }
