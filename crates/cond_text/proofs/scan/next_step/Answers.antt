use Rattle.std.proofs.Common.{sym, subst, arith}
use Rattle.cond_text.specs.Scans.{next_of, StopsAt}
use Rattle.cond_text.proofs.ScanLaws.{unknown_stops}
use Rattle.cond_text.proofs.scan.next_step.Goals as goal

pub returns-in-Unknown : goal.returns-in-Unknown
returns-in-Unknown c = record {
  step = tt;
  fault = subst (StopsAt c.args.names.now c.args.text.now c.args.at c.args.count (next_of c.args.next)) (sym c.unknown.ensures)
      (unknown_stops c.args.names.now c.args.text.now c.args.at c.args.count (next_of c.args.next) (omega arith) c.in-Unknown.ensures);
}
