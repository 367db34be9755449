use Rattle.std.proofs.Common.{◌≡◌, ◌≢◌, ◌<◌, length, sym, arith}
use Rattle.std.proofs.lemmas.Bool.{eqb-true}
use Rattle.node_pool.proofs.MakeLemmas.{differ_by_number}
use Rattle.conditions.proofs.Least.{way_high_written, way_low_written, way_end}
use Rattle.conditions.proofs.store.Store.least.Goals as goal
use Rattle.conditions.proofs.store.Store.least.Goals.{then-is_true, else-is_true}

pub loop-var-preserved : goal.loop-var-preserved
loop-var-preserved c =
    let r = c.args.self.now in
    let within : c.loop-var.var < length c.loop-var.out = omega (arith, c.loop-var-test.true, c.vars-var-end.ensures, c.requires.places, c.loop-var.auto.out) in
    elim c.if-is_true.branch [
      | then-is_true w ↦
          let none : c.split.result.0.0 ≡ 0 = eqb-true c.split.result.0.0 0 (sym (w.if-is_true.ensures)) in
          rw w.number-is (way_high_written r.vars r.nodes c.args.number.0 c.loop-var.number.0 c.loop-var.var c.split.result.0.0 c.split.result.1.0 c.from.result c.loop-var.out c.eq-is_true.result c.used-used.ensures.region.reduced c.loop-var.invariant c.split.ensures none c.from.ensures within w.if-is_true.true)
      | else-is_true w ↦
          let some : c.split.result.0.0 ≢ 0 = differ_by_number c.split.result.0.0 0 w.if-is_true.ensures in
          rw w.number-is (way_low_written r.vars r.nodes c.args.number.0 c.loop-var.number.0 c.loop-var.var c.split.result.0.0 c.split.result.1.0 c.from.result c.loop-var.out c.eq-is_true.result c.used-used.ensures.region.reduced c.loop-var.invariant c.split.ensures some c.from.ensures within w.if-is_true.false)
    ]

pub returns : goal.returns
returns c =
    let r = c.args.self.now in
    let long : length c.loop-var.out ≡ r.vars = omega (arith, c.requires.places, c.loop-var.auto.out) in
    way_end r c.args.number.0 c.loop-var.number.0 c.loop-var.out c.loop-var.var c.used-used.ensures.region.reduced long (omega (arith, c.loop-var-test.false, c.vars-var-end.ensures)) (omega (arith, c.loop-var.auto.var-end, c.vars-var-end.ensures)) c.loop-var.invariant
