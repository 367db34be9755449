use Rattle.std.proofs.Common.{◌≡◌, true, false, arith, sym, ap, ◌∙◌}
use Rattle.node_pool.specs.Functions.{world_of}
use Rattle.node_pool.proofs.Values.{value-constant}
use Rattle.conditions.specs.Tables.{KeepsRules, nodes_of}
use Rattle.conditions.proofs.Tables.{IsRowOf, row_variable, row_child, row_step}
use Rattle.conditions.proofs.table.Table.at.Goals as goal
use Rattle.conditions.proofs.table.Table.at.Goals.{After-index}

row : (c : After-index) → IsRowOf c.args.self.now c.loop-id.id c.index.result.now
row c =
    let rules : KeepsRules c.args.self.now = rw (← c.self.view_is) c.self.invariant in
    record {
      rules = rules;
      inner = c.loop-id-test.true;
      there = c.loop-id.invariant.0;
      is = rw (← c.self.view_is) c.index.ensures;
    }

pub bounds-world-from : goal.bounds-world-from
bounds-world-from c = omega (arith, row_variable (row (goal.at.bounds-world-from c).After-index), c.from.ensures, c.requires.places)

pub loop-id-smaller-then-world-from : goal.loop-id-smaller-then-world-from
loop-id-smaller-then-world-from c = row_child true (row (goal.at.loop-id-smaller-then-world-from c).After-index)

pub loop-id-smaller : goal.loop-id-smaller
loop-id-smaller c = row_child false (row (goal.at.loop-id-smaller c).After-index)

pub loop-id-preserved-then-world-from : goal.loop-id-preserved-then-world-from
loop-id-preserved-then-world-from c =
    let here = row (goal.at.loop-id-preserved-then-world-from c).After-index in
    let at : world_of c.args.world.now c.index.result.now.0 ≡ true = ap (world_of c.args.world.now) (sym c.from.ensures) ∙ c.if-world-from.true in
    (omega (arith, row_child true here, c.loop-id.invariant.0), row_step (world_of c.args.world.now) true here at ∙ c.loop-id.invariant.1)

pub loop-id-preserved : goal.loop-id-preserved
loop-id-preserved c =
    let here = row (goal.at.loop-id-preserved c).After-index in
    let at : world_of c.args.world.now c.index.result.now.0 ≡ false = ap (world_of c.args.world.now) (sym c.from.ensures) ∙ c.if-world-from.false in
    (omega (arith, row_child false here, c.loop-id.invariant.0), row_step (world_of c.args.world.now) false here at ∙ c.loop-id.invariant.1)

pub returns : goal.returns
returns c = sym (value-constant (nodes_of c.args.self.now.rows) c.loop-id.id (world_of c.args.world.now) (omega (arith, c.loop-id-test.false))) ∙ c.loop-id.invariant.1
