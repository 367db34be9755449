use Rattle.std.proofs.Common.{◌≡◌, ℕ, ◌+◌, ◌-◌, ◌<◌, ◌≤◌, Bool, true, false, cond, List, length, arith, sym, ap, ◌∙◌}
use Rattle.meaning.specs.Cofactors.{World}
use Rattle.node_pool.specs.declared.node.Node.{Node}
use Rattle.node_pool.specs.Nodes.{value, node_at, triple, IsReduced}
use Rattle.node_pool.specs.Functions.{world_of}
use Rattle.node_pool.proofs.Values.{var_of, low_of, high_of, value-inner, value-constant, low_of-less, high_of-less}
use Rattle.conditions.proofs.applier.Applier.at.Goals as goal

-- one step of the walk
walk_step : (vars : ℕ) (nodes : List Node) (n : ℕ) (world : World) (node : Node) (b : Bool) → IsReduced vars nodes → 2 ≤ n → n < length nodes + 2 → node_at nodes (n - 2) ≡ node → world node.var ≡ b → (cond b node.high.0 node.low.0 < length nodes + 2) × (value nodes (cond b node.high.0 node.low.0) world ≡ value nodes n world)
walk_step vars nodes n world node true reduced inner n_in node_is at =
    let less : high_of nodes n < n = high_of-less vars nodes n reduced inner n_in in
    let truth : world (var_of nodes n) ≡ true = ap (λ (m : Node). world m.var) node_is ∙ at in
    let high : node.high.0 ≡ high_of nodes n = ap (λ (m : Node). m.high.0) (sym node_is) in
    (omega arith, ap (λ (k : ℕ). value nodes k world) high ∙ sym (value-inner vars nodes n world reduced inner n_in ∙ ap (λ (x : Bool). cond x (value nodes (high_of nodes n) world) (value nodes (low_of nodes n) world)) truth))
walk_step vars nodes n world node false reduced inner n_in node_is at =
    let less : low_of nodes n < n = low_of-less vars nodes n reduced inner n_in in
    let truth : world (var_of nodes n) ≡ false = ap (λ (m : Node). world m.var) node_is ∙ at in
    let low : node.low.0 ≡ low_of nodes n = ap (λ (m : Node). m.low.0) (sym node_is) in
    (omega arith, ap (λ (k : ℕ). value nodes k world) low ∙ sym (value-inner vars nodes n world reduced inner n_in ∙ ap (λ (x : Bool). cond x (value nodes (high_of nodes n) world) (value nodes (low_of nodes n) world)) truth))

pub loop-number-preserved-then-world-from : goal.loop-number-preserved-then-world-from
loop-number-preserved-then-world-from c =
    let r = c.args.self.now in
    let reduced : IsReduced r.vars r.nodes = rw (← c.self.view_is) c.self.invariant.region.reduced in
    let node : node_at r.nodes (c.loop-number.number.0 - 2) ≡ triple c.triple-var.result.0 c.triple-var.result.1 c.triple-var.result.2 = rw (← c.self.view_is) c.triple-var.ensures.triple in
    let at : world_of c.args.world.now c.triple-var.result.0 ≡ true = ap (world_of c.args.world.now) (sym c.from.ensures) ∙ c.if-world-from.true in
    let step = walk_step r.vars r.nodes c.loop-number.number.0 (world_of c.args.world.now) (triple c.triple-var.result.0 c.triple-var.result.1 c.triple-var.result.2) true reduced (omega arith) c.loop-number.invariant.0 node at in
    (step.0, step.1 ∙ c.loop-number.invariant.1)

pub loop-number-preserved : goal.loop-number-preserved
loop-number-preserved c =
    let r = c.args.self.now in
    let reduced : IsReduced r.vars r.nodes = rw (← c.self.view_is) c.self.invariant.region.reduced in
    let node : node_at r.nodes (c.loop-number.number.0 - 2) ≡ triple c.triple-var.result.0 c.triple-var.result.1 c.triple-var.result.2 = rw (← c.self.view_is) c.triple-var.ensures.triple in
    let at : world_of c.args.world.now c.triple-var.result.0 ≡ false = ap (world_of c.args.world.now) (sym c.from.ensures) ∙ c.if-world-from.false in
    let step = walk_step r.vars r.nodes c.loop-number.number.0 (world_of c.args.world.now) (triple c.triple-var.result.0 c.triple-var.result.1 c.triple-var.result.2) false reduced (omega arith) c.loop-number.invariant.0 node at in
    (step.0, step.1 ∙ c.loop-number.invariant.1)

pub returns : goal.returns
returns c = c.eq.ensures ∙ sym (value-constant c.args.self.now.nodes c.loop-number.number.0 (world_of c.args.world.now) c.loop-number-test.false) ∙ c.loop-number.invariant.1
