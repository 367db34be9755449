use Rattle.std.proofs.Common.{◌≡◌, arith, ap, ◌∙◌}
use Rattle.node_pool.specs.declared.node.Node.{Node}
use Rattle.node_pool.specs.Nodes.{top_of, IsReduced}
use Rattle.node_pool.proofs.Reduced.{top_of-constant, top_of-inner}
use Rattle.node_pool.proofs.Values.{var_of, low_of, high_of}
use Rattle.conditions.proofs.Splits.{IsNumberSplit-later, IsNumberSplit-here}
use Rattle.conditions.proofs.question.split.Goals as goal

pub returns-then-number-lt2 : goal.returns-then-number-lt2
returns-then-number-lt2 c =
    let r = c.args.pool.now in
    let reduced : IsReduced r.vars r.nodes = c.used-used.ensures.region.reduced in
    IsNumberSplit-later r.vars r.nodes c.args.number.0 c.args.var reduced c.requires.there (omega (arith, top_of-constant r.vars r.nodes c.args.number.0 c.if-number-lt2.true))

pub returns-then-top-var : goal.returns-then-top-var
returns-then-top-var c =
    let r = c.args.pool.now in
    let reduced : IsReduced r.vars r.nodes = c.used-used.ensures.region.reduced in
    let node = c.triple-top.ensures.triple in
    let here : var_of r.nodes c.args.number.0 ≡ c.args.var = ap (λ (m : Node). m.var) node ∙ c.if-top-var.true in
    let low : low_of r.nodes c.args.number.0 ≡ c.triple-top.result.1.0 = ap (λ (m : Node). m.low.0) node in
    let high : high_of r.nodes c.args.number.0 ≡ c.triple-top.result.2.0 = ap (λ (m : Node). m.high.0) node in
    rw (← low, ← high) (IsNumberSplit-here r.vars r.nodes c.args.number.0 c.args.var reduced c.if-number-lt2.false c.requires.there here)

pub returns-else-top-var : goal.returns-else-top-var
returns-else-top-var c =
    let r = c.args.pool.now in
    let reduced : IsReduced r.vars r.nodes = c.used-used.ensures.region.reduced in
    let var_is : var_of r.nodes c.args.number.0 ≡ c.triple-top.result.0 = ap (λ (m : Node). m.var) c.triple-top.ensures.triple in
    let top_is : top_of r.vars r.nodes c.args.number.0 ≡ var_of r.nodes c.args.number.0 = top_of-inner r.vars r.nodes c.args.number.0 c.if-number-lt2.false in
    IsNumberSplit-later r.vars r.nodes c.args.number.0 c.args.var reduced c.requires.there (omega (arith, c.requires.not_after, c.if-top-var.false))
