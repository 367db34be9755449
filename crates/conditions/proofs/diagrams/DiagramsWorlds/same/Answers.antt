use Rattle.std.proofs.Common.{ℕ, sym, ap, ◌∙◌}
use Rattle.std.proofs.lemmas.Bool.{eqb-true}
use Rattle.node_pool.specs.Nodes.{value, IsReduced}
use Rattle.node_pool.specs.Functions.{world_of}
use Rattle.conditions.proofs.Laws.{alike_same, equal_test}
use Rattle.conditions.proofs.diagrams.DiagramsWorlds.same.Goals as goal

pub returns : goal.returns
returns c =
    let s = c.args.self.now in
    let reduced : IsReduced s.region.vars s.region.nodes = rw (← c.self.view_is) c.self.invariant.region.reduced in (
      λ holds x inside. ap (λ (n : ℕ). value s.region.nodes n (world_of x)) (eqb-true c.args.a.0 c.args.b.0 (sym c.eq.ensures ∙ holds)),
      λ alike. c.eq.ensures ∙ equal_test c.args.a.0 c.args.b.0 (alike_same s c.args.a c.args.b reduced c.requires.a_live c.requires.b_live alike),
    )
