use Rattle.std.proofs.Common.{sym, ◌∙◌}
use Rattle.std.proofs.lemmas.Bool.{eqb-true}
use Rattle.node_pool.specs.Nodes.{IsReduced}
use Rattle.conditions.proofs.Laws.{never_nowhere, nowhere_never, equal_test}
use Rattle.conditions.proofs.diagrams.DiagramsWorlds.is_never.Goals as goal

pub returns : goal.returns
returns c =
    let s = c.args.self.now in
    let reduced : IsReduced s.region.vars s.region.nodes = rw (← c.self.view_is) c.self.invariant.region.reduced in (
      λ holds. never_nowhere s c.args.a (eqb-true c.args.a.0 0 (sym c.eq.ensures ∙ holds)),
      λ nowhere. c.eq.ensures ∙ equal_test c.args.a.0 0 (nowhere_never s c.args.a reduced c.requires nowhere),
    )
