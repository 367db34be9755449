use Rattle.std.proofs.Common.{◌≡◌, ℕ, true, eqb, sym, ap, ◌∙◌, arith}
use Rattle.std.proofs.lemmas.Bool.Decides.{nat_tests}
use Rattle.std.proofs.lemmas.Bool.{eqb-true}
use Rattle.node_pool.specs.Nodes.{value, IsReduced}
use Rattle.node_pool.specs.Functions.{world_of}
use Rattle.node_pool.proofs.Canonical.{canonical, canonical_over_lists}
use Rattle.node_pool.proofs.pool.Pool.same.Goals as goal

-- a test that tells numbers apart
eqb_same : (a b : ℕ) → a ≡ b → eqb a b ≡ true
eqb_same a b e = grind (arith, nat_tests)

pub returns-clause-functions : goal.returns-clause-functions
returns-clause-functions c =
    let r = c.args.self.now in
    let reduced : IsReduced r.vars r.nodes = rw (← c.self.view_is) c.self.invariant.reduced in (
      λ holds world. ap (λ (n : ℕ). value r.nodes n world) (eqb-true c.args.left.0 c.args.right.0 (sym c.eq.ensures ∙ holds)),
      λ agree. c.eq.ensures ∙ eqb_same c.args.left.0 c.args.right.0 (canonical r.vars r.nodes c.args.left.0 c.args.right.0 reduced c.requires.left c.requires.right agree),
    )

pub returns-clause-worlds : goal.returns-clause-worlds
returns-clause-worlds c =
    let r = c.args.self.now in
    let reduced : IsReduced r.vars r.nodes = rw (← c.self.view_is) c.self.invariant.reduced in (
      λ holds truths len. ap (λ (n : ℕ). value r.nodes n (world_of truths)) (eqb-true c.args.left.0 c.args.right.0 (sym c.eq.ensures ∙ holds)),
      λ agree. c.eq.ensures ∙ eqb_same c.args.left.0 c.args.right.0 (canonical_over_lists r.vars r.nodes c.args.left.0 c.args.right.0 reduced c.requires.left c.requires.right agree),
    )
