use Rattle.std.proofs.Common.{◌≡◌, ◌<◌, length, ap, sym, ◌∙◌, arith}
use Rattle.node_pool.specs.Regions.{Region}
use Rattle.node_pool.specs.Functions.{world_of}
use Rattle.node_pool.proofs.Values.{value-constant}
use Rattle.conditions.specs.Store.{region_in}
use Rattle.conditions.proofs.store.Store.at.Goals as goal

pub returns-in-None : goal.returns-in-None
returns-in-None c =
    let none : length c.args.self.now.nodes ≡ 0 = sym (ap (λ (r : Region). length r.nodes) (ap region_in (sym c.in-None.is) ∙ c.self.view_is)) in
    let small : c.args.number.0 < 2 = omega (arith, c.requires.there) in
    c.eq.ensures ∙ sym (value-constant c.args.self.now.nodes c.args.number.0 (world_of c.args.world.now) small)
