use Rattle.std.proofs.Common.{◌≡◌, ◌+◌, ◌<◌, false, eqb, length, arith, sym, ap, subst, ◌∷◌, [], length-append}
use Rattle.node_pool.specs.declared.node.Node.{Node}
use Rattle.node_pool.specs.declared.node.NodeNo.{NodeNo}
use Rattle.node_pool.specs.Nodes.{triple, top_of, MayStand, IsReduced}
use Rattle.node_pool.specs.Regions.{Region}
use Rattle.node_pool.specs.Made.{Makes, Grows}
use Rattle.node_pool.proofs.MakeLemmas.{Makes-found, Makes-pushed, Grows-pushed, Lacks-absent, differ_by_number, pushed}
use Rattle.node_pool.proofs.pool.Pool.make.Goals as goal

-- what is asked of a new triple
may_stand : (r : Region) (node : Node) → node.var < r.vars → node.low.0 < length r.nodes + 2 → node.high.0 < length r.nodes + 2 → node.var < top_of r.vars r.nodes node.low.0 → node.var < top_of r.vars r.nodes node.high.0 → false ≡ eqb node.low.0 node.high.0 → MayStand r.vars r.nodes node (length r.nodes)
may_stand r node var_in low_in high_in low_after high_after test = record {
  var_in = var_in;
  low_in = low_in;
  high_in = high_in;
  low_after = low_after;
  high_after = high_after;
  children_differ = differ_by_number _ _ test;
}

pub returns-in-Some-clause-ok : goal.returns-in-Some-clause-ok
returns-in-Some-clause-ok c =
    let r : Region = c.args.self.now in
    let reduced : IsReduced r.vars r.nodes = rw (← c.self.view_is) c.self.invariant.reduced in
    Makes-found r _ c.in-Some.number reduced c.in-Some.ensures

pub returns-then-used-limit-clause-lacks : goal.returns-then-used-limit-clause-lacks
returns-then-used-limit-clause-lacks c =
    let r : Region = c.args.self.now in
    let node : Node = triple c.args.var c.args.low c.args.high in
    let stands : MayStand r.vars r.nodes node (length r.nodes) = may_stand r node c.requires.var c.requires.low c.requires.high c.requires.low_after c.requires.high_after c.if-eq.ensures in
    Lacks-absent r node c.used.ensures.region.reduced stands c.in_default.ensures

pub returns-clause-ok : goal.returns-clause-ok
returns-clause-ok c =
    let r : Region = c.args.self.now in
    let node : Node = triple c.args.var c.args.low c.args.high in
    let answer : NodeNo = record { 0 = c.used-2.result + 1 } in
    let stands : MayStand r.vars r.nodes node (length r.nodes) = may_stand r node c.requires.var c.requires.low c.requires.high c.requires.low_after c.requires.high_after c.if-eq.ensures in
    let is : c.insert.new.self ≡ pushed r node = c.insert.ensures in
    let next : answer.0 ≡ length r.nodes + 2 = omega (arith, c.used-2.ensures.value, ap (λ (new : Region). length new.nodes) is, length-append r.nodes (node ∷ [])) in
    let P : Region → Type 0 = λ new. Makes r new node answer in
    subst P (sym is) (Makes-pushed r node answer c.used.ensures.region.reduced stands c.in_default.ensures next)

pub returns-clause-grows : goal.returns-clause-grows
returns-clause-grows c =
    let r : Region = c.args.self.now in
    let node : Node = triple c.args.var c.args.low c.args.high in
    let is : c.insert.new.self ≡ pushed r node = c.insert.ensures in
    let P : Region → Type 0 = λ new. Grows r new in
    subst P (sym is) (Grows-pushed r node c.used.ensures.region.reduced)
