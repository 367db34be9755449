use Rattle.std.proofs.Common.{◌≡◌, ◌∙◌, ap, subst, [], ◌∷◌, ◌++◌, ◌≤◌, length, arith}
use Rattle.std.specs.Bool.{OnTrue, OnFalse}
use Rattle.worlds.specs.Algebra.{HoldsNowhere}
use Rattle.path_queries.specs.Answering.{Somewhere}
use Rattle.path_queries.proofs.Finding.{adds_no_row, adds_row, no_room}
use Rattle.path_queries.proofs.answering.tuples.add.Goals as goal

pub returns-then-not-holds_somewhere-clause-added : goal.returns-then-not-holds_somewhere-clause-added
returns-then-not-holds_somewhere-clause-added g c =
    let after = g.W.Worlds.algebra c.meets_all.new.w in
    let never = subst (λ b. OnFalse b (HoldsNowhere after c.in_ok-here.here)) c.if-not-holds_somewhere.true c.holds_somewhere.ensures.nowhere in
    adds_no_row (g.W.Worlds.algebra c.args.w.now) c.args.search.now c.args.given.now c.args.under c.requires.last c.in_ok-here.ensures.made c.args.rows.now.items never

pub returns-then-len-most-clause-stops : goal.returns-then-len-most-clause-stops
returns-then-len-most-clause-stops g c =
    let after = g.W.Worlds.algebra c.meets_all.new.w in
    let some = subst (λ b. OnTrue b (Somewhere after c.in_ok-here.here)) c.if-not-holds_somewhere.false c.holds_somewhere.ensures.somewhere in
    let full : c.args.most ≤ length c.args.rows.now.items = omega (arith, c.if-len-most.true, c.len.ensures) in
    no_room (g.W.Worlds.algebra c.args.w.now) c.args.search.now c.args.given.now c.args.under c.requires.last c.in_ok-here.ensures.made c.args.rows.now.items c.args.most some full

pub returns-clause-added : goal.returns-clause-added
returns-clause-added g c =
    let after = g.W.Worlds.algebra c.meets_all.new.w in
    let rows = c.args.rows.now.items in
    let some = subst (λ b. OnTrue b (Somewhere after c.in_ok-here.here)) c.if-not-holds_somewhere.false c.holds_somewhere.ensures.somewhere in
    let is = c.in_ok-push.ensures.items ∙ ap (λ t. rows ++ (t, c.in_ok-here.here) ∷ []) (c.of.ensures ∙ c.in_ok-tuple.ensures.items) in
    adds_row (g.W.Worlds.algebra c.args.w.now) c.args.search.now c.args.given.now c.args.under c.requires.last c.in_ok-here.ensures.made rows c.push.new.self.items some is
