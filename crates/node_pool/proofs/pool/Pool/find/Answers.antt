use Rattle.std.proofs.Common.{◌≡◌, ◌≢◌, ◌-◌, ◌<◌, length, slice_index, arith, sym, ◌∙◌}
use Rattle.std.proofs.lemmas.List.{get_or_read}
use Rattle.node_pool.specs.Nodes.{node_at, no_node}
use Rattle.node_pool.proofs.Search.{IsSearched, IsSearched-step, differ_by_test}
use Rattle.node_pool.proofs.pool.Pool.find.Goals as goal

pub loop-link-preserved : goal.loop-link-preserved
loop-link-preserved c =
    let s = c.self.inside in
    let nodes_are : c.self.inside.nodes.items ≡ c.args.self.now.nodes = cc in
    let searched : IsSearched s.mask s.nodes.items c.args.node c.loop-link.link = rw nodes_are c.loop-link.invariant in
    let place_in : c.loop-link.link - 1 < length s.nodes.items = omega (arith, searched.link_in) in
    let next_in : c.loop-link.link - 1 < length s.next.items = omega (arith, c.self.invariant.same_length) in
    let read = get_or_read s.nodes.items _ _ place_in c.index.ensures no_node in
    let followed = get_or_read s.next.items _ _ next_in c.index-link-in-loop-link.ensures 0 in
    let other : node_at s.nodes.items (c.loop-link.link - 1) ≢ c.args.node = λ same. differ_by_test _ _ (sym c.eq.ensures ∙ c.if-eq.false) (read ∙ same) in
    let stepped : IsSearched s.mask s.nodes.items c.args.node (slice_index s.next.items (c.loop-link.link - 1)) = IsSearched-step s.mask s.nodes.items s.heads.items s.next.items c.args.node c.loop-link.link c.self.invariant.chains (omega arith) searched other in
    rw (← nodes_are, followed) stepped
