use Rattle.std.proofs.Common.{◌≡◌, ℕ, ◌+◌, ◌<◌, ◌≤◌, ◌++◌, ◌∷◌, [], length, slice_index, slice_set, arith, refl, ap, ◌∙◌, length-append}
use Rattle.std.proofs.lemmas.List.{get_or_read}
use Rattle.std.proofs.Math.ListN.{length-set}
use Rattle.node_pool.specs.declared.node.Node.{Node}
use Rattle.node_pool.specs.Nodes.{MayStand, IsAbsent}
use Rattle.node_pool.specs.Chains.{slot_of}
use Rattle.node_pool.proofs.Reduced.{IsReduced-push}
use Rattle.node_pool.proofs.ChainLemmas.{HasChains-push}
use Rattle.node_pool.proofs.pool.Pool.link.Goals as goal

pub invariant_of-self : goal.invariant_of-self
invariant_of-self c =
    let s = c.self.inside in
    let sound = c.self.invariant in
    let node : Node = c.args.node in
    let nodes_are : c.args.self.now.nodes ≡ s.nodes.items = cc in
    let vars_are : c.args.self.now.vars ≡ s.vars = cc in
    let stands : MayStand s.vars s.nodes.items node (length s.nodes.items) = rw (← nodes_are, ← vars_are) c.requires.stands in
    let absent : IsAbsent s.nodes.items node = rw (← nodes_are) c.requires.absent in
    let slot_is : c.slot-slot.result ≡ slot_of s.mask node = c.slot-slot.ensures.value in
    let slot_in : slot_of s.mask node ≤ s.mask = omega (arith, c.slot-slot.ensures.within) in
    let head_is : c.index-head.result.now ≡ slice_index s.heads.items (slot_of s.mask node) =
    get_or_read s.heads.items _ _ (omega (arith, sound.all_slots)) c.index-head.ensures 0 ∙ ap (λ (j : ℕ). slice_index s.heads.items j) slot_is in
    let nodes_new : c.append-2.new.items.items ≡ s.nodes.items ++ node ∷ [] = c.append-2.ensures.items in
    let next_new : c.append.new.items.items ≡ s.next.items ++ slice_index s.heads.items (slot_of s.mask node) ∷ [] = rw (← head_is) c.append.ensures.items in
    let len_is : c.len.result ≡ length s.nodes.items + 1 = omega (arith, ap length nodes_new, length-append s.nodes.items (node ∷ []), c.len.ensures) in
    let heads_new : slice_set s.heads.items c.slot-slot.result c.len.result ≡ slice_set s.heads.items (slot_of s.mask node) (length s.nodes.items + 1) = rw (slot_is, len_is) refl in
    let chains = HasChains-push s.mask s.nodes.items s.heads.items s.next.items node sound.chains sound.all_slots sound.same_length slot_in in
    let limit_is : c.args.self.now.limit ≡ s.limit = cc in
    let room : length s.nodes.items < s.limit = omega (arith, c.requires.room, ap length nodes_are) in
    record {
      few = sound.few;
      few_vars = sound.few_vars;
      within = omega (arith, ap length nodes_new, length-append s.nodes.items (node ∷ []));
      room = omega (arith, sound.room, c.append-2.ensures.capacity);
      next_room = omega (arith, sound.next_room, c.append.ensures.capacity);
      same_length = omega (arith, ap length nodes_new, ap length next_new, length-append s.nodes.items (node ∷ []), length-append s.next.items (slice_index s.heads.items (slot_of s.mask node) ∷ []), sound.same_length);
      all_slots = length-set s.heads.items c.slot-slot.result c.len.result ∙ sound.all_slots;
      slots_within = sound.slots_within;
      slots_room = sound.slots_room;
      reduced = rw nodes_new (IsReduced-push s.vars s.nodes.items node sound.reduced stands absent);
      chains = rw (nodes_new, next_new, heads_new) chains;
    }
