use Rattle.std.proofs.Common.{ℕ, [], length, arith, sym, ap, ◌∙◌}
use Rattle.std.proofs.lemmas.List.{length-replicate}
use Rattle.node_pool.specs.Nodes.{IsReduced}
use Rattle.node_pool.proofs.ChainLemmas.{HasChains-empty}
use Rattle.node_pool.proofs.pool.Pool.new.Goals as goal

IsReduced-empty : (vars : ℕ) → IsReduced vars []
IsReduced-empty vars = record { stands = λ k k_in. absurd (omega arith); once = λ j k less k_in. absurd (omega arith) }

pub invariant_of-result : goal.invariant_of-result
invariant_of-result c =
    let nodes_are = c.in_ok-nodes.ensures.items in
    let next_are = c.in_ok-next.ensures.items in
    let heads_are = c.fill_with_zeros.ensures.items in
    record {
      few = c.requires.few;
      few_vars = c.requires.few_vars;
      within = omega (arith, ap length nodes_are);
      room = c.in_ok-nodes.ensures.capacity;
      next_room = c.in_ok-next.ensures.capacity;
      same_length = ap length next_are ∙ sym (ap length nodes_are);
      all_slots = ap length heads_are ∙ length-replicate _ 0;
      slots_within = c.first_mask-mask.ensures;
      slots_room = omega (arith, c.in_ok-heads.ensures.capacity, c.fill_with_zeros.ensures.capacity);
      reduced = rw nodes_are (IsReduced-empty _);
      chains = rw (nodes_are, next_are, heads_are) (HasChains-empty _);
    }
