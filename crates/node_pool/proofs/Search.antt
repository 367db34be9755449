-- The way of a search along a chain.
use Rattle.std.proofs.Common.{eqb, ◌&&◌, true, false, ◌≡◌, ◌≢◌, ℕ, ◌+◌, ◌-◌, ◌<◌, ◌≤◌, List, length, slice_index, arith, subst, sym, ap, ◌∙◌, ⊎_elim}
use Rattle.std.proofs.lemmas.Bool.{cases_lt, false≢true}
use Rattle.std.proofs.lemmas.Bool.Decides.{nat_tests}
use Rattle.node_pool.specs.declared.node.Node.{Node}
use Rattle.node_pool.specs.Nodes.{node_at}
use Rattle.node_pool.specs.Chains.{slot_of, HasChains}

-- a search for a triple has come to a link of its slot's chain
pub record IsSearched (mask : ℕ) (nodes : List Node) (node : Node) (link : ℕ) : Type 0 where
  pub link_in : link ≤ length nodes
  pub in_slot : 0 < link → slot_of mask (node_at nodes (link - 1)) ≡ slot_of mask node
  pub passed : (k : ℕ) → k < length nodes → link ≤ k → node_at nodes k ≢ node

pub IsSearched-start : (mask : ℕ) (nodes : List Node) (heads next : List ℕ) (node : Node) → HasChains mask nodes heads next → slot_of mask node ≤ mask → IsSearched mask nodes node (slice_index heads (slot_of mask node))
IsSearched-start mask nodes heads next node chains within = record {
  link_in = chains.head_in _ within;
  in_slot = chains.head_slot _ within;
  passed = λ k k_in later same.
      let last : k + 1 ≤ slice_index heads (slot_of mask (node_at nodes k)) = chains.head_last k k_in in
      let here : k + 1 ≤ slice_index heads (slot_of mask node) = subst (λ (n : Node). k + 1 ≤ slice_index heads (slot_of mask n)) same last in
      omega arith;
}

pub IsSearched-step : (mask : ℕ) (nodes : List Node) (heads next : List ℕ) (node : Node) (link : ℕ) → HasChains mask nodes heads next → 0 < link → IsSearched mask nodes node link → node_at nodes (link - 1) ≢ node → IsSearched mask nodes node (slice_index next (link - 1))
IsSearched-step mask nodes heads next node link chains more before other =
    let link_in : link ≤ length nodes = before.link_in in
    let place_in : link - 1 < length nodes = omega arith in
    let falls : slice_index next (link - 1) ≤ link - 1 = chains.next_in _ place_in in
    record {
      link_in = omega arith;
      in_slot = λ later. chains.next_slot _ place_in later ∙ before.in_slot more;
      passed = λ k k_in later same.
          let slots_same : slot_of mask (node_at nodes k) ≡ slot_of mask (node_at nodes (link - 1)) = ap (slot_of mask) same ∙ sym (before.in_slot more) in
          ⊎_elim
          (λ (less : k < link - 1).
          let last : k + 1 ≤ slice_index next (link - 1) = chains.next_last k (link - 1) less place_in slots_same in omega arith)
          (λ (not_less : link - 1 ≤ k). ⊎_elim
          (λ (less : k < link). let at_link : k ≡ link - 1 = omega arith in other (subst (λ (j : ℕ). node_at nodes j ≡ node) at_link same))
          (λ (past : link ≤ k). before.passed k k_in past same)
          (cases_lt k link))
          (cases_lt k (link - 1));
    }

-- the test of two triples, as the derived `==` computes it
pub differ_by_test : (a b : Node) → eqb a.var b.var && (eqb a.low.0 b.low.0 && eqb a.high.0 b.high.0) ≡ false → a ≢ b
differ_by_test a b test same =
    let again : eqb b.var b.var && (eqb b.low.0 b.low.0 && eqb b.high.0 b.high.0) ≡ false = subst (λ (n : Node). eqb n.var b.var && (eqb n.low.0 b.low.0 && eqb n.high.0 b.high.0) ≡ false) same test in
    let holds : eqb b.var b.var && (eqb b.low.0 b.low.0 && eqb b.high.0 b.high.0) ≡ true = grind (arith, nat_tests) in
    false≢true (sym again ∙ holds)
