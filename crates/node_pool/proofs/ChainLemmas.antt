-- A new node in the unique table.
use Rattle.std.proofs.Common.{◌≡◌, ◌≢◌, ℕ, ◌+◌, ◌-◌, ◌<◌, ◌≤◌, ◌⊎◌, List, [], ◌∷◌, ◌++◌, length, slice_index, slice_set, arith, sym, ap, ◌∙◌, ⊎_elim, length-append, get_or-set_same, get_or-set_other, replicate}
use Rattle.std.proofs.Math.ListN.{get_or-append}
use Rattle.std.proofs.lemmas.List.{get_or-replicate}
use Rattle.std.proofs.Math.Seq.{get_or-append_seam}
use Rattle.std.proofs.lemmas.Bool.{cases_lt, cases_eq}
use Rattle.node_pool.specs.declared.node.Node.{Node}
use Rattle.node_pool.specs.Nodes.{node_at, Extends}
use Rattle.node_pool.specs.Chains.{slot_of, HasChains}
use Rattle.node_pool.proofs.Reduced.{Extends-push, node_at-pushed}

-- no nodes in empty slots
pub HasChains-empty : (mask : ℕ) → HasChains mask [] (replicate (mask + 1) 0) []
HasChains-empty mask =
    let zero_at : (s : ℕ) → s ≤ mask → slice_index (replicate (mask + 1) 0) s ≡ 0 = λ s s_in. get_or-replicate (mask + 1) s 0 0 (omega arith) in
    record {
      head_in = λ s s_in. omega (arith, zero_at s s_in);
      head_slot = λ s s_in some. absurd (omega (arith, zero_at s s_in));
      head_last = λ k k_in. absurd (omega arith);
      next_in = λ k k_in. absurd (omega arith);
      next_slot = λ k k_in some. absurd (omega arith);
      next_last = λ j k less k_in same. absurd (omega arith);
    }

-- a new node goes to the head of its slot's chain
pub HasChains-push : (mask : ℕ) (nodes : List Node) (heads next : List ℕ) (node : Node) → HasChains mask nodes heads next → length heads ≡ mask + 1 → length next ≡ length nodes → slot_of mask node ≤ mask → HasChains mask (nodes ++ node ∷ []) (slice_set heads (slot_of mask node) (length nodes + 1)) (next ++ slice_index heads (slot_of mask node) ∷ [])
HasChains-push mask nodes heads next node chains heads_len next_len slot_in =
    let longer : Extends nodes (nodes ++ node ∷ []) = Extends-push nodes node in
    let more : List Node = nodes ++ node ∷ [] in
    let here : ℕ = slot_of mask node in
    let head : ℕ = slice_index heads here in
    let one_more : length (nodes ++ node ∷ []) ≡ length nodes + 1 = omega (arith, length-append nodes (node ∷ [])) in
    let here_in : here < length heads = omega arith in
    let head_in : head ≤ length nodes = chains.head_in here slot_in in
    let set_same : slice_index (slice_set heads here (length nodes + 1)) here ≡ length nodes + 1 = get_or-set_same heads here (length nodes + 1) 0 here_in in
    let set_other : (s : ℕ) → s ≢ here → slice_index (slice_set heads here (length nodes + 1)) s ≡ slice_index heads s = λ s ne. get_or-set_other heads here s (length nodes + 1) 0 ne in
    let next_old : (k : ℕ) → k < length nodes → slice_index (next ++ head ∷ []) k ≡ slice_index next k = λ k k_in. get_or-append next (head ∷ []) 0 k (omega arith) in
    let next_new : slice_index (next ++ head ∷ []) (length nodes) ≡ head = ap (λ (j : ℕ). slice_index (next ++ head ∷ []) j) (sym next_len) ∙ get_or-append_seam next head [] 0 in
    let slot_old : (k : ℕ) → k < length nodes → slot_of mask (node_at more k) ≡ slot_of mask (node_at nodes k) = λ k k_in. ap (slot_of mask) (longer.kept k k_in) in
    let slot_new : slot_of mask (node_at more (length nodes)) ≡ here = ap (slot_of mask) (node_at-pushed nodes node) in
    let H : ℕ → ℕ = λ s. slice_index (slice_set heads here (length nodes + 1)) s in
    let N : ℕ → ℕ = λ k. slice_index (next ++ head ∷ []) k in
    let S : ℕ → ℕ = λ k. slot_of mask (node_at more k) in
    let cases_here : (s : ℕ) → (s ≡ here) ⊎ (s ≢ here) = λ s. cases_eq s here in
    record {
      head_in = λ s s_in.
          ⊎_elim
          (λ (same : s ≡ here). let e : H s ≡ length nodes + 1 = ap H same ∙ set_same in omega arith)
          (λ (ne : s ≢ here). let e : H s ≡ slice_index heads s = set_other s ne in omega (arith, chains.head_in s s_in))
          (cases_here s);
      head_slot = λ s s_in some.
          ⊎_elim
          (λ (same : s ≡ here).
          let e : H s - 1 ≡ length nodes = omega (arith, ap H same ∙ set_same) in ap S e ∙ slot_new ∙ sym same)
          (λ (ne : s ≢ here).
          let e : H s ≡ slice_index heads s = set_other s ne in
          let some_old : 0 < slice_index heads s = omega arith in
          let place_in : slice_index heads s - 1 < length nodes = omega (arith, chains.head_in s s_in) in
          ap (λ (h : ℕ). S (h - 1)) e ∙ slot_old _ place_in ∙ chains.head_slot s s_in some_old)
          (cases_here s);
      head_last = λ k k_in.
          ⊎_elim
          (λ (old : k < length nodes).
          let slot_k : S k ≡ slot_of mask (node_at nodes k) = slot_old k old in
          let before : k + 1 ≤ slice_index heads (slot_of mask (node_at nodes k)) = chains.head_last k old in
          ⊎_elim
          (λ (same : S k ≡ here). let e : H (S k) ≡ length nodes + 1 = ap H same ∙ set_same in omega arith)
          (λ (ne : S k ≢ here).
          let e : H (S k) ≡ slice_index heads (slot_of mask (node_at nodes k)) = set_other (S k) ne ∙ ap (slice_index heads) slot_k in omega arith)
          (cases_here (S k)))
          (λ (last : length nodes ≤ k).
          let at_end : k ≡ length nodes = omega arith in
          let e : H (S k) ≡ length nodes + 1 = ap (λ (j : ℕ). H (S j)) at_end ∙ ap H slot_new ∙ set_same in omega arith)
          (cases_lt k (length nodes));
      next_in = λ k k_in.
          ⊎_elim
          (λ (old : k < length nodes). let e : N k ≡ slice_index next k = next_old k old in omega (arith, chains.next_in k old))
          (λ (last : length nodes ≤ k).
          let at_end : k ≡ length nodes = omega arith in
          let e : N k ≡ head = ap N at_end ∙ next_new in omega arith)
          (cases_lt k (length nodes));
      next_slot = λ k k_in some.
          ⊎_elim
          (λ (old : k < length nodes).
          let e : N k ≡ slice_index next k = next_old k old in
          let some_old : 0 < slice_index next k = omega arith in
          let place_in : slice_index next k - 1 < length nodes = omega (arith, chains.next_in k old) in
          ap (λ (h : ℕ). S (h - 1)) e ∙ slot_old _ place_in ∙ chains.next_slot k old some_old ∙ sym (slot_old k old))
          (λ (last : length nodes ≤ k).
          let at_end : k ≡ length nodes = omega arith in
          let e : N k ≡ head = ap N at_end ∙ next_new in
          let some_old : 0 < head = omega arith in
          let place_in : head - 1 < length nodes = omega arith in
          ap (λ (h : ℕ). S (h - 1)) e ∙ slot_old _ place_in ∙ chains.head_slot here slot_in some_old ∙ sym (ap S at_end ∙ slot_new))
          (cases_lt k (length nodes));
      next_last = λ j k less k_in same.
          ⊎_elim
          (λ (old : k < length nodes).
          let j_in : j < length nodes = omega arith in
          let e : N k ≡ slice_index next k = next_old k old in
          let before : j + 1 ≤ slice_index next k = chains.next_last j k less old (sym (slot_old j j_in) ∙ same ∙ slot_old k old) in
          omega arith)
          (λ (last : length nodes ≤ k).
          let at_end : k ≡ length nodes = omega arith in
          let j_in : j < length nodes = omega arith in
          let e : N k ≡ head = ap N at_end ∙ next_new in
          let slot_j : slot_of mask (node_at nodes j) ≡ here = sym (slot_old j j_in) ∙ same ∙ ap S at_end ∙ slot_new in
          let before : j + 1 ≤ slice_index heads (slot_of mask (node_at nodes j)) = chains.head_last j j_in in
          let moved : slice_index heads (slot_of mask (node_at nodes j)) ≡ head = ap (slice_index heads) slot_j in
          omega arith)
          (cases_lt k (length nodes));
    }
