-- Reduced lists, and how they grow.
use Rattle.std.proofs.Common.{◌≡◌, ◌≢◌, ℕ, ◌+◌, ◌-◌, ◌<◌, ◌≤◌, List, [], ◌∷◌, ◌++◌, length, arith, subst, sym, ap, ◌∙◌, ⊎_elim, refl, length-append}
use Rattle.std.proofs.Math.ListN.{get_or-append}
use Rattle.std.proofs.Math.Seq.{get_or-append_seam}
use Rattle.std.proofs.lemmas.Bool.{cases_lt}
use Rattle.std.proofs.lemmas.Bool.Decides.{nat_tests}
use Rattle.node_pool.specs.declared.node.Node.{Node}
use Rattle.node_pool.specs.Nodes.{node_at, no_node, top_of, MayStand, IsReduced, Extends}

-- where the constants and the nodes branch
pub top_of-constant : (vars : ℕ) (nodes : List Node) (n : ℕ) → n < 2 → top_of vars nodes n ≡ vars
unfolding top_of
top_of-constant vars nodes n small = grind (arith, nat_tests)

pub top_of-inner : (vars : ℕ) (nodes : List Node) (n : ℕ) → 2 ≤ n → top_of vars nodes n ≡ (node_at nodes (n - 2)).var
unfolding top_of
top_of-inner vars nodes n inner = grind (arith, nat_tests)

pub Extends-refl : (nodes : List Node) → Extends nodes nodes
Extends-refl nodes = record { no_shorter = omega arith; kept = λ k k_in. refl }

pub Extends-trans : (a b c : List Node) → Extends a b → Extends b c → Extends a c
Extends-trans a b c ab bc = record {
  no_shorter = omega (arith, ab.no_shorter, bc.no_shorter);
  kept = λ k k_in. let k_mid : k < length b = omega (arith, ab.no_shorter) in bc.kept k k_mid ∙ ab.kept k k_in;
}

pub Extends-push : (nodes : List Node) (node : Node) → Extends nodes (nodes ++ node ∷ [])
Extends-push nodes node = record {
  no_shorter = omega (arith, length-append nodes (node ∷ []));
  kept = λ k k_in. get_or-append nodes (node ∷ []) no_node k k_in;
}

pub top_of-extends : (vars : ℕ) (old new : List Node) (n : ℕ) → Extends old new → n < length old + 2 → top_of vars new n ≡ top_of vars old n
top_of-extends vars old new n longer n_in =
    ⊎_elim
    (λ (small : n < 2). top_of-constant vars new n small ∙ sym (top_of-constant vars old n small))
    (λ (inner : 2 ≤ n).
    let place_in : n - 2 < length old = omega arith in
    top_of-inner vars new n inner ∙ ap (λ (m : Node). m.var) (longer.kept (n - 2) place_in) ∙ sym (top_of-inner vars old n inner))
    (cases_lt n 2)

pub MayStand-extends : (vars : ℕ) (old new : List Node) (node : Node) (k : ℕ) → Extends old new → k ≤ length old → MayStand vars old node k → MayStand vars new node k
MayStand-extends vars old new node k longer k_in stands =
    let low_in : node.low.0 < k + 2 = stands.low_in in
    let high_in : node.high.0 < k + 2 = stands.high_in in
    record {
      var_in = stands.var_in;
      low_in = low_in;
      high_in = high_in;
      low_after = rw (top_of-extends vars old new node.low.0 longer (omega arith)) stands.low_after;
      high_after = rw (top_of-extends vars old new node.high.0 longer (omega arith)) stands.high_after;
      children_differ = stands.children_differ;
    }

pub node_at-pushed : (nodes : List Node) (node : Node) → node_at (nodes ++ node ∷ []) (length nodes) ≡ node
node_at-pushed nodes node = get_or-append_seam nodes node [] no_node

-- a node that may stand at the end and stands nowhere keeps the region reduced
pub IsReduced-push : (vars : ℕ) (nodes : List Node) (node : Node) → IsReduced vars nodes → MayStand vars nodes node (length nodes) → ((k : ℕ) → k < length nodes → node_at nodes k ≢ node) → IsReduced vars (nodes ++ node ∷ [])
IsReduced-push vars nodes node reduced stands absent =
    let longer : Extends nodes (nodes ++ node ∷ []) = Extends-push nodes node in
    let one_more : length (nodes ++ node ∷ []) ≡ length nodes + 1 = omega (arith, length-append nodes (node ∷ [])) in
    record {
      stands = λ k k_in.
          ⊎_elim
          (λ (old : k < length nodes).
          let P : Node → Type 0 = λ m. MayStand vars (nodes ++ node ∷ []) m k in
          subst P (sym (longer.kept k old)) (MayStand-extends vars nodes (nodes ++ node ∷ []) (node_at nodes k) k longer (omega arith) (reduced.stands k old)))
          (λ (last : length nodes ≤ k).
          let at_end : length nodes ≡ k = omega arith in
          let P : ℕ → Type 0 = λ j. MayStand vars (nodes ++ node ∷ []) (node_at (nodes ++ node ∷ []) j) j in
          let Q : Node → Type 0 = λ m. MayStand vars (nodes ++ node ∷ []) m (length nodes) in
          subst P at_end (subst Q (sym (node_at-pushed nodes node)) (MayStand-extends vars nodes (nodes ++ node ∷ []) node (length nodes) longer (omega arith) stands)))
          (cases_lt k (length nodes));
      once = λ j k less k_in same.
          ⊎_elim
          (λ (old : k < length nodes).
          reduced.once j k less old (sym (longer.kept j (omega arith)) ∙ same ∙ longer.kept k old))
          (λ (last : length nodes ≤ k).
          let at_end : k ≡ length nodes = omega arith in
          let j_in : j < length nodes = omega arith in
          absent j j_in (sym (longer.kept j j_in) ∙ same ∙ ap (node_at (nodes ++ node ∷ [])) at_end ∙ node_at-pushed nodes node))
          (cases_lt k (length nodes));
    }
