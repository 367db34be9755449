-- In a reduced list, two numbers with one function are one number.
use Rattle.std.proofs.Common.{◌≡◌, ℕ, zero, suc, ◌+◌, ◌-◌, ◌<◌, ◌≤◌, Bool, true, false, cond, eqb, List, [], ◌∷◌, ◌++◌, length, slice_index_or, arith, sym, ap, ◌∙◌, ⊎_elim, refl, length-append}
use Rattle.std.proofs.Math.ListN.{get_or-append}
use Rattle.std.proofs.Math.Seq.{get_or-append_seam}
use Rattle.std.proofs.lemmas.Bool.{cases_lt}
use Rattle.std.proofs.lemmas.Bool.Decides.{nat_tests}
use Rattle.node_pool.specs.declared.node.Node.{Node}
use Rattle.meaning.specs.Cofactors.{World, Agree}
use Rattle.node_pool.specs.Functions.{put, world_of, AgreeAtAll, branch}
use Rattle.node_pool.specs.Nodes.{node_at, top_of, value, MayStand, IsReduced, IsAbsent, Extends}
use Rattle.node_pool.proofs.Reduced.{top_of-constant, top_of-inner, IsReduced-push, node_at-pushed, Extends-push}
use Rattle.node_pool.proofs.Values.{var_of, low_of, high_of, stands_at, low_of-less, high_of-less, value-constant, value-inner, value-put, value-low_of, value-high_of, value-extends, value-within}

-- two numbers have the same function
abbrev pub SameFunction : List Node → ℕ → ℕ → Type 0
SameFunction nodes a b = Agree (value nodes a) (value nodes b)

pub top_of-within : (vars : ℕ) (nodes : List Node) (n : ℕ) → IsReduced vars nodes → n < length nodes + 2 → top_of vars nodes n ≤ vars
top_of-within vars nodes n reduced n_in =
    ⊎_elim
    (λ (small : n < 2). omega (arith, top_of-constant vars nodes n small))
    (λ (inner : 2 ≤ n). omega (arith, top_of-inner vars nodes n inner, (stands_at vars nodes n reduced inner n_in).var_in))
    (cases_lt n 2)

-- where b branches later than a, both children of a have the function of b
children_same : (vars : ℕ) (nodes : List Node) (a b : ℕ) → IsReduced vars nodes → 2 ≤ a → a < length nodes + 2 → b < length nodes + 2 → var_of nodes a < top_of vars nodes b → SameFunction nodes a b → SameFunction nodes (low_of nodes a) (high_of nodes a)
children_same vars nodes a b reduced inner a_in b_in later same world =
    value-low_of vars nodes a world reduced inner a_in
    ∙ same (put world (var_of nodes a) false)
    ∙ value-put vars nodes b (var_of nodes a) false world reduced b_in later
    ∙ sym (value-put vars nodes b (var_of nodes a) true world reduced b_in later)
    ∙ sym (same (put world (var_of nodes a) true))
    ∙ sym (value-high_of vars nodes a world reduced inner a_in)

node_same : (m n : Node) → m.var ≡ n.var → m.low.0 ≡ n.low.0 → m.high.0 ≡ n.high.0 → m ≡ n
node_same m n p q r = λ i. record { var = p i; low = record { 0 = q i }; high = record { 0 = r i } }

once_each : (vars : ℕ) (nodes : List Node) (j k : ℕ) → IsReduced vars nodes → j < length nodes → k < length nodes → node_at nodes j ≡ node_at nodes k → j ≡ k
once_each vars nodes j k reduced j_in k_in same =
    ⊎_elim
    (λ (less : j < k). absurd (reduced.once j k less k_in same))
    (λ (not_less : k ≤ j).
    ⊎_elim
    (λ (less : k < j). absurd (reduced.once k j less j_in (sym same)))
    (λ (not_more : j ≤ k). omega arith)
    (cases_lt k j))
    (cases_lt j k)

-- of the numbers below the bound, two with one function are one
abbrev pub IsCanonicalBelow : ℕ → List Node → Type 0
IsCanonicalBelow bound nodes = (a b : ℕ) → a < length nodes + 2 → b < length nodes + 2 → a < bound → b < bound → SameFunction nodes a b → a ≡ b

-- a number that branches first has a function of its own: else its two children had one function
differ_by_top : (bound vars : ℕ) (nodes : List Node) (a b : ℕ) → IsReduced vars nodes → IsCanonicalBelow bound nodes → a ≤ bound → 2 ≤ a → a < length nodes + 2 → b < length nodes + 2 → var_of nodes a < top_of vars nodes b → SameFunction nodes a b → ⊥
differ_by_top bound vars nodes a b reduced below a_in_bound inner a_in b_in later same =
    let low_less : low_of nodes a < a = low_of-less vars nodes a reduced inner a_in in
    let high_less : high_of nodes a < a = high_of-less vars nodes a reduced inner a_in in
    let children : SameFunction nodes (low_of nodes a) (high_of nodes a) = children_same vars nodes a b reduced inner a_in b_in later same in
    (stands_at vars nodes a reduced inner a_in).children_differ (below (low_of nodes a) (high_of nodes a) (omega arith) (omega arith) (omega arith) (omega arith) children)

-- two that branch at one variable have the same children, and so are one
same_at_top : (bound vars : ℕ) (nodes : List Node) (a b : ℕ) → IsReduced vars nodes → IsCanonicalBelow bound nodes → a ≤ bound → b ≤ bound → 2 ≤ a → 2 ≤ b → a < length nodes + 2 → b < length nodes + 2 → var_of nodes a ≡ var_of nodes b → SameFunction nodes a b → a ≡ b
same_at_top bound vars nodes a b reduced below a_in_bound b_in_bound a_inner b_inner a_in b_in vars_same same =
    let low_a : low_of nodes a < a = low_of-less vars nodes a reduced a_inner a_in in
    let high_a : high_of nodes a < a = high_of-less vars nodes a reduced a_inner a_in in
    let low_b : low_of nodes b < b = low_of-less vars nodes b reduced b_inner b_in in
    let high_b : high_of nodes b < b = high_of-less vars nodes b reduced b_inner b_in in
    let moved : (truth : Bool) (w : World) → value nodes a (put w (var_of nodes a) truth) ≡ value nodes b (put w (var_of nodes b) truth) = λ truth w. same (put w (var_of nodes a) truth) ∙ ap (λ (v : ℕ). value nodes b (put w v truth)) vars_same in
    let lows_same : SameFunction nodes (low_of nodes a) (low_of nodes b) = λ w. value-low_of vars nodes a w reduced a_inner a_in ∙ moved false w ∙ sym (value-low_of vars nodes b w reduced b_inner b_in) in
    let highs_same : SameFunction nodes (high_of nodes a) (high_of nodes b) = λ w. value-high_of vars nodes a w reduced a_inner a_in ∙ moved true w ∙ sym (value-high_of vars nodes b w reduced b_inner b_in) in
    let lows : low_of nodes a ≡ low_of nodes b = below (low_of nodes a) (low_of nodes b) (omega arith) (omega arith) (omega arith) (omega arith) lows_same in
    let highs : high_of nodes a ≡ high_of nodes b = below (high_of nodes a) (high_of nodes b) (omega arith) (omega arith) (omega arith) (omega arith) highs_same in
    let triples : node_at nodes (a - 2) ≡ node_at nodes (b - 2) = node_same (node_at nodes (a - 2)) (node_at nodes (b - 2)) vars_same lows highs in
    let places : a - 2 ≡ b - 2 = once_each vars nodes (a - 2) (b - 2) reduced (omega arith) (omega arith) triples in
    omega arith

-- the constants differ, and an inner number branches before them
same_as_constant : (bound vars : ℕ) (nodes : List Node) (a b : ℕ) → IsReduced vars nodes → IsCanonicalBelow bound nodes → a ≤ bound → a < length nodes + 2 → b < 2 → SameFunction nodes a b → a ≡ b
same_as_constant bound vars nodes a b reduced below a_in_bound a_in b_small same =
    ⊎_elim
    (λ (a_small : a < 2).
    let tests : eqb a 1 ≡ eqb b 1 = sym (value-constant nodes a (λ _. false) a_small) ∙ same (λ _. false) ∙ value-constant nodes b (λ _. false) b_small in
    grind (arith, nat_tests))
    (λ (inner : 2 ≤ a).
    let var_in : var_of nodes a < vars = (stands_at vars nodes a reduced inner a_in).var_in in
    let later : var_of nodes a < top_of vars nodes b = omega (arith, top_of-constant vars nodes b b_small) in
    absurd (differ_by_top bound vars nodes a b reduced below a_in_bound inner a_in (omega arith) later same))
    (cases_lt a 2)

canonical_next : (bound vars : ℕ) (nodes : List Node) → IsReduced vars nodes → IsCanonicalBelow bound nodes → IsCanonicalBelow (suc bound) nodes
canonical_next bound vars nodes reduced below a b a_in b_in a_less b_less same =
    let back : SameFunction nodes b a = λ w. sym (same w) in
    let inner_both : 2 ≤ a → 2 ≤ b → a ≡ b = λ a_inner b_inner.
    let at_a : top_of vars nodes a ≡ var_of nodes a = top_of-inner vars nodes a a_inner in
    let at_b : top_of vars nodes b ≡ var_of nodes b = top_of-inner vars nodes b b_inner in
    ⊎_elim
    (λ (less : var_of nodes a < var_of nodes b). absurd (differ_by_top bound vars nodes a b reduced below (omega arith) a_inner a_in b_in (omega arith) same))
    (λ (not_less : var_of nodes b ≤ var_of nodes a).
    ⊎_elim
    (λ (less : var_of nodes b < var_of nodes a). absurd (differ_by_top bound vars nodes b a reduced below (omega arith) b_inner b_in a_in (omega arith) back))
    (λ (not_more : var_of nodes a ≤ var_of nodes b). same_at_top bound vars nodes a b reduced below (omega arith) (omega arith) a_inner b_inner a_in b_in (omega arith) same)
    (cases_lt (var_of nodes b) (var_of nodes a)))
    (cases_lt (var_of nodes a) (var_of nodes b)) in
    ⊎_elim
    (λ (b_small : b < 2). same_as_constant bound vars nodes a b reduced below (omega arith) a_in b_small same)
    (λ (b_inner : 2 ≤ b).
    ⊎_elim
    (λ (a_small : a < 2). sym (same_as_constant bound vars nodes b a reduced below (omega arith) b_in a_small back))
    (λ (a_inner : 2 ≤ a). inner_both a_inner b_inner)
    (cases_lt a 2))
    (cases_lt b 2)

canonical_below : (bound vars : ℕ) (nodes : List Node) → IsReduced vars nodes → IsCanonicalBelow bound nodes
canonical_below zero vars nodes reduced = λ a b a_in b_in a_less b_less same. absurd (omega arith)
canonical_below (suc bound) vars nodes reduced = canonical_next bound vars nodes reduced (canonical_below bound vars nodes reduced)

-- in a reduced list two numbers with one function are one number
pub canonical : (vars : ℕ) (nodes : List Node) (a b : ℕ) → IsReduced vars nodes → a < length nodes + 2 → b < length nodes + 2 → SameFunction nodes a b → a ≡ b
canonical vars nodes a b reduced a_in b_in same = canonical_below (a + b + 1) vars nodes reduced a b a_in b_in (omega arith) (omega arith) same

-- what a triple that stands nowhere computes is the function of no number
pub absent_function : (vars : ℕ) (nodes : List Node) (node : Node) (n : ℕ) → IsReduced vars nodes → MayStand vars nodes node (length nodes) → IsAbsent nodes node → n < length nodes + 2 → Agree (value nodes n) (branch node.var (value nodes node.low.0) (value nodes node.high.0)) → ⊥
absent_function vars nodes node n reduced stands absent n_in same =
    let more : List Node = nodes ++ node ∷ [] in
    let longer : Extends nodes more = Extends-push nodes node in
    let reduced_more : IsReduced vars more = IsReduced-push vars nodes node reduced stands absent in
    let one_more : length more ≡ length nodes + 1 = omega (arith, length-append nodes (node ∷ [])) in
    let fresh : ℕ = length nodes + 2 in
    let low_in : node.low.0 < length nodes + 2 = stands.low_in in
    let high_in : node.high.0 < length nodes + 2 = stands.high_in in
    let at_end : node_at more (fresh - 2) ≡ node = ap (node_at more) (omega arith) ∙ node_at-pushed nodes node in
    let meaning : (w : World) → value more fresh w ≡ value more n w = λ w.
    value-inner vars more fresh w reduced_more (omega arith) (omega arith)
    ∙ ap (λ (m : Node). cond (w m.var) (value more m.high.0 w) (value more m.low.0 w)) at_end
    ∙ ap (λ (x : Bool). cond (w node.var) x (value more node.low.0 w)) (value-extends vars nodes more node.high.0 w reduced longer high_in)
    ∙ ap (λ (x : Bool). cond (w node.var) (value nodes node.high.0 w) x) (value-extends vars nodes more node.low.0 w reduced longer low_in)
    ∙ sym (same w)
    ∙ sym (value-extends vars nodes more n w reduced longer n_in) in
    let equal : fresh ≡ n = canonical vars more fresh n reduced_more (omega arith) (omega arith) meaning in
    omega arith

-- the list of a world's first truth values
pub truths_of : ℕ → World → List Bool
truths_of zero world = []
truths_of (suc n) world = truths_of n world ++ world n ∷ []

truths_of-length : (n : ℕ) (world : World) → length (truths_of n world) ≡ n
unfolding truths_of
truths_of-length zero world = refl
truths_of-length (suc n) world = omega (arith, length-append (truths_of n world) (world n ∷ []), truths_of-length n world)

truths_of-at : (n : ℕ) (world : World) (v : ℕ) → v < n → world_of (truths_of n world) v ≡ world v
unfolding truths_of
truths_of-at zero world v v_in = absurd (omega arith)
truths_of-at (suc n) world v v_in =
    let len : length (truths_of n world) ≡ n = truths_of-length n world in
    ⊎_elim
    (λ (less : v < n). get_or-append (truths_of n world) (world n ∷ []) false v (omega arith) ∙ truths_of-at n world v less)
    (λ (last : n ≤ v).
    let at_end : v ≡ n = omega arith in
    ap (λ (k : ℕ). slice_index_or (truths_of n world ++ world n ∷ []) k false) (at_end ∙ sym len) ∙ get_or-append_seam (truths_of n world) (world n) [] false ∙ ap world (sym at_end))
    (cases_lt v n)

-- the same over all lists of as many truth values as there are variables
pub canonical_over_lists : (vars : ℕ) (nodes : List Node) (a b : ℕ) → IsReduced vars nodes → a < length nodes + 2 → b < length nodes + 2 → AgreeAtAll vars (value nodes a) (value nodes b) → a ≡ b
canonical_over_lists vars nodes a b reduced a_in b_in same =
    canonical vars nodes a b reduced a_in b_in (λ world.
    sym (value-within vars nodes a (world_of (truths_of vars world)) world reduced a_in (λ v v_in. truths_of-at vars world v v_in))
    ∙ same (truths_of vars world) (truths_of-length vars world)
    ∙ value-within vars nodes b (world_of (truths_of vars world)) world reduced b_in (λ v v_in. truths_of-at vars world v v_in))
