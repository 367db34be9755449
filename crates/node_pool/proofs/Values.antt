-- The functions of a reduced list's numbers.
use Rattle.std.proofs.Common.{◌≡◌, ℕ, zero, suc, ◌+◌, ◌-◌, ◌<◌, ◌≤◌, Bool, true, false, cond, eqb, ltb, List, length, arith, sym, ap, ◌∙◌, ⊎_elim, refl}
use Rattle.std.proofs.lemmas.Bool.{cases_lt}
use Rattle.std.proofs.lemmas.Bool.Decides.{nat_tests}
use Rattle.node_pool.specs.declared.node.Node.{Node}
use Rattle.meaning.specs.Cofactors.{World}
use Rattle.node_pool.specs.Nodes.{node_at, top_of, walk, value, MayStand, IsReduced, Extends}
use Rattle.node_pool.specs.Functions.{put}
use Rattle.node_pool.proofs.Reduced.{top_of-inner}

-- the parts of an inner number's node
abbrev pub var_of : List Node → ℕ → ℕ
var_of nodes n = (node_at nodes (n - 2)).var

abbrev pub low_of : List Node → ℕ → ℕ
low_of nodes n = (node_at nodes (n - 2)).low.0

abbrev pub high_of : List Node → ℕ → ℕ
high_of nodes n = (node_at nodes (n - 2)).high.0

pub walk-constant : (nodes : List Node) (steps n : ℕ) (world : World) → n < 2 → walk nodes steps n world ≡ eqb n 1
unfolding walk
walk-constant nodes zero n world small = refl
walk-constant nodes (suc steps) n world small =
    let test : ltb n 2 ≡ true = grind (arith, nat_tests) in rw test

pub walk-inner : (nodes : List Node) (steps n : ℕ) (world : World) → 2 ≤ n → walk nodes (suc steps) n world ≡ cond (world (var_of nodes n)) (walk nodes steps (high_of nodes n) world) (walk nodes steps (low_of nodes n) world)
unfolding walk
walk-inner nodes steps n world inner =
    let test : ltb n 2 ≡ false = grind (arith, nat_tests) in rw test

-- of an inner number that is there, what its node has
pub stands_at : (vars : ℕ) (nodes : List Node) (n : ℕ) → IsReduced vars nodes → 2 ≤ n → n < length nodes + 2 → MayStand vars nodes (node_at nodes (n - 2)) (n - 2)
stands_at vars nodes n reduced inner n_in = let place_in : n - 2 < length nodes = omega arith in reduced.stands (n - 2) place_in

pub low_of-less : (vars : ℕ) (nodes : List Node) (n : ℕ) → IsReduced vars nodes → 2 ≤ n → n < length nodes + 2 → low_of nodes n < n
low_of-less vars nodes n reduced inner n_in = let s : low_of nodes n < n - 2 + 2 = (stands_at vars nodes n reduced inner n_in).low_in in omega arith

pub high_of-less : (vars : ℕ) (nodes : List Node) (n : ℕ) → IsReduced vars nodes → 2 ≤ n → n < length nodes + 2 → high_of nodes n < n
high_of-less vars nodes n reduced inner n_in = let s : high_of nodes n < n - 2 + 2 = (stands_at vars nodes n reduced inner n_in).high_in in omega arith

cond_both : (b : Bool) (x x' y y' : Bool) → x ≡ x' → y ≡ y' → cond b x y ≡ cond b x' y'
cond_both b x x' y y' p q = cc

pub walk-enough : (vars : ℕ) (nodes : List Node) (steps more n : ℕ) (world : World) → IsReduced vars nodes → n < length nodes + 2 → n ≤ steps → n ≤ more → walk nodes steps n world ≡ walk nodes more n world
walk-enough vars nodes zero more n world reduced n_in p q = walk-constant nodes zero n world (omega arith) ∙ sym (walk-constant nodes more n world (omega arith))
walk-enough vars nodes (suc steps) zero n world reduced n_in p q = walk-constant nodes (suc steps) n world (omega arith) ∙ sym (walk-constant nodes zero n world (omega arith))
walk-enough vars nodes (suc steps) (suc more) n world reduced n_in p q =
    ⊎_elim
    (λ (small : n < 2). walk-constant nodes (suc steps) n world small ∙ sym (walk-constant nodes (suc more) n world small))
    (λ (inner : 2 ≤ n).
    let low_less : low_of nodes n < n = low_of-less vars nodes n reduced inner n_in in
    let high_less : high_of nodes n < n = high_of-less vars nodes n reduced inner n_in in
    walk-inner nodes steps n world inner
    ∙ cond_both _ _ _ _ _
    (walk-enough vars nodes steps more (high_of nodes n) world reduced (omega arith) (omega arith) (omega arith))
    (walk-enough vars nodes steps more (low_of nodes n) world reduced (omega arith) (omega arith) (omega arith))
    ∙ sym (walk-inner nodes more n world inner))
    (cases_lt n 2)

pub value-constant : (nodes : List Node) (n : ℕ) (world : World) → n < 2 → value nodes n world ≡ eqb n 1
unfolding value
value-constant nodes n world small = walk-constant nodes n n world small

-- the truth of an inner number is that of the child that its variable picks
pub value-inner : (vars : ℕ) (nodes : List Node) (n : ℕ) (world : World) → IsReduced vars nodes → 2 ≤ n → n < length nodes + 2 → value nodes n world ≡ cond (world (var_of nodes n)) (value nodes (high_of nodes n) world) (value nodes (low_of nodes n) world)
unfolding value
value-inner vars nodes n world reduced inner n_in =
    let low_less : low_of nodes n < n = low_of-less vars nodes n reduced inner n_in in
    let high_less : high_of nodes n < n = high_of-less vars nodes n reduced inner n_in in
    walk-enough vars nodes n (suc n) n world reduced n_in (omega arith) (omega arith)
    ∙ walk-inner nodes n n world inner
    ∙ cond_both _ _ _ _ _
    (walk-enough vars nodes n (high_of nodes n) (high_of nodes n) world reduced (omega arith) (omega arith) (omega arith))
    (walk-enough vars nodes n (low_of nodes n) (low_of nodes n) world reduced (omega arith) (omega arith) (omega arith))

walk-extends : (vars : ℕ) (old new : List Node) (steps n : ℕ) (world : World) → IsReduced vars old → Extends old new → n < length old + 2 → walk new steps n world ≡ walk old steps n world
unfolding walk
walk-extends vars old new zero n world reduced longer n_in = refl
walk-extends vars old new (suc steps) n world reduced longer n_in =
    ⊎_elim
    (λ (small : n < 2). walk-constant new (suc steps) n world small ∙ sym (walk-constant old (suc steps) n world small))
    (λ (inner : 2 ≤ n).
    let low_less : low_of old n < n = low_of-less vars old n reduced inner n_in in
    let high_less : high_of old n < n = high_of-less vars old n reduced inner n_in in
    let place_in : n - 2 < length old = omega arith in
    let same : node_at new (n - 2) ≡ node_at old (n - 2) = longer.kept (n - 2) place_in in
    walk-inner new steps n world inner
    ∙ ap (λ (m : Node). cond (world m.var) (walk new steps m.high.0 world) (walk new steps m.low.0 world)) same
    ∙ cond_both _ _ _ _ _
    (walk-extends vars old new steps (high_of old n) world reduced longer (omega arith))
    (walk-extends vars old new steps (low_of old n) world reduced longer (omega arith))
    ∙ sym (walk-inner old steps n world inner))
    (cases_lt n 2)

-- a number keeps its function while the region grows
pub value-extends : (vars : ℕ) (old new : List Node) (n : ℕ) (world : World) → IsReduced vars old → Extends old new → n < length old + 2 → value new n world ≡ value old n world
unfolding value
value-extends vars old new n world reduced longer n_in = walk-extends vars old new n n world reduced longer n_in

walk-agrees : (vars : ℕ) (nodes : List Node) (steps n : ℕ) (world other : World) → IsReduced vars nodes → n < length nodes + 2 → ((v : ℕ) → top_of vars nodes n ≤ v → world v ≡ other v) → walk nodes steps n world ≡ walk nodes steps n other
unfolding walk
walk-agrees vars nodes zero n world other reduced n_in agree = refl
walk-agrees vars nodes (suc steps) n world other reduced n_in agree =
    ⊎_elim
    (λ (small : n < 2). walk-constant nodes (suc steps) n world small ∙ sym (walk-constant nodes (suc steps) n other small))
    (λ (inner : 2 ≤ n).
    let low_less : low_of nodes n < n = low_of-less vars nodes n reduced inner n_in in
    let high_less : high_of nodes n < n = high_of-less vars nodes n reduced inner n_in in
    let stands : MayStand vars nodes (node_at nodes (n - 2)) (n - 2) = stands_at vars nodes n reduced inner n_in in
    let top : top_of vars nodes n ≡ var_of nodes n = top_of-inner vars nodes n inner in
    let below_low : var_of nodes n < top_of vars nodes (low_of nodes n) = stands.low_after in
    let below_high : var_of nodes n < top_of vars nodes (high_of nodes n) = stands.high_after in
    walk-inner nodes steps n world inner
    ∙ cond_both _ _ _ _ _
    (walk-agrees vars nodes steps (high_of nodes n) world other reduced (omega arith) (λ v above. agree v (omega arith)))
    (walk-agrees vars nodes steps (low_of nodes n) world other reduced (omega arith) (λ v above. agree v (omega arith)))
    ∙ ap (λ (b : Bool). cond b (walk nodes steps (high_of nodes n) other) (walk nodes steps (low_of nodes n) other)) (agree (var_of nodes n) (omega arith))
    ∙ sym (walk-inner nodes steps n other inner))
    (cases_lt n 2)

-- only variables from the top on matter
pub value-agrees : (vars : ℕ) (nodes : List Node) (n : ℕ) (world other : World) → IsReduced vars nodes → n < length nodes + 2 → ((v : ℕ) → top_of vars nodes n ≤ v → world v ≡ other v) → value nodes n world ≡ value nodes n other
unfolding value
value-agrees vars nodes n world other reduced n_in agree = walk-agrees vars nodes n n world other reduced n_in agree

put-other : (world : World) (v k : ℕ) (truth : Bool) → v < k → put world v truth k ≡ world k
put-other world v k truth less = let test : eqb k v ≡ false = grind (arith, nat_tests) in rw test

put-same : (world : World) (v : ℕ) (truth : Bool) → put world v truth v ≡ truth
put-same world v truth = let test : eqb v v ≡ true = grind (arith, nat_tests) in rw test

pub value-put : (vars : ℕ) (nodes : List Node) (n v : ℕ) (truth : Bool) (world : World) → IsReduced vars nodes → n < length nodes + 2 → v < top_of vars nodes n → value nodes n (put world v truth) ≡ value nodes n world
value-put vars nodes n v truth world reduced n_in less = value-agrees vars nodes n (put world v truth) world reduced n_in (λ k above. put-other world v k truth (omega arith))

pub value-low_of : (vars : ℕ) (nodes : List Node) (n : ℕ) (world : World) → IsReduced vars nodes → 2 ≤ n → n < length nodes + 2 → value nodes (low_of nodes n) world ≡ value nodes n (put world (var_of nodes n) false)
value-low_of vars nodes n world reduced inner n_in =
    let v : ℕ = var_of nodes n in
    let stands : MayStand vars nodes (node_at nodes (n - 2)) (n - 2) = stands_at vars nodes n reduced inner n_in in
    let low_less : low_of nodes n < n = low_of-less vars nodes n reduced inner n_in in
    sym (value-put vars nodes (low_of nodes n) v false world reduced (omega arith) stands.low_after)
    ∙ sym (ap (λ (b : Bool). cond b (value nodes (high_of nodes n) (put world v false)) (value nodes (low_of nodes n) (put world v false))) (put-same world v false))
    ∙ sym (value-inner vars nodes n (put world v false) reduced inner n_in)

pub value-high_of : (vars : ℕ) (nodes : List Node) (n : ℕ) (world : World) → IsReduced vars nodes → 2 ≤ n → n < length nodes + 2 → value nodes (high_of nodes n) world ≡ value nodes n (put world (var_of nodes n) true)
value-high_of vars nodes n world reduced inner n_in =
    let v : ℕ = var_of nodes n in
    let stands : MayStand vars nodes (node_at nodes (n - 2)) (n - 2) = stands_at vars nodes n reduced inner n_in in
    let high_less : high_of nodes n < n = high_of-less vars nodes n reduced inner n_in in
    sym (value-put vars nodes (high_of nodes n) v true world reduced (omega arith) stands.high_after)
    ∙ sym (ap (λ (b : Bool). cond b (value nodes (high_of nodes n) (put world v true)) (value nodes (low_of nodes n) (put world v true))) (put-same world v true))
    ∙ sym (value-inner vars nodes n (put world v true) reduced inner n_in)

walk-within : (vars : ℕ) (nodes : List Node) (steps n : ℕ) (world other : World) → IsReduced vars nodes → n < length nodes + 2 → ((v : ℕ) → v < vars → world v ≡ other v) → walk nodes steps n world ≡ walk nodes steps n other
unfolding walk
walk-within vars nodes zero n world other reduced n_in agree = refl
walk-within vars nodes (suc steps) n world other reduced n_in agree =
    ⊎_elim
    (λ (small : n < 2). walk-constant nodes (suc steps) n world small ∙ sym (walk-constant nodes (suc steps) n other small))
    (λ (inner : 2 ≤ n).
    let low_less : low_of nodes n < n = low_of-less vars nodes n reduced inner n_in in
    let high_less : high_of nodes n < n = high_of-less vars nodes n reduced inner n_in in
    walk-inner nodes steps n world inner
    ∙ cond_both _ _ _ _ _
    (walk-within vars nodes steps (high_of nodes n) world other reduced (omega arith) agree)
    (walk-within vars nodes steps (low_of nodes n) world other reduced (omega arith) agree)
    ∙ ap (λ (b : Bool). cond b (walk nodes steps (high_of nodes n) other) (walk nodes steps (low_of nodes n) other)) (agree (var_of nodes n) (stands_at vars nodes n reduced inner n_in).var_in)
    ∙ sym (walk-inner nodes steps n other inner))
    (cases_lt n 2)

-- only the region's variables matter
pub value-within : (vars : ℕ) (nodes : List Node) (n : ℕ) (world other : World) → IsReduced vars nodes → n < length nodes + 2 → ((v : ℕ) → v < vars → world v ≡ other v) → value nodes n world ≡ value nodes n other
unfolding value
value-within vars nodes n world other reduced n_in agree = walk-within vars nodes n n world other reduced n_in agree
