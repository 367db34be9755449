-- The two halves of a number at a variable.
use Rattle.std.proofs.Common.{◌≡◌, ℕ, ◌+◌, ◌-◌, ◌<◌, ◌≤◌, true, false, List, length, arith, sym, ap, ◌∙◌}
use Rattle.node_pool.specs.declared.node.Node.{Node}
use Rattle.node_pool.specs.Nodes.{value, node_at, top_of, MayStand, IsReduced}
use Rattle.node_pool.specs.Functions.{put}
use Rattle.node_pool.proofs.Values.{var_of, low_of, high_of, stands_at, low_of-less, high_of-less, value-put, value-low_of, value-high_of}
use Rattle.conditions.specs.Questions.{IsNumberSplit}

-- a number that branches later is its own children
pub IsNumberSplit-later : (vars : ℕ) (nodes : List Node) (n var : ℕ) → IsReduced vars nodes → n < length nodes + 2 → var < top_of vars nodes n → IsNumberSplit vars nodes n var n n
IsNumberSplit-later vars nodes n var reduced n_in later = record {
  low_in = n_in;
  high_in = n_in;
  low_within = omega arith;
  high_within = omega arith;
  falls = λ at. absurd (omega arith);
  low_after = later;
  high_after = later;
  low_function = λ w. sym (value-put vars nodes n var false w reduced n_in later);
  high_function = λ w. sym (value-put vars nodes n var true w reduced n_in later);
}

-- a number that branches there has its node's children
pub IsNumberSplit-here : (vars : ℕ) (nodes : List Node) (n var : ℕ) → IsReduced vars nodes → 2 ≤ n → n < length nodes + 2 → var_of nodes n ≡ var → IsNumberSplit vars nodes n var (low_of nodes n) (high_of nodes n)
IsNumberSplit-here vars nodes n var reduced inner n_in here =
    let stands : MayStand vars nodes (node_at nodes (n - 2)) (n - 2) = stands_at vars nodes n reduced inner n_in in
    let low_less : low_of nodes n < n = low_of-less vars nodes n reduced inner n_in in
    let high_less : high_of nodes n < n = high_of-less vars nodes n reduced inner n_in in
    record {
      low_in = omega arith;
      high_in = omega arith;
      low_within = omega arith;
      high_within = omega arith;
      falls = λ at. (low_less, high_less);
      low_after = omega (arith, stands.low_after);
      high_after = omega (arith, stands.high_after);
      low_function = λ w. value-low_of vars nodes n w reduced inner n_in ∙ ap (λ (v : ℕ). value nodes n (put w v false)) here;
      high_function = λ w. value-high_of vars nodes n w reduced inner n_in ∙ ap (λ (v : ℕ). value nodes n (put w v true)) here;
    }
