-- Cofactors of a function's branches are cofactors of the function.
use Rattle.std.proofs.Common.{◌≡◌, ℕ, ◌+◌, ◌<◌, ◌≤◌, Bool, true, false, cond, eqb, ltb, max, arith, sym, ◌∙◌, subst, ⊎_elim}
use Rattle.std.proofs.lemmas.Bool.{cases_lt}
use Rattle.std.proofs.lemmas.Bool.Decides.{nat_tests}
use Rattle.meaning.specs.Cofactors.{World, Function, Pool, Agree, cofactor, IsPrefixCofactor, Lacks, AddsCofactors}
use Rattle.node_pool.specs.Functions.{put, Keeps}

-- no variable before var matters to f
abbrev pub StartsAt : Function → ℕ → Type 0
StartsAt f var = (world other : World) → ((v : ℕ) → var ≤ v → world v ≡ other v) → f world ≡ f other

-- g is f with one variable fixed
abbrev pub IsBranch : Function → Function → ℕ → Bool → Type 0
IsBranch g f var truth = (world : World) → g world ≡ f (put world var truth)

mixed_later : (var k v : ℕ) (a b c : Bool) → var < v → cond (eqb v var) c (cond (ltb v k) a b) ≡ cond (ltb v (max k (var + 1))) (cond (eqb v var) c a) b
mixed_later var k v a b c later =
    let other : eqb v var ≡ false = grind (arith, nat_tests) in
    ⊎_elim
    (λ (fixed : v < k).
    let e : ltb v k ≡ true = grind (arith, nat_tests) in
    let e' : ltb v (max k (var + 1)) ≡ true = grind (arith, nat_tests) in rw (other, e, e'))
    (λ (free : k ≤ v).
    let e : ltb v k ≡ false = grind (arith, nat_tests) in
    let e' : ltb v (max k (var + 1)) ≡ false = grind (arith, nat_tests) in rw (other, e, e'))
    (cases_lt v k)

mixed_here : (k v : ℕ) (a b c : Bool) → cond (eqb v v) c (cond (ltb v k) a b) ≡ cond (ltb v (max k (v + 1))) (cond (eqb v v) c a) b
mixed_here k v a b c =
    let same : eqb v v ≡ true = grind (arith, nat_tests) in
    let e' : ltb v (max k (v + 1)) ≡ true = grind (arith, nat_tests) in rw (same, e')

mixed : (var k v : ℕ) (a b c : Bool) → var ≤ v → cond (eqb v var) c (cond (ltb v k) a b) ≡ cond (ltb v (max k (var + 1))) (cond (eqb v var) c a) b
mixed var k v a b c not_before =
    ⊎_elim
    (λ (later : var < v). mixed_later var k v a b c later)
    (λ (here : v ≤ var). let same : v ≡ var = omega arith in let P : ℕ → Type 0 = λ u. cond (eqb v u) c (cond (ltb v k) a b) ≡ cond (ltb v (max k (u + 1))) (cond (eqb v u) c a) b in subst P same (mixed_here k v a b c))
    (cases_lt var v)

-- a cofactor of a branch is a cofactor
pub cofactor-branch : (f g : Function) (var k : ℕ) (truth : Bool) (fixed world : World) → StartsAt f var → IsBranch g f var truth → cofactor g k fixed world ≡ cofactor f (max k (var + 1)) (put fixed var truth) world
cofactor-branch f g var k truth fixed world starts branch =
    branch (λ v. cond (ltb v k) (fixed v) (world v))
    ∙ starts (put (λ v. cond (ltb v k) (fixed v) (world v)) var truth) (λ v. cond (ltb v (max k (var + 1))) (put fixed var truth v) (world v)) (λ v not_before. mixed var k v (fixed v) (world v) truth not_before)

pub IsPrefixCofactor-branch : (vars : ℕ) (f g h : Function) (var : ℕ) (truth : Bool) → var < vars → StartsAt f var → IsBranch g f var truth → IsPrefixCofactor vars g h → IsPrefixCofactor vars f h
IsPrefixCofactor-branch vars f g h var truth var_in starts branch has =
    let k_in : has.prefix ≤ vars = has.within in
    record {
      prefix = max has.prefix (var + 1);
      fixed = put has.fixed var truth;
      within = omega arith;
      is = λ w. has.is w ∙ cofactor-branch f g var has.prefix truth has.fixed w starts branch;
    }

pub Lacks-branch : (vars : ℕ) (p : Pool) (f g : Function) (var : ℕ) (truth : Bool) → var < vars → StartsAt f var → IsBranch g f var truth → Lacks vars p g → Lacks vars p f
Lacks-branch vars p f g var truth var_in starts branch lacks =
    let k_in : lacks.prefix ≤ vars = lacks.within in
    record {
      prefix = max lacks.prefix (var + 1);
      fixed = put lacks.fixed var truth;
      within = omega arith;
      nowhere = λ n there same. lacks.nowhere n there (λ w. same w ∙ sym (cofactor-branch f g var lacks.prefix truth lacks.fixed w starts branch));
    }

pub Adds-branch : (vars : ℕ) (old new : Pool) (f g : Function) (var : ℕ) (truth : Bool) → var < vars → StartsAt f var → IsBranch g f var truth → AddsCofactors vars old new g → AddsCofactors vars old new f
Adds-branch vars old new f g var truth var_in starts branch adds =
    λ n past there. IsPrefixCofactor-branch vars f g (new.function n) var truth var_in starts branch (adds n past there)

-- ---- other words for a function

pub Lacks-agree : (vars : ℕ) (p : Pool) (f g : Function) → Agree g f → Lacks vars p g → Lacks vars p f
Lacks-agree vars p f g agree lacks = record {
  prefix = lacks.prefix;
  fixed = lacks.fixed;
  within = lacks.within;
  nowhere = λ n there same. lacks.nowhere n there (λ w. same w ∙ sym (agree (λ v. cond (ltb v lacks.prefix) (lacks.fixed v) (w v))));
}

pub Adds-agree : (vars : ℕ) (old new : Pool) (f g : Function) → Agree g f → AddsCofactors vars old new g → AddsCofactors vars old new f
Adds-agree vars old new f g agree adds =
    λ n past there.
    let has = adds n past there in
    record {
      prefix = has.prefix;
      fixed = has.fixed;
      within = has.within;
      is = λ w. has.is w ∙ agree (λ v. cond (ltb v has.prefix) (has.fixed v) (w v));
    }

-- ---- one step after the other

pub Adds-then : (vars : ℕ) (a b c : Pool) (f : Function) → Keeps b c → AddsCofactors vars a b f → AddsCofactors vars b c f → AddsCofactors vars a c f
Adds-then vars a b c f keeps first second =
    λ n past there.
    ⊎_elim
    (λ (early : n < b.nodes + 2).
    let has = first n past early in
    record { prefix = has.prefix; fixed = has.fixed; within = has.within; is = λ w. keeps.same n early w ∙ has.is w })
    (λ (late : b.nodes + 2 ≤ n). second n late there)
    (cases_lt n (b.nodes + 2))
