-- A query asks no more than its bound.
use Rattle.std.proofs.Common.{◌≡◌, ◌∙◌, refl, sym, ap, subst, ℕ, zero, suc, ◌+◌, ◌*◌, ◌^◌, ◌-◌, ◌<◌, ◌≤◌, List, [], ◌∷◌, ◌++◌, length, map, arith}
use Rattle.std.specs.List.{sum_by}
use Rattle.std.proofs.lemmas.List.{length-map}
use Rattle.std.proofs.lemmas.List.Sums.{sum_by-append, sum_by-cons}
use Rattle.std.proofs.Math.Nat.{mul-le-mul, mul-le-mul_left, mul-le-mul_right, add-mul, mul-add, mul_assoc, mul_comm, pow-suc, pow-zero}
use Rattle.meaning.specs.Texts.{flat}
use Rattle.meaning.specs.Expressions.{Expression, size_of}
use Rattle.meaning.specs.Models.{Model, Element, Link}
use Rattle.meaning.specs.Bounds.{model_size, path_size, path_of, asks_of_query}
use Rattle.path_queries.specs.declared.data.Constraint.{Constraint}
use Rattle.path_queries.specs.declared.data.Query.{Query}
use Rattle.path_queries.specs.View.{constraint, query}
use Rattle.path_queries.specs.Searching.{walk_asks, asks_before, asks_of_tuples}
use Rattle.path_queries.proofs.Presences.{size_positive}

-- ---- the conditions of the model

sum_of_map : {X Y : Type 0} (f : Y → ℕ) (h : X → Y) (xs : List X) → sum_by f (map h xs) ≡ sum_by (λ x. f (h x)) xs
sum_of_map f h [] = refl
sum_of_map f h (x ∷ xs) = sum_by-cons f (h x) (map h xs) ∙ ap (λ n. f (h x) + n) (sum_of_map f h xs) ∙ sym (sum_by-cons (λ y. f (h y)) x xs)

links_within : (ls : List Link) → sum_by (λ l. 8 * size_of l.presence + 2) ls ≤ 16 * sum_by (λ l. size_of l.presence) ls
links_within [] = omega arith
links_within (l ∷ ls) =
    let first = sum_by-cons (λ (k : Link). 8 * size_of k.presence + 2) l ls in
    let other = sum_by-cons (λ (k : Link). size_of k.presence) l ls in
    omega (arith, first, other, size_positive l.presence, links_within ls)

model_within : (m : Model) → 8 * sum_by (λ e. size_of e.presence) m.elements + sum_by (λ l. 8 * size_of l.presence + 2) m.links ≤ 16 * model_size m
model_within m =
    let elements = sum_of_map size_of (λ (e : Element). e.presence) m.elements in
    let links = sum_of_map size_of (λ (l : Link). l.presence) m.links in
    let transitions = flat (λ s. map (λ t. t.presence) s.transitions) m.systems in
    let first = sum_by-append size_of (map (λ e. e.presence) m.elements) (map (λ l. l.presence) m.links) in
    let all = sum_by-append size_of (map (λ e. e.presence) m.elements ++ map (λ l. l.presence) m.links) transitions in
    omega (arith, elements, links, first, all, links_within m.links)

-- ---- the walks

walks_sum : (m : Model) (cs : List Constraint) → sum_by (walk_asks m) cs ≡ sum_by path_size (flat path_of (map constraint cs)) * (16 * (length m.links + (length m.elements + 1) ^ 3))
walks_sum m [] = let k = 16 * (length m.links + (length m.elements + 1) ^ 3) in let none : 0 ≡ 0 * k = omega arith in none
walks_sum m (c ∷ cs) =
    let k = 16 * (length m.links + (length m.elements + 1) ^ 3) in
    sum_by-cons (walk_asks m) c cs
    ∙ ap (λ n. walk_asks m c + n) (walks_sum m cs)
    ∙ sym (add-mul (sum_by path_size (path_of (constraint c))) (sum_by path_size (flat path_of (map constraint cs))) k)
    ∙ ap (λ n. n * k) (sym (sum_by-append path_size (path_of (constraint c)) (flat path_of (map constraint cs))))

-- ---- the tuples

power_positive : (n k : ℕ) → 1 ≤ (n + 1) ^ k
power_positive n zero = let is = pow-zero (n + 1) in omega (arith, is)
power_positive n (suc k) =
    let is = pow-suc (n + 1) k in
    let more = mul-le-mul (power_positive n k) (one n) in
    omega (arith, is, more)
  where
    one : (n : ℕ) → 1 ≤ n + 1
    one n = omega arith

-- the factors in another order
regrouped : (c v p n : ℕ) → (n + 1) * ((c + 2 * v + 2) * p) ≡ (c + 2 * suc v) * (p * (n + 1))
regrouped c v p n =
    let total : c + 2 * v + 2 ≡ c + 2 * suc v = omega arith in
    mul_comm (n + 1) ((c + 2 * v + 2) * p) ∙ mul_assoc (c + 2 * v + 2) p (n + 1) ∙ ap (λ k. k * (p * (n + 1))) total

tuples_within : (n c v : ℕ) → asks_of_tuples n c v ≤ (c + 2 * v) * (n + 1) ^ v
tuples_within n c zero =
    let one : (c + 2 * 0) * 1 ≡ c = omega arith in
    let is : (c + 2 * 0) * (n + 1) ^ 0 ≡ c = ap (λ k. (c + 2 * 0) * k) (pow-zero (n + 1)) ∙ one in
    omega (arith, is)
tuples_within n c (suc v) =
    let p = (n + 1) ^ v in
    let before = tuples_within n c v in
    let positive = power_positive n v in
    let spread = add-mul (c + 2 * v) 2 p in
    let inner : asks_of_tuples n c v + 2 ≤ (c + 2 * v + 2) * p = omega (arith, before, positive, spread) in
    let less : n ≤ n + 1 = omega arith in
    subst (λ k. n * (asks_of_tuples n c v + 2) ≤ k) (regrouped c v p n ∙ ap (λ k. (c + 2 * suc v) * k) (sym (pow-suc (n + 1) v))) (mul-le-mul less inner)

power_grows : (n v w : ℕ) → (n + 1) ^ v ≤ (n + 1) ^ (v + w)
power_grows n v zero = let same : v + 0 ≡ v = omega arith in subst (λ k. (n + 1) ^ v ≤ (n + 1) ^ k) (sym same) (omega arith)
power_grows n v (suc w) =
    let before = power_grows n v w in
    let is = pow-suc (n + 1) (v + w) in
    let same : v + suc w ≡ suc (v + w) = omega arith in
    let spread = mul-add ((n + 1) ^ (v + w)) n 1 in
    subst (λ k. (n + 1) ^ v ≤ (n + 1) ^ k) (sym same) (omega (arith, before, is, spread))

three_within : (n c v : ℕ) → v ≤ 3 → asks_of_tuples n c v ≤ 16 * ((c + 8) * (n + 1) ^ 3)
three_within n c v few =
    let left = 3 - v in
    let whole : v + left ≡ 3 = omega (arith, few) in
    let grows = subst (λ k. (n + 1) ^ v ≤ (n + 1) ^ k) whole (power_grows n v left) in
    let factor : c + 2 * v ≤ c + 8 = omega (arith, few) in
    omega (arith, tuples_within n c v, mul-le-mul factor grows)

-- ---- all of it

pub query_within : (m : Model) (q : Query) → length q.vars ≤ 3
    → asks_before m q + asks_of_tuples (length m.elements) (length q.constraints) (length q.vars) ≤ asks_of_query m (query q)
query_within m q few =
    let elements = (length m.elements + 1) ^ 3 in
    let s = sum_by path_size (flat path_of (map constraint q.constraints)) in
    let size = length-map q.constraints constraint in
    let model = model_within m in
    let walked = walks_sum m q.constraints in
    let moved : s * (16 * (length m.links + elements)) ≡ 16 * (s * (length m.links + elements)) =
    sym (mul_assoc s 16 (length m.links + elements)) ∙ ap (λ k. k * (length m.links + elements)) (mul_comm s 16) ∙ mul_assoc 16 s (length m.links + elements) in
    let tried = three_within (length m.elements) (length q.constraints) (length q.vars) few in
    let same : (length (map constraint q.constraints) + 8) * elements ≡ (length q.constraints + 8) * elements = ap (λ k. (k + 8) * elements) size in
    omega (arith, model, walked, moved, tried, same)
