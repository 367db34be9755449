-- How many nodes so many functions can need.
use Rattle.std.proofs.Common.{◌≡◌, ◌≢◌, ℕ, zero, suc, ◌+◌, ◌-◌, ◌*◌, ◌^◌, ◌<◌, ◌≤◌, Bool, true, false, cond, eqb, leb, List, length, arith, sym, ap, ◌∙◌, refl, ⊎_elim}
use Rattle.std.proofs.Math.Nat.{pow-suc, mul-le-mul_right, mul-le-mul_left}
use Rattle.std.proofs.Math.Pow.{pow_mono}
use Rattle.std.proofs.lemmas.Nat.{pow_pos, pow-add}
use Rattle.std.proofs.lemmas.Bool.{cases_eq, cases_lt}
use Rattle.std.proofs.lemmas.Bool.Decides.{nat_tests}
use Rattle.node_pool.specs.declared.node.Node.{Node}
use Rattle.meaning.specs.Cofactors.{World}
use Rattle.node_pool.specs.Nodes.{value, IsReduced}
use Rattle.node_pool.proofs.Values.{value-within}
use Rattle.node_pool.proofs.Canonical.{canonical}
use Rattle.node_pool.specs.Functions.{put}
use Rattle.meaning.specs.Bounds.{nodes_of_functions}
use Rattle.meaning.specs.Counts.{counted}

-- numbers below n that are sent to different numbers below m: n is at most m
pub pigeonhole : (m n : ℕ) (f : ℕ → ℕ) → ((i : ℕ) → i < n → f i < m) → ((i j : ℕ) → i < n → j < n → f i ≡ f j → i ≡ j) → n ≤ m
pigeonhole m zero f below once = omega arith
pigeonhole zero (suc n) f below once = absurd (omega (arith, below 0 (omega arith)))
pigeonhole (suc m) (suc n) f below once =
    let g : ℕ → ℕ = λ i. cond (eqb (f i) m) (f n) (f i) in
    let g_at : (i : ℕ) → f i ≡ m → g i ≡ f n = λ i at. let e : eqb (f i) m ≡ true = grind (arith, nat_tests) in rw e in
    let g_else : (i : ℕ) → f i ≢ m → g i ≡ f i = λ i ne. let e : eqb (f i) m ≡ false = grind (arith, nat_tests) in rw e in
    let differs : (i : ℕ) → i < n → f i ≢ f n = λ i i_in same. let e : i ≡ n = once i n (omega arith) (omega arith) same in omega arith in
    let within : (i : ℕ) → i < n → g i < m = λ i i_in.
    let f_in : f i < suc m = below i (omega arith) in
    let last_in : f n < suc m = below n (omega arith) in
    let ne : f i ≢ f n = differs i i_in in
    ⊎_elim
    (λ (at : f i ≡ m). omega (arith, g_at i at))
    (λ (other : f i ≢ m). omega (arith, g_else i other))
    (cases_eq (f i) m) in
    let apart : (i j : ℕ) → i < n → j < n → g i ≡ g j → i ≡ j = λ i j i_in j_in same.
    ⊎_elim
    (λ (i_at : f i ≡ m). ⊎_elim
    (λ (j_at : f j ≡ m). once i j (omega arith) (omega arith) (i_at ∙ sym j_at))
    (λ (j_other : f j ≢ m). absurd (differs j j_in (sym (sym (g_at i i_at) ∙ same ∙ g_else j j_other))))
    (cases_eq (f j) m))
    (λ (i_other : f i ≢ m). ⊎_elim
    (λ (j_at : f j ≡ m). absurd (differs i i_in (sym (g_else i i_other) ∙ same ∙ g_at j j_at)))
    (λ (j_other : f j ≢ m). once i j (omega arith) (omega arith) (sym (g_else i i_other) ∙ same ∙ g_else j j_other))
    (cases_eq (f j) m))
    (cases_eq (f i) m) in
    let fewer : n ≤ m = pigeonhole m n g within apart in
    omega arith

-- the truth table of a function from variable v on, over so many variables, as a number
pub table : ℕ → ℕ → (World → Bool) → World → ℕ
table zero v f world = cond (f world) 1 0
table (suc more) v f world = table more (v + 1) f (put world v false) * 2 ^ (2 ^ more) + table more (v + 1) f (put world v true)

table_zero : (v : ℕ) (f : World → Bool) (world : World) → table zero v f world ≡ cond (f world) 1 0
unfolding table
table_zero v f world = refl

table_suc : (more v : ℕ) (f : World → Bool) (world : World) → table (suc more) v f world ≡ table more (v + 1) f (put world v false) * 2 ^ (2 ^ more) + table more (v + 1) f (put world v true)
unfolding table
table_suc more v f world = refl

pair_lt : (a b c : ℕ) → a < c → b < c → a * c + b < c * c
pair_lt a b c a_in b_in =
    let up : (a + 1) * c ≤ c * c = mul-le-mul_right c (omega arith) in
    omega arith

pair_same : (a b a' b' c : ℕ) → b < c → b' < c → a * c + b ≡ a' * c + b' → (a ≡ a') × (b ≡ b')
pair_same a b a' b' c b_in b'_in same =
    let firsts : a ≡ a' =
    ⊎_elim
    (λ (less : a < a'). let up : (a + 1) * c ≤ a' * c = mul-le-mul_right c (omega arith) in absurd (omega arith))
    (λ (not_less : a' ≤ a). ⊎_elim
    (λ (less : a' < a). let up : (a' + 1) * c ≤ a * c = mul-le-mul_right c (omega arith) in absurd (omega arith))
    (λ (not_more : a ≤ a'). omega arith)
    (cases_lt a' a))
    (cases_lt a a') in
    let products : a * c ≡ a' * c = ap (λ (n : ℕ). n * c) firsts in
    (firsts, omega arith)

square : (more : ℕ) → 2 ^ (2 ^ more) * 2 ^ (2 ^ more) ≡ 2 ^ (2 ^ suc more)
square more =
    let double : 2 ^ suc more ≡ 2 ^ more + 2 ^ more = omega (arith, pow-suc 2 more) in
    sym (pow-add 2 (2 ^ more) (2 ^ more)) ∙ sym (ap (λ (k : ℕ). 2 ^ k) double)

pub table-lt : (more v : ℕ) (f : World → Bool) (world : World) → table more v f world < 2 ^ (2 ^ more)
table-lt zero v f world =
    let small : (b : Bool) → cond b 1 0 < 2 = elim [ true ↦ omega arith | false ↦ omega arith ] in
    rw table_zero (small (f world))
table-lt (suc more) v f world =
    rw (table_suc, ← square more) (pair_lt (table more (v + 1) f (put world v false)) (table more (v + 1) f (put world v true)) (2 ^ (2 ^ more)) (table-lt more (v + 1) f (put world v false)) (table-lt more (v + 1) f (put world v true)))

-- no variable from n on matters
abbrev EndsAt : (World → Bool) → ℕ → Type 0
EndsAt f n = (world other : World) → ((v : ℕ) → v < n → world v ≡ other v) → f world ≡ f other

abbrev bit_of : Bool → ℕ
bit_of b = cond b 1 0

bits_same : (a b : Bool) → bit_of a ≡ bit_of b → a ≡ b
bits_same true true e = refl
bits_same true false e = absurd (omega arith)
bits_same false true e = absurd (omega arith)
bits_same false false e = refl

put_agrees : (world u : World) (v : ℕ) (truth : Bool) → u v ≡ truth → ((k : ℕ) → k < v → u k ≡ world k) → (k : ℕ) → k < v + 1 → u k ≡ put world v truth k
put_agrees world u v truth at agree k k_in =
    ⊎_elim
    (λ (same : k ≡ v). let e : eqb k v ≡ true = grind (arith, nat_tests) in rw e (ap u same ∙ at))
    (λ (ne : k ≢ v). let e : eqb k v ≡ false = grind (arith, nat_tests) in rw e (agree k (omega arith)))
    (cases_eq k v)

table_branch : (more v : ℕ) (f g : World → Bool) (world u : World) (b : Bool) → u v ≡ b → ((truth : Bool) → table more (v + 1) f (put world v truth) ≡ table more (v + 1) g (put world v truth)) → ((truth : Bool) → table more (v + 1) f (put world v truth) ≡ table more (v + 1) g (put world v truth) → ((k : ℕ) → k < v + 1 → u k ≡ put world v truth k) → f u ≡ g u) → ((k : ℕ) → k < v → u k ≡ world k) → f u ≡ g u
table_branch more v f g world u b at halves step agree = step b (halves b) (put_agrees world u v b at agree)

-- functions with one table are one function
pub table_same : (more v n : ℕ) (f g : World → Bool) (world u : World) → v + more ≡ n → EndsAt f n → EndsAt g n → table more v f world ≡ table more v g world → ((k : ℕ) → k < v → u k ≡ world k) → f u ≡ g u
table_same zero v n f g world u at f_ends g_ends same agree =
    let whole : (k : ℕ) → k < n → u k ≡ world k = λ k k_in. agree k (omega arith) in
    f_ends u world whole
    ∙ bits_same (f world) (g world) (sym (table_zero v f world) ∙ same ∙ table_zero v g world)
    ∙ sym (g_ends u world whole)
table_same (suc more) v n f g world u at f_ends g_ends same agree =
    let halves = pair_same (table more (v + 1) f (put world v false)) (table more (v + 1) f (put world v true)) (table more (v + 1) g (put world v false)) (table more (v + 1) g (put world v true)) (2 ^ (2 ^ more)) (table-lt more (v + 1) f (put world v true)) (table-lt more (v + 1) g (put world v true)) (sym (table_suc more v f world) ∙ same ∙ table_suc more v g world) in
    let both : (truth : Bool) → table more (v + 1) f (put world v truth) ≡ table more (v + 1) g (put world v truth) = elim [ true ↦ halves.1 | false ↦ halves.0 ] in
    table_branch more v f g world u (u v) refl both (λ truth half below. table_same more (v + 1) n f g (put world v truth) u (omega arith) f_ends g_ends half below) agree

-- a reduced region has no more numbers than there are functions
pub numbers_are_few : (vars : ℕ) (nodes : List Node) → IsReduced vars nodes → length nodes + 2 ≤ 2 ^ (2 ^ vars)
numbers_are_few vars nodes reduced =
    let blank : World = λ _. false in
    let code : ℕ → ℕ = λ n. table vars 0 (value nodes n) blank in
    let ends : (n : ℕ) → n < length nodes + 2 → EndsAt (value nodes n) vars = λ n n_in world other agree. value-within vars nodes n world other reduced n_in agree in
    pigeonhole (2 ^ (2 ^ vars)) (length nodes + 2) code
    (λ n n_in. table-lt vars 0 (value nodes n) blank)
    (λ a b a_in b_in same. canonical vars nodes a b reduced a_in b_in (λ u.
    table_same vars 0 vars (value nodes a) (value nodes b) blank u (omega arith) (ends a a_in) (ends b b_in) same (λ k k_in. absurd (omega arith))))

-- the counts of questions and of rows bound the nodes, also where the first has come to its end
pub few_after : (vars top asked taken old new : ℕ) → old ≤ (asked + taken) * (2 ^ vars - 1) → new + 1 ≤ old + 2 ^ (vars - top) → new ≤ 1048576
    → new ≤ (counted asked 1 + taken) * (2 ^ vars - 1)
few_after vars top asked taken old new few more small =
    let bound : 2 ^ (vars - top) ≤ 2 ^ vars = pow_mono (omega arith) in
    let room : ℕ = 2 ^ vars - 1 in
    let step : new ≤ old + room = omega (arith, pow_pos vars) in
    ⊎_elim
    (λ (counts : asked < 2 ^ 64 - 1).
    let one_more : counted asked 1 ≡ asked + 1 = omega arith in
    rw one_more (omega arith))
    (λ (stands : 2 ^ 64 - 1 ≤ asked).
    let greatest : counted asked 1 ≡ 2 ^ 64 - 1 = omega arith in
    ⊎_elim
    (λ (none : room < 1).
    let no_room : room ≡ 0 = omega arith in
    let nothing : (asked + taken) * room ≡ 0 = rw no_room (omega arith) in
    omega arith)
    (λ (some : 1 ≤ room).
    let up : (counted asked 1 + taken) * 1 ≤ (counted asked 1 + taken) * room = mul-le-mul_left (counted asked 1 + taken) some in
    omega arith)
    (cases_lt room 1))
    (cases_lt asked (2 ^ 64 - 1))

times_less : (m a : ℕ) → 0 < m → m * a ≡ a * (m - 1) + a
times_less zero a some = absurd (omega arith)
times_less (suc k) a some = let e : suc k - 1 ≡ k = omega arith in rw e (omega arith)

-- a full pool is below what so many questions can need
pub limit_below : (vars asked limit : ℕ) (nodes : List Node) → IsReduced vars nodes → length nodes ≡ limit → 1 ≤ asked → length nodes ≤ asked * (2 ^ vars - 1) → limit < nodes_of_functions vars asked
limit_below vars asked limit nodes reduced full some few =
    ⊎_elim
    (λ (small : vars < 5).
    let test : leb vars 4 ≡ true = grind (arith, nat_tests) in
    rw test (omega (arith, numbers_are_few vars nodes reduced)))
    (λ (large : 5 ≤ vars).
    let test : leb vars 4 ≡ false = grind (arith, nat_tests) in
    let product : 2 ^ vars * asked ≡ asked * (2 ^ vars - 1) + asked = times_less (2 ^ vars) asked (pow_pos vars) in
    rw test (omega arith))
    (cases_lt vars 5)

-- more functions need no fewer nodes
pub nodes_of_functions-more : (vars few more : ℕ) → few ≤ more → nodes_of_functions vars few ≤ nodes_of_functions vars more
nodes_of_functions-more vars few more less =
    ⊎_elim
    (λ (small : vars < 5). let test : leb vars 4 ≡ true = grind (arith, nat_tests) in rw test (omega arith))
    (λ (large : 5 ≤ vars). let test : leb vars 4 ≡ false = grind (arith, nat_tests) in rw test (mul-le-mul_left (2 ^ vars) less))
    (cases_lt vars 5)
