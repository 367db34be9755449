-- Two tables whose rows stand in the order of the walk over their conditions, and whose conditions have the same functions, are one table.
use Rattle.std.proofs.Common.{◌≡◌, ◌≢◌, ℕ, zero, suc, ◌+◌, ◌-◌, ◌<◌, ◌≤◌, Bool, true, false, cond, eqb, ◌||◌, List, [], ◌∷◌, ◌++◌, length, get_or, Some, None, arith, refl, sym, ap, ap₂, ◌∙◌, subst, ⊎_elim}
use Rattle.std.specs.Prelude.{option_map}
use Rattle.std.specs.List.{AllZip, list_any}
use Rattle.std.proofs.lemmas.Bool.{cases_lt, cases_eq, eq-eqb, ne_eqb, cases_Bool}
use Rattle.std.proofs.lemmas.List.{length-map, length-append, ext_get_or, get_or_append_left, get_or_at}
use Rattle.std.proofs.lemmas.Option.{slice_get-map, slice_get-get_or}
use Rattle.meaning.specs.Cofactors.{World, Agree}
use Rattle.meaning.specs.Texts.{numbers_from}
use Rattle.meaning.specs.CaseFiles.{Row}
use Rattle.meaning.specs.TableOrder.{row_of_id, row_ahead, left_after, left_after_all}
use Rattle.node_pool.specs.declared.node.Node.{Node}
use Rattle.node_pool.specs.Nodes.{node_at, top_of, value, IsReduced}
use Rattle.node_pool.specs.Functions.{put, world_of, AgreeAtAll}
use Rattle.node_pool.proofs.Reduced.{top_of-constant, top_of-inner}
use Rattle.node_pool.proofs.Values.{var_of, low_of, high_of, stands_at, low_of-less, high_of-less, value-constant, value-put, value-low_of, value-high_of, value-within}
use Rattle.node_pool.proofs.Canonical.{canonical}
use Rattle.conditions.specs.Tables.{TableRow, node_of, nodes_of, case_row, case_rows}
use Rattle.conditions.proofs.Leaving.{row_count, node_at-row}

-- ---- two numbers with one function

-- the numbers are there, and have the same function
pub record IsAlike (a b : List Node) (i j : ℕ) : Type 0 where
  pub left_in : i < length a + 2
  pub right_in : j < length b + 2
  pub same : Agree (value a i) (value b j)

pub alike_back : {a b : List Node} {i j : ℕ} → IsAlike a b i j → IsAlike b a j i
alike_back h = record { left_in = h.right_in; right_in = h.left_in; same = λ w. sym (h.same w) }

-- a world's first truth values
abbrev truths_of : ℕ → World → List Bool
truths_of zero world = []
truths_of (suc n) world = truths_of n world ++ world n ∷ []

truths_length : (n : ℕ) (world : World) → length (truths_of n world) ≡ n
truths_length zero world = refl
truths_length (suc n) world = omega (arith, length-append (truths_of n world) (world n ∷ []), truths_length n world)

truths_at : (n : ℕ) (world : World) (v : ℕ) → v < n → world_of (truths_of n world) v ≡ world v
truths_at zero world v v_in = absurd (omega arith)
truths_at (suc n) world v v_in =
    let len : length (truths_of n world) ≡ n = truths_length n world in
    ⊎_elim
    (λ (less : v < n). get_or_append_left (truths_of n world) (world n ∷ []) false v (omega arith) ∙ truths_at n world v less)
    (λ (last : n ≤ v).
    let at_end : v ≡ n = omega arith in
    ap (λ (k : ℕ). get_or (truths_of n world ++ world n ∷ []) k false) at_end ∙ get_or_at (truths_of n world) (world n) [] false n len ∙ ap world (sym at_end))
    (cases_lt v n)

-- functions that agree at all lists of truth values agree
pub agree_over_lists : (vars : ℕ) (a b : List Node) (i j : ℕ) → IsReduced vars a → IsReduced vars b → i < length a + 2 → j < length b + 2 → AgreeAtAll vars (value a i) (value b j) → Agree (value a i) (value b j)
agree_over_lists vars a b i j ra rb i_in j_in same = λ world.
    sym (value-within vars a i (world_of (truths_of vars world)) world ra i_in (λ v v_in. truths_at vars world v v_in))
    ∙ same (truths_of vars world) (truths_length vars world)
    ∙ value-within vars b j (world_of (truths_of vars world)) world rb j_in (λ v v_in. truths_at vars world v v_in)

module _ (vars : ℕ) where
  -- a number does not branch before another with its function: else its two children had one function
  not_before : (a b : List Node) (i j : ℕ) → IsReduced vars a → IsReduced vars b → IsAlike a b i j → 2 ≤ i → var_of a i < top_of vars b j → ⊥
  not_before a b i j ra rb h inner less =
      let i_in : i < length a + 2 = h.left_in in
      let j_in : j < length b + 2 = h.right_in in
      let v : ℕ = var_of a i in
      let low_less : low_of a i < i = low_of-less vars a i ra inner i_in in
      let high_less : high_of a i < i = high_of-less vars a i ra inner i_in in
      let children : Agree (value a (low_of a i)) (value a (high_of a i)) = λ w.
      value-low_of vars a i w ra inner i_in
      ∙ h.same (put w v false)
      ∙ value-put vars b j v false w rb j_in less
      ∙ sym (value-put vars b j v true w rb j_in less)
      ∙ sym (h.same (put w v true))
      ∙ sym (value-high_of vars a i w ra inner i_in) in
      (stands_at vars a i ra inner i_in).children_differ (canonical vars a (low_of a i) (high_of a i) ra (omega arith) (omega arith) children)

  -- where one is inner, so is the other
  both_inner : (a b : List Node) (i j : ℕ) → IsReduced vars a → IsReduced vars b → IsAlike a b i j → 2 ≤ i → 2 ≤ j
  both_inner a b i j ra rb h inner =
      ⊎_elim
      (λ (small : j < 2).
      let v_in : var_of a i < vars = (stands_at vars a i ra inner h.left_in).var_in in
      absurd (not_before a b i j ra rb h inner (omega (arith, top_of-constant vars b j small))))
      (λ (large : 2 ≤ j). large)
      (cases_lt j 2)

  -- and they branch at one variable, to children with the same functions
  record AreAlike (a b : List Node) (i j : ℕ) : Type 0 where
    inner : 2 ≤ j
    variable : var_of a i ≡ var_of b j
    low : IsAlike a b (low_of a i) (low_of b j)
    high : IsAlike a b (high_of a i) (high_of b j)

  alike_inner : (a b : List Node) (i j : ℕ) → IsReduced vars a → IsReduced vars b → IsAlike a b i j → 2 ≤ i → AreAlike a b i j
  alike_inner a b i j ra rb h inner =
      let i_in : i < length a + 2 = h.left_in in
      let j_in : j < length b + 2 = h.right_in in
      let other : 2 ≤ j = both_inner a b i j ra rb h inner in
      let variable : var_of a i ≡ var_of b j =
      ⊎_elim
      (λ (less : var_of a i < var_of b j). absurd (not_before a b i j ra rb h inner (omega (arith, top_of-inner vars b j other))))
      (λ (not_less : var_of b j ≤ var_of a i).
      ⊎_elim
      (λ (more : var_of b j < var_of a i). absurd (not_before b a j i rb ra (alike_back h) other (omega (arith, top_of-inner vars a i inner))))
      (λ (not_more : var_of a i ≤ var_of b j). omega arith)
      (cases_lt (var_of b j) (var_of a i)))
      (cases_lt (var_of a i) (var_of b j)) in
      let low_a : low_of a i < i = low_of-less vars a i ra inner i_in in
      let high_a : high_of a i < i = high_of-less vars a i ra inner i_in in
      let low_b : low_of b j < j = low_of-less vars b j rb other j_in in
      let high_b : high_of b j < j = high_of-less vars b j rb other j_in in
      record {
        inner = other;
        variable = variable;
        low = record {
          left_in = omega arith;
          right_in = omega arith;
          same = λ w. value-low_of vars a i w ra inner i_in ∙ h.same (put w (var_of a i) false) ∙ ap (λ (v : ℕ). value b j (put w v false)) variable ∙ sym (value-low_of vars b j w rb other j_in);
        };
        high = record {
          left_in = omega arith;
          right_in = omega arith;
          same = λ w. value-high_of vars a i w ra inner i_in ∙ h.same (put w (var_of a i) true) ∙ ap (λ (v : ℕ). value b j (put w v true)) variable ∙ sym (value-high_of vars b j w rb other j_in);
        };
      }

  -- a number has one that is alike
  pub alike_once : (a b : List Node) (i j k : ℕ) → IsReduced vars b → IsAlike a b i j → IsAlike a b i k → j ≡ k
  alike_once a b i j k rb h g = canonical vars b j k rb h.right_in g.right_in (λ w. sym (h.same w) ∙ g.same w)

  -- equal on one side, equal on the other
  same_test : (a b : List Node) (i j x y : ℕ) → IsReduced vars a → IsReduced vars b → IsAlike a b i j → IsAlike a b x y → eqb x i ≡ eqb y j
  same_test a b i j x y ra rb h g =
      ⊎_elim
      (λ (same : x ≡ i).
      let other : y ≡ j = alike_once a b i y j rb (subst (λ (n : ℕ). IsAlike a b n y) same g) h in
      eq-eqb x i same ∙ sym (eq-eqb y j other))
      (λ (apart : x ≢ i).
      let others : y ≢ j = λ same. apart (alike_once b a j x i ra (subst (λ (n : ℕ). IsAlike b a n x) same (alike_back g)) (alike_back h)) in
      ne_eqb x i apart ∙ sym (ne_eqb y j others))
      (cases_eq x i)

  any_alike : (a b : List Node) (i j : ℕ) (left right : List ℕ) → IsReduced vars a → IsReduced vars b → IsAlike a b i j → AllZip (IsAlike a b) left right → list_any (λ x. eqb x i) left ≡ list_any (λ x. eqb x j) right
  any_alike a b i j [] [] ra rb h all = refl
  any_alike a b i j [] (y ∷ ys) ra rb h all = absurd all
  any_alike a b i j (x ∷ xs) [] ra rb h all = absurd all
  any_alike a b i j (x ∷ xs) (y ∷ ys) ra rb h all = ap₂ (λ p q. p || q) (same_test a b i j x y ra rb h all.0) (any_alike a b i j xs ys ra rb h all.1)

-- ---- the walk

cond_same : {X : Type 0} (b : Bool) (x : X) → cond b x x ≡ x
cond_same true x = refl
cond_same false x = refl

constant_ahead : (rows : List Row) (left : List ℕ) (id : ℕ) → id < 2 → row_ahead rows left id ≡ None
constant_ahead rows left zero small = cond_same (list_any (λ x. eqb x 0) left) None
constant_ahead rows left (suc zero) small = cond_same (list_any (λ x. eqb x 1) left) None
constant_ahead rows left (suc (suc id)) small = absurd (omega arith)

none_left : (depth : ℕ) (rows : List Row) (left : List ℕ) (id : ℕ) → row_ahead rows left id ≡ None → left_after depth rows left id ≡ left
none_left zero rows left id none = refl
none_left (suc depth) rows left id none = rw (none, left_after) refl

some_left : (depth : ℕ) (rows : List Row) (left : List ℕ) (id : ℕ) (row : Row) → row_ahead rows left id ≡ Some row → left_after (suc depth) rows left id ≡ left_after depth rows (left_after depth rows left row.low) row.high ++ id ∷ []
some_left depth rows left id row some = rw (some, left_after) refl

row_of_inner : (rows : List TableRow) (i : ℕ) → 2 ≤ i → i < length rows + 2 → row_of_id (case_rows rows) i ≡ Some (case_row (get_or rows (i - 2) (0, 0, 0)))
row_of_inner rows zero inner i_in = absurd (omega arith)
row_of_inner rows (suc zero) inner i_in = absurd (omega arith)
row_of_inner rows (suc (suc r)) inner i_in =
    let r_in : r < length rows = omega arith in
    let place : r ≡ suc (suc r) - 2 = omega arith in
    slice_get-map case_row rows r ∙ ap (λ o. option_map case_row o) (slice_get-get_or rows r (0, 0, 0) r_in) ∙ ap (λ (n : ℕ). Some (case_row (get_or rows n (0, 0, 0)))) place

zip_push : {A B : Type 0} (R : A → B → Type 0) (xs : List A) (ys : List B) (x : A) (y : B) → AllZip R xs ys → R x y → AllZip R (xs ++ x ∷ []) (ys ++ y ∷ [])
zip_push R [] [] x y all one = (one, tt)
zip_push R [] (d ∷ ys) x y all one = absurd all
zip_push R (c ∷ xs) [] x y all one = absurd all
zip_push R (c ∷ xs) (d ∷ ys) x y all one = (all.0, zip_push R xs ys x y all.1 one)

-- the walk stays where it has left the row before, and else goes below it
met_left : (rows : List TableRow) (depth : ℕ) (left : List ℕ) (i : ℕ) → list_any (λ x. eqb x i) left ≡ true → left_after (suc depth) (case_rows rows) left i ≡ left
met_left rows depth left i met = none_left (suc depth) (case_rows rows) left i (ap (λ (b : Bool). cond b None (row_of_id (case_rows rows) i)) met)

inner_left : (rows : List TableRow) (depth : ℕ) (left : List ℕ) (i : ℕ) → 2 ≤ i → i < length rows + 2 → list_any (λ x. eqb x i) left ≡ false
    → left_after (suc depth) (case_rows rows) left i ≡ left_after depth (case_rows rows) (left_after depth (case_rows rows) left (low_of (nodes_of rows) i)) (high_of (nodes_of rows) i) ++ i ∷ []
inner_left rows depth left i inner i_in new =
    let t : TableRow = get_or rows (i - 2) (0, 0, 0) in
    let is : node_at (nodes_of rows) (i - 2) ≡ node_of t = node_at-row rows (i - 2) (omega arith) in
    some_left depth (case_rows rows) left i (case_row t) (ap (λ (b : Bool). cond b None (row_of_id (case_rows rows) i)) new ∙ row_of_inner rows i inner i_in)
    ∙ sym (ap (λ (m : Node). left_after depth (case_rows rows) (left_after depth (case_rows rows) left m.low.0) m.high.0 ++ i ∷ []) is)

module _ (vars : ℕ) (first second : List TableRow) (ra : IsReduced vars (nodes_of first)) (rb : IsReduced vars (nodes_of second)) where
  abbrev Alike : ℕ → ℕ → Type 0
  Alike = IsAlike (nodes_of first) (nodes_of second)

  both_constant : (i j : ℕ) → Alike i j → i < 2 → j < 2
  both_constant i j h small =
      ⊎_elim
      (λ (also : j < 2). also)
      (λ (inner : 2 ≤ j). let large : 2 ≤ i = both_inner vars (nodes_of second) (nodes_of first) j i rb ra (alike_back h) inner in absurd (omega arith))
      (cases_lt j 2)

  walk_constant : (depth other : ℕ) (left right : List ℕ) (i j : ℕ) → Alike i j → i < 2 → AllZip Alike left right → AllZip Alike (left_after depth (case_rows first) left i) (left_after other (case_rows second) right j)
  walk_constant depth other left right i j h small all =
      let a = none_left depth (case_rows first) left i (constant_ahead (case_rows first) left i small) in
      let b = none_left other (case_rows second) right j (constant_ahead (case_rows second) right j (both_constant i j h small)) in
      subst (λ ys. AllZip Alike (left_after depth (case_rows first) left i) ys) (sym b) (subst (λ xs. AllZip Alike xs right) (sym a) all)

  walk_alike : (depth other : ℕ) (left right : List ℕ) (i j : ℕ) → Alike i j → i ≤ depth + 1 → j ≤ other + 1 → AllZip Alike left right
      → AllZip Alike (left_after depth (case_rows first) left i) (left_after other (case_rows second) right j)
  walk_alike zero other left right i j h i_deep j_deep all = walk_constant zero other left right i j h (omega arith) all
  walk_alike (suc depth) zero left right i j h i_deep j_deep all =
      ⊎_elim
      (λ (small : i < 2). walk_constant (suc depth) zero left right i j h small all)
      (λ (inner : 2 ≤ i). let large : 2 ≤ j = both_inner vars (nodes_of first) (nodes_of second) i j ra rb h inner in absurd (omega arith))
      (cases_lt i 2)
  walk_alike (suc depth) (suc other) left right i j h i_deep j_deep all =
      ⊎_elim
      (λ (small : i < 2). walk_constant (suc depth) (suc other) left right i j h small all)
      (λ (inner : 2 ≤ i).
      let a : List Node = nodes_of first in
      let b : List Node = nodes_of second in
      let s : AreAlike vars a b i j = alike_inner vars a b i j ra rb h inner in
      let other_inner : 2 ≤ j = s.inner in
      let i_in : i < length first + 2 = omega (arith, h.left_in, row_count first) in
      let j_in : j < length second + 2 = omega (arith, h.right_in, row_count second) in
      let low_a : low_of a i < i = low_of-less vars a i ra inner h.left_in in
      let high_a : high_of a i < i = high_of-less vars a i ra inner h.left_in in
      let low_b : low_of b j < j = low_of-less vars b j rb other_inner h.right_in in
      let high_b : high_of b j < j = high_of-less vars b j rb other_inner h.right_in in
      let same : list_any (λ x. eqb x i) left ≡ list_any (λ x. eqb x j) right = any_alike vars a b i j left right ra rb h all in
      ⊎_elim
      (λ (met : list_any (λ x. eqb x i) left ≡ true).
      let e = met_left first depth left i met in
      let f = met_left second other right j (sym same ∙ met) in
      subst (λ ys. AllZip Alike (left_after (suc depth) (case_rows first) left i) ys) (sym f) (subst (λ xs. AllZip Alike xs right) (sym e) all))
      (λ (new : list_any (λ x. eqb x i) left ≡ false).
      let e = inner_left first depth left i inner i_in new in
      let f = inner_left second other right j other_inner j_in (sym same ∙ new) in
      let lows = walk_alike depth other left right (low_of a i) (low_of b j) s.low (omega arith) (omega arith) all in
      let highs = walk_alike depth other (left_after depth (case_rows first) left (low_of a i)) (left_after other (case_rows second) right (low_of b j)) (high_of a i) (high_of b j) s.high (omega arith) (omega arith) lows in
      let own = zip_push Alike _ _ i j highs h in
      subst (λ ys. AllZip Alike (left_after (suc depth) (case_rows first) left i) ys) (sym f)
      (subst (λ xs. AllZip Alike xs (left_after other (case_rows second) (left_after other (case_rows second) right (low_of b j)) (high_of b j) ++ j ∷ [])) (sym e) own))
      (cases_Bool (list_any (λ x. eqb x i) left)))
      (cases_lt i 2)

  walk_all_alike : (left right ids others : List ℕ) → AllZip Alike ids others → AllZip Alike left right → AllZip Alike (left_after_all (case_rows first) left ids) (left_after_all (case_rows second) right others)
  walk_all_alike left right [] [] some all = all
  walk_all_alike left right [] (j ∷ js) some all = absurd some
  walk_all_alike left right (i ∷ is) [] some all = absurd some
  walk_all_alike left right (i ∷ is) (j ∷ js) some all =
      let i_in : i < length (nodes_of first) + 2 = some.0.left_in in
      let j_in : j < length (nodes_of second) + 2 = some.0.right_in in
      walk_all_alike (left_after (length (case_rows first)) (case_rows first) left i) (left_after (length (case_rows second)) (case_rows second) right j) is js some.1
      (walk_alike (length (case_rows first)) (length (case_rows second)) left right i j some.0 (omega (arith, row_count first, length-map first case_row)) (omega (arith, row_count second, length-map second case_row)) all)

  numbers_alike : (k m n : ℕ) → AllZip Alike (numbers_from k m) (numbers_from k n) → (m ≡ n) × ((i : ℕ) → k ≤ i → i < k + m → Alike i i)
  numbers_alike k zero zero all = (refl, λ i from below. absurd (omega arith))
  numbers_alike k zero (suc n) all = absurd all
  numbers_alike k (suc m) zero all = absurd all
  numbers_alike k (suc m) (suc n) all =
      let rest = numbers_alike (suc k) m n all.1 in (
        ap suc rest.0,
        λ i from below.
            ⊎_elim
            (λ (here : k ≡ i). subst (λ (x : ℕ). Alike x x) here all.0)
            (λ (later : k ≢ i). rest.1 i (omega arith) (omega arith))
            (cases_eq k i),
      )

  -- where every number is alike with itself, the rows are the same
  module _ (count : length first ≡ length second) (each : (i : ℕ) → 2 ≤ i → i < 2 + length first → Alike i i) where
    itself : (i : ℕ) → i < length first + 2 → Alike i i
    itself i i_in =
        ⊎_elim
        (λ (small : i < 2). record {
          left_in = omega (arith, row_count first);
          right_in = omega (arith, row_count second);
          same = λ w. value-constant (nodes_of first) i w small ∙ sym (value-constant (nodes_of second) i w small);
        })
        (λ (inner : 2 ≤ i). each i inner (omega arith))
        (cases_lt i 2)

    same_row_at : (k : ℕ) → k < length first → get_or first k (0, 0, 0) ≡ get_or second k (0, 0, 0)
    same_row_at k k_in =
        let a : List Node = nodes_of first in
        let b : List Node = nodes_of second in
        let h : Alike (k + 2) (k + 2) = itself (k + 2) (omega arith) in
        let s : AreAlike vars a b (k + 2) (k + 2) = alike_inner vars a b (k + 2) (k + 2) ra rb h (omega arith) in
        let place : k + 2 - 2 ≡ k = omega arith in
        let left : node_at a (k + 2 - 2) ≡ node_of (get_or first k (0, 0, 0)) = ap (node_at a) place ∙ node_at-row first k k_in in
        let right : node_at b (k + 2 - 2) ≡ node_of (get_or second k (0, 0, 0)) = ap (node_at b) place ∙ node_at-row second k (omega arith) in
        let low_in : low_of a (k + 2) < length first + 2 = omega (arith, s.low.left_in, row_count first) in
        let high_in : high_of a (k + 2) < length first + 2 = omega (arith, s.high.left_in, row_count first) in
        let lows : low_of a (k + 2) ≡ low_of b (k + 2) = alike_once vars a b (low_of a (k + 2)) (low_of a (k + 2)) (low_of b (k + 2)) rb (itself (low_of a (k + 2)) low_in) s.low in
        let highs : high_of a (k + 2) ≡ high_of b (k + 2) = alike_once vars a b (high_of a (k + 2)) (high_of a (k + 2)) (high_of b (k + 2)) rb (itself (high_of a (k + 2)) high_in) s.high in
        let p : (get_or first k (0, 0, 0)).0 ≡ (get_or second k (0, 0, 0)).0 = sym (ap (λ (m : Node). m.var) left) ∙ s.variable ∙ ap (λ (m : Node). m.var) right in
        let q : (get_or first k (0, 0, 0)).1 ≡ (get_or second k (0, 0, 0)).1 = sym (ap (λ (m : Node). m.low.0) left) ∙ lows ∙ ap (λ (m : Node). m.low.0) right in
        let r : (get_or first k (0, 0, 0)).2 ≡ (get_or second k (0, 0, 0)).2 = sym (ap (λ (m : Node). m.high.0) left) ∙ highs ∙ ap (λ (m : Node). m.high.0) right in
        λ i. (p i, q i, r i)

    same_rows : first ≡ second
    same_rows = ext_get_or (0, 0, 0) first second count same_row_at

  -- the walks leave all rows in their order, so the numbers of the rows are alike one by one
  pub tables_same : (ids others : List ℕ) → AllZip Alike ids others → left_after_all (case_rows first) [] ids ≡ numbers_from 2 (length first)
      → left_after_all (case_rows second) [] others ≡ numbers_from 2 (length second) → first ≡ second
  tables_same ids others some e f =
      let all : AllZip Alike (numbers_from 2 (length first)) (numbers_from 2 (length second)) =
      subst (λ ys. AllZip Alike (numbers_from 2 (length first)) ys) f (subst (λ xs. AllZip Alike xs (left_after_all (case_rows second) [] others)) e (walk_all_alike [] [] ids others some tt)) in
      let numbers = numbers_alike 2 (length first) (length second) all in
      same_rows numbers.0 numbers.1
