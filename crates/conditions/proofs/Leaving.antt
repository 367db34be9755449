-- How a walk leaves the rows of a table.
use Rattle.std.proofs.Common.{◌≡◌, ◌≢◌, ℕ, zero, suc, ◌+◌, ◌-◌, ◌<◌, ◌≤◌, Bool, true, false, cond, eqb, List, [], ◌∷◌, ◌++◌, length, set, get_or, slice_index, Some, None, arith, sym, ap, subst, ◌∙◌, refl, ⊎_elim, length-append, length-set, option_map, replicate, get_or-set_other, get_or-set_same}
use Rattle.std.specs.List.{slice_get, list_any}
use Rattle.std.proofs.Math.ListN.{get_or-append}
use Rattle.std.proofs.lemmas.Bool.{cases_lt, cases_eq}
use Rattle.std.proofs.lemmas.Bool.Decides.{nat_tests}
use Rattle.std.proofs.lemmas.List.{get_or-map, length-map, map-append, length-replicate, get_or-replicate}
use Rattle.std.proofs.lemmas.Option.{slice_get-get_or, slice_get-map, get_or_from_slice_get}
use Rattle.std.proofs.Math.Seq.{get_or-append_seam}
use Rattle.meaning.specs.CaseFiles.{Row}
use Rattle.meaning.specs.Cofactors.{World}
use Rattle.meaning.specs.Texts.{numbers_from}
use Rattle.meaning.specs.TableOrder.{row_of_id, row_ahead, left_after, left_after_all}
use Rattle.node_pool.specs.declared.node.Node.{Node}
use Rattle.node_pool.specs.declared.node.NodeNo.{NodeNo}
use Rattle.node_pool.specs.Nodes.{node_at, no_node, triple, value, MayStand, IsReduced, IsAbsent, Extends}
use Rattle.node_pool.specs.Regions.{Region}
use Rattle.node_pool.proofs.Reduced.{top_of-constant, top_of-inner, top_of-extends, Extends-refl, Extends-trans, Extends-push, IsReduced-push, node_at-pushed}
use Rattle.node_pool.proofs.Values.{stands_at, value-constant, value-inner, value-extends}
use Rattle.node_pool.proofs.Canonical.{canonical}
use Rattle.conditions.specs.Tables.{TableRow, node_of, nodes_of, case_row, case_rows, IsNamed, IsExported}
use Rattle.conditions.specs.Leaving.{StandsFor, IsLeaving, Lengthens, IsLeft, IsGathered}
use Rattle.conditions.proofs.Counting.{pigeonhole}

-- ---- rows and nodes

abbrev no_row : TableRow
no_row = (0, 0, 0)

pub row_count : (rows : List TableRow) → length (nodes_of rows) ≡ length rows
row_count rows = length-map rows node_of

pub node_at-row : (rows : List TableRow) (k : ℕ) → k < length rows → node_at (nodes_of rows) k ≡ node_of (get_or rows k no_row)
node_at-row rows k k_in = get_or-map node_of rows k no_row no_node k_in

pub one_more_row : (rows : List TableRow) (t : TableRow) → length (rows ++ t ∷ []) ≡ length rows + 1
one_more_row rows t = omega (arith, length-append rows (t ∷ []))

pub nodes_of-pushed : (rows : List TableRow) (t : TableRow) → nodes_of (rows ++ t ∷ []) ≡ nodes_of rows ++ node_of t ∷ []
nodes_of-pushed rows t = map-append node_of rows (t ∷ [])

pub Extends-pushed : (rows : List TableRow) (t : TableRow) → Extends (nodes_of rows) (nodes_of (rows ++ t ∷ []))
Extends-pushed rows t = rw nodes_of-pushed (Extends-push (nodes_of rows) (node_of t))

pub Lengthens-itself : (rows : List TableRow) → Lengthens rows rows
Lengthens-itself rows = record { no_shorter = omega arith; kept = λ k k_in. refl }

pub Lengthens-then : {a b c : List TableRow} → Lengthens a b → Lengthens b c → Lengthens a c
Lengthens-then {a} {b} {c} first second = record {
  no_shorter = omega (arith, first.no_shorter, second.no_shorter);
  kept = λ k k_in. second.kept k (omega (arith, first.no_shorter)) ∙ first.kept k k_in;
}

pub Lengthens-push : (rows : List TableRow) (t : TableRow) → Lengthens rows (rows ++ t ∷ [])
Lengthens-push rows t =
    let more : length (rows ++ t ∷ []) ≡ length rows + 1 = one_more_row rows t in
    record {
      no_shorter = omega arith;
      kept = λ k k_in.
          slice_get-get_or (rows ++ t ∷ []) k no_row (omega arith)
          ∙ ap Some (get_or-append rows (t ∷ []) no_row k k_in)
          ∙ sym (slice_get-get_or rows k no_row k_in);
    }

-- what stood for a number still does
pub StandsFor-later : {r : Region} {old new : List TableRow} (n id : ℕ) → IsReduced r.vars (nodes_of old) → Extends (nodes_of old) (nodes_of new) → StandsFor r old n id → StandsFor r new n id
StandsFor-later {r} {old} {new} n id reduced longer s =
    let id_in : id < length (nodes_of old) + 2 = omega (arith, s.there, row_count old) in
    record {
      there = omega (arith, s.there, longer.no_shorter, row_count old, row_count new);
      top = top_of-extends r.vars (nodes_of old) (nodes_of new) id longer id_in ∙ s.top;
      function = λ w. value-extends r.vars (nodes_of old) (nodes_of new) id w reduced longer id_in ∙ s.function w;
    }

-- each row comes from a node, and no two from one
pub rows_few : {r : Region} {ids : List ℕ} {rows : List TableRow} → IsLeaving r ids rows → length rows ≤ length r.nodes
rows_few {r} {ids} {rows} l =
    let few : length rows ≤ length ids = pigeonhole (length ids) (length rows) l.source l.source_in
    (λ i j i_in j_in same.
    let e : i + 2 ≡ j + 2 = sym (l.source_is i i_in) ∙ ap (λ (p : ℕ). slice_index ids p) same ∙ l.source_is j j_in in
    omega arith) in
    omega (arith, l.all_places)

-- what was read at a place
pub read_is : (xs : List ℕ) (i x : ℕ) → i < length xs → x ≡ get_or xs i x → x ≡ slice_index xs i
read_is xs i x i_in is = is ∙ sym (get_or_from_slice_get xs i (get_or xs i x) 0 (slice_get-get_or xs i x i_in))

-- ---- the walk over rows

ahead_none : (depth : ℕ) (rows : List Row) (left : List ℕ) (id : ℕ) → row_ahead rows left id ≡ None → left_after depth rows left id ≡ left
ahead_none zero rows left id none = refl
ahead_none (suc depth) rows left id none = rw (none, left_after) refl

ahead_some : (depth : ℕ) (rows : List Row) (left : List ℕ) (id : ℕ) (row : Row) → row_ahead rows left id ≡ Some row → left_after (suc depth) rows left id ≡ left_after depth rows (left_after depth rows left row.low) row.high ++ id ∷ []
ahead_some depth rows left id row some = rw (some, left_after) refl

cond_same : {X : Type 0} (b : Bool) (x : X) → cond b x x ≡ x
cond_same true x = refl
cond_same false x = refl

constant_ahead : (rows : List Row) (left : List ℕ) (id : ℕ) → id < 2 → row_ahead rows left id ≡ None
constant_ahead rows left zero small = cond_same (list_any (λ x. eqb x 0) left) None
constant_ahead rows left (suc zero) small = cond_same (list_any (λ x. eqb x 1) left) None
constant_ahead rows left (suc (suc id)) small = absurd (omega arith)

in_numbers : (k n id : ℕ) → k ≤ id → id < k + n → list_any (λ x. eqb x id) (numbers_from k n) ≡ true
in_numbers k zero id from below = absurd (omega arith)
in_numbers k (suc n) id from below =
    ⊎_elim
    (λ (here : k ≡ id). let e : eqb k id ≡ true = grind (arith, nat_tests) in rw e refl)
    (λ (other : k ≢ id). let e : eqb k id ≡ false = grind (arith, nat_tests) in rw e (in_numbers (suc k) n id (omega arith) (omega arith)))
    (cases_eq k id)

not_in_numbers : (k n id : ℕ) → k + n ≤ id → list_any (λ x. eqb x id) (numbers_from k n) ≡ false
not_in_numbers k zero id past = refl
not_in_numbers k (suc n) id past =
    let e : eqb k id ≡ false = grind (arith, nat_tests) in
    rw e (not_in_numbers (suc k) n id (omega arith))

numbers_more : (k n : ℕ) → numbers_from k n ++ (k + n) ∷ [] ≡ numbers_from k (suc n)
numbers_more k zero = let e : k + 0 ≡ k = omega arith in rw e refl
numbers_more k (suc n) =
    let e : k + suc n ≡ suc k + n = omega arith in
    rw e (ap (λ (xs : List ℕ). k ∷ xs) (numbers_more (suc k) n))

row_of : (rows : List Row) (id : ℕ) → 2 ≤ id → row_of_id rows id ≡ slice_get rows (id - 2)
row_of rows zero inner = absurd (omega arith)
row_of rows (suc zero) inner = absurd (omega arith)
row_of rows (suc (suc k)) inner = let e : suc (suc k) - 2 ≡ k = omega arith in rw e refl

-- a row that the walk has not left
new_ahead_later : (final : List TableRow) (left n id : ℕ) (t : TableRow) → left ≤ n → id ≡ n + 2 → slice_get final n ≡ Some t → row_ahead (case_rows final) (numbers_from 2 left) id ≡ Some (case_row t)
new_ahead_later final left n id t past is there =
    let not_left : list_any (λ x. eqb x id) (numbers_from 2 left) ≡ false = not_in_numbers 2 left id (omega arith) in
    let place : id - 2 ≡ n = omega arith in
    let row : row_of_id (case_rows final) id ≡ Some (case_row t) =
    row_of (case_rows final) id (omega arith) ∙ ap (slice_get (case_rows final)) place ∙ slice_get-map case_row final n ∙ ap (option_map case_row) there in
    rw not_left row

-- ---- a number that leaves no row

pub IsLeft-constant : (r : Region) (n : ℕ) (ids : List ℕ) (rows : List TableRow) → n < 2 → IsLeaving r ids rows → IsLeft r n ids rows ids rows n
IsLeft-constant r n ids rows small l = record {
  leaving = l;
  extends = Extends-refl (nodes_of rows);
  lengthens = Lengthens-itself rows;
  later_same = λ place later. refl;
  stands = record {
    there = omega arith;
    top = top_of-constant r.vars (nodes_of rows) n small ∙ sym (top_of-constant r.vars r.nodes n small);
    function = λ w. value-constant (nodes_of rows) n w small ∙ sym (value-constant r.nodes n w small);
  };
  order = λ final depth longer deep. ahead_none depth (case_rows final) (numbers_from 2 (length rows)) n (constant_ahead (case_rows final) (numbers_from 2 (length rows)) n small);
}

pub IsLeft-known : (r : Region) (n place : ℕ) (ids : List ℕ) (rows : List TableRow) → n ≡ place + 2 → place < length ids → 0 < slice_index ids place → IsLeaving r ids rows → IsLeft r n ids rows ids rows (slice_index ids place)
IsLeft-known r n place ids rows here place_in some l =
    let known = l.known place place_in some in
    let id : ℕ = slice_index ids place in
    let id_in : id < length rows + 2 = known.1.there in
    let inner : 2 ≤ id = known.0 in
    record {
      leaving = l;
      extends = Extends-refl (nodes_of rows);
      lengthens = Lengthens-itself rows;
      later_same = λ p later. refl;
      stands = subst (λ (m : ℕ). StandsFor r rows m id) (sym here) known.1;
      order = λ final depth longer deep.
          ahead_none depth (case_rows final) (numbers_from 2 (length rows)) id
          (let left : list_any (λ x. eqb x id) (numbers_from 2 (length rows)) ≡ true = in_numbers 2 (length rows) id inner (omega arith) in rw left refl);
    }

-- ---- a number whose row is the next

-- all below the number was left
pub record IsReady (r : Region) (n var : ℕ) (low high : NodeNo) (ids : List ℕ) (rows : List TableRow) (low_id high_id : ℕ) : Type 0 where
  pub reduced : IsReduced r.vars r.nodes
  pub inner : 2 ≤ n
  pub n_in : n < length r.nodes + 2
  pub node : node_at r.nodes (n - 2) ≡ triple var low high
  pub leaving : IsLeaving r ids rows
  pub unknown : slice_index ids (n - 2) ≡ 0
  pub low_stands : StandsFor r rows low.0 low_id
  pub high_stands : StandsFor r rows high.0 high_id

abbrev next_row : ℕ → ℕ → ℕ → TableRow
next_row var low_id high_id = (var, low_id, high_id)

ready_node : {r : Region} {n var low_id high_id : ℕ} {low high : NodeNo} {ids : List ℕ} {rows : List TableRow} → IsReady r n var low high ids rows low_id high_id → MayStand r.vars r.nodes (triple var low high) (n - 2)
ready_node {r} {n} b = subst (λ (m : Node). MayStand r.vars r.nodes m (n - 2)) b.node (stands_at r.vars r.nodes n b.reduced b.inner b.n_in)

number_value : {r : Region} {n var low_id high_id : ℕ} {low high : NodeNo} {ids : List ℕ} {rows : List TableRow} (w : World) → IsReady r n var low high ids rows low_id high_id → value r.nodes n w ≡ cond (w var) (value r.nodes high.0 w) (value r.nodes low.0 w)
number_value {r} {n} w b =
    value-inner r.vars r.nodes n w b.reduced b.inner b.n_in
    ∙ ap (λ (m : Node). cond (w m.var) (value r.nodes m.high.0 w) (value r.nodes m.low.0 w)) b.node

cond_both : (b : Bool) (x x' y y' : Bool) → x ≡ x' → y ≡ y' → cond b x y ≡ cond b x' y'
cond_both b x x' y y' p q = rw (p, q) refl

-- a row with this triple has the number's function
row_value : {r : Region} {n var low_id high_id : ℕ} {low high : NodeNo} {ids : List ℕ} {rows : List TableRow} (more : List TableRow) (id : ℕ) (w : World) → IsReady r n var low high ids rows low_id high_id → IsReduced r.vars (nodes_of more) → Extends (nodes_of rows) (nodes_of more) → 2 ≤ id → id < length (nodes_of more) + 2 → node_at (nodes_of more) (id - 2) ≡ node_of (next_row var low_id high_id) → value (nodes_of more) id w ≡ value r.nodes n w
row_value {r} {n} {var} {low_id} {high_id} {low} {high} {ids} {rows} more id w b reduced longer inner id_in is =
    value-inner r.vars (nodes_of more) id w reduced inner id_in
    ∙ ap (λ (m : Node). cond (w m.var) (value (nodes_of more) m.high.0 w) (value (nodes_of more) m.low.0 w)) is
    ∙ cond_both (w var) _ _ _ _
    ((StandsFor-later high.0 high_id b.leaving.reduced longer b.high_stands).function w)
    ((StandsFor-later low.0 low_id b.leaving.reduced longer b.low_stands).function w)
    ∙ sym (number_value w b)

ready_stands : {r : Region} {n var low_id high_id : ℕ} {low high : NodeNo} {ids : List ℕ} {rows : List TableRow} → IsReady r n var low high ids rows low_id high_id → MayStand r.vars (nodes_of rows) (node_of (next_row var low_id high_id)) (length (nodes_of rows))
ready_stands {r} {n} {var} {low_id} {high_id} {low} {high} {ids} {rows} b =
    let s : MayStand r.vars r.nodes (triple var low high) (n - 2) = ready_node b in
    let low_there : low_id < length rows + 2 = b.low_stands.there in
    let high_there : high_id < length rows + 2 = b.high_stands.there in
    let n_in : n < length r.nodes + 2 = b.n_in in
    let inner : 2 ≤ n = b.inner in
    let low_in : low.0 < n - 2 + 2 = s.low_in in
    let high_in : high.0 < n - 2 + 2 = s.high_in in
    record {
      var_in = s.var_in;
      low_in = omega (arith, row_count rows);
      high_in = omega (arith, row_count rows);
      low_after = omega (arith, b.low_stands.top, s.low_after);
      high_after = omega (arith, b.high_stands.top, s.high_after);
      children_differ = λ same.
          s.children_differ (canonical r.vars r.nodes low.0 high.0 b.reduced (omega arith) (omega arith) (λ w.
          sym (b.low_stands.function w) ∙ ap (λ (k : ℕ). value (nodes_of rows) k w) same ∙ b.high_stands.function w));
    }

ready_absent : {r : Region} {n var low_id high_id : ℕ} {low high : NodeNo} {ids : List ℕ} {rows : List TableRow} → IsReady r n var low high ids rows low_id high_id → IsAbsent (nodes_of rows) (node_of (next_row var low_id high_id))
ready_absent {r} {n} {var} {low_id} {high_id} {low} {high} {ids} {rows} b k k_in same =
    let l : IsLeaving r ids rows = b.leaving in
    let row_in : k < length rows = omega (arith, row_count rows) in
    let place : ℕ = l.source k in
    let place_in : place < length ids = l.source_in k row_in in
    let id_is : slice_index ids place ≡ k + 2 = l.source_is k row_in in
    let known = l.known place place_in (omega arith) in
    let place_less : place + 2 < length r.nodes + 2 = omega (arith, l.all_places) in
    let here : k + 2 - 2 ≡ k = omega arith in
    let number : place + 2 ≡ n = canonical r.vars r.nodes (place + 2) n b.reduced place_less b.n_in (λ w.
    sym (known.1.function w)
    ∙ ap (λ (m : ℕ). value (nodes_of rows) m w) id_is
    ∙ row_value rows (k + 2) w b l.reduced (Extends-refl (nodes_of rows)) (omega arith) (omega arith) (ap (node_at (nodes_of rows)) here ∙ same)) in
    let at : n - 2 ≡ place = omega arith in
    let none : k + 2 ≡ 0 = sym id_is ∙ ap (λ (p : ℕ). slice_index ids p) (sym at) ∙ b.unknown in
    absurd (omega arith)

ready_reduced : {r : Region} {n var low_id high_id : ℕ} {low high : NodeNo} {ids : List ℕ} {rows : List TableRow} → IsReady r n var low high ids rows low_id high_id → IsReduced r.vars (nodes_of (rows ++ next_row var low_id high_id ∷ []))
ready_reduced {r} {n} {var} {low_id} {high_id} {low} {high} {ids} {rows} b =
    rw nodes_of-pushed (IsReduced-push r.vars (nodes_of rows) (node_of (next_row var low_id high_id)) b.leaving.reduced (ready_stands b) (ready_absent b))

ready_named : {r : Region} {n var low_id high_id : ℕ} {low high : NodeNo} {ids : List ℕ} {rows : List TableRow} → IsReady r n var low high ids rows low_id high_id → StandsFor r (rows ++ next_row var low_id high_id ∷ []) n (length rows + 2)
ready_named {r} {n} {var} {low_id} {high_id} {low} {high} {ids} {rows} b =
    let t : TableRow = next_row var low_id high_id in
    let more : List TableRow = rows ++ t ∷ [] in
    let count : length more ≡ length rows + 1 = one_more_row rows t in
    let node_count : length (nodes_of more) ≡ length rows + 1 = row_count more ∙ count in
    let place : length rows + 2 - 2 ≡ length (nodes_of rows) = omega (arith, row_count rows) in
    let is : node_at (nodes_of more) (length rows + 2 - 2) ≡ node_of t =
    ap (node_at (nodes_of more)) place ∙ ap (λ (ns : List Node). node_at ns (length (nodes_of rows))) (nodes_of-pushed rows t) ∙ node_at-pushed (nodes_of rows) (node_of t) in
    record {
      there = omega arith;
      top = top_of-inner r.vars (nodes_of more) (length rows + 2) (omega arith) ∙ ap (λ (m : Node). m.var) is
          ∙ sym (top_of-inner r.vars r.nodes n b.inner ∙ ap (λ (m : Node). m.var) b.node);
      function = λ w. row_value more (length rows + 2) w b (ready_reduced b) (Extends-pushed rows t) (omega arith) (omega arith) is;
    }

-- the identifier is written at the number's place
ready_leaving : {r : Region} {n var low_id high_id : ℕ} {low high : NodeNo} {ids : List ℕ} {rows : List TableRow} → IsReady r n var low high ids rows low_id high_id → IsLeaving r (set ids (n - 2) (length rows + 2)) (rows ++ next_row var low_id high_id ∷ [])
ready_leaving {r} {n} {var} {low_id} {high_id} {low} {high} {ids} {rows} b =
    let l : IsLeaving r ids rows = b.leaving in
    let t : TableRow = next_row var low_id high_id in
    let more : List TableRow = rows ++ t ∷ [] in
    let id : ℕ = length rows + 2 in
    let written : List ℕ = set ids (n - 2) id in
    let count : length more ≡ length rows + 1 = one_more_row rows t in
    let long : length written ≡ length ids = length-set ids (n - 2) id in
    let inner : 2 ≤ n = b.inner in
    let n_in : n < length r.nodes + 2 = b.n_in in
    let here_in : n - 2 < length ids = omega (arith, l.all_places) in
    let here : slice_index written (n - 2) ≡ id = get_or-set_same ids (n - 2) id 0 here_in in
    let others : (p : ℕ) → p ≢ n - 2 → slice_index written p ≡ slice_index ids p = λ p other. get_or-set_other ids (n - 2) p id 0 other in
    let source : ℕ → ℕ = λ k. cond (eqb k (length rows)) (n - 2) (l.source k) in
    let source_last : (k : ℕ) → k ≡ length rows → source k ≡ n - 2 = λ k last. let e : eqb k (length rows) ≡ true = grind (arith, nat_tests) in rw e refl in
    let source_old : (k : ℕ) → k ≢ length rows → source k ≡ l.source k = λ k other. let e : eqb k (length rows) ≡ false = grind (arith, nat_tests) in rw e refl in
    record {
      all_places = long ∙ l.all_places;
      reduced = ready_reduced b;
      known = λ place place_in some.
          ⊎_elim
          (λ (at : place ≡ n - 2).
          let id_is : slice_index written place ≡ id = ap (λ (p : ℕ). slice_index written p) at ∙ here in
          let number : n ≡ place + 2 = omega arith in
          (omega arith, subst (λ (i : ℕ). StandsFor r more (place + 2) i) (sym id_is) (subst (λ (m : ℕ). StandsFor r more m id) number (ready_named b))))
          (λ (other : place ≢ n - 2).
          let same : slice_index written place ≡ slice_index ids place = others place other in
          let known = l.known place (omega arith) (omega arith) in
          (omega (arith, known.0), subst (λ (i : ℕ). StandsFor r more (place + 2) i) (sym same) (StandsFor-later (place + 2) (slice_index ids place) l.reduced (Extends-pushed rows t) known.1)))
          (cases_eq place (n - 2));
      source = source;
      source_in = λ k k_in.
          ⊎_elim
          (λ (last : k ≡ length rows). omega (arith, source_last k last))
          (λ (other : k ≢ length rows). let old : k < length rows = omega arith in omega (arith, source_old k other, l.source_in k old))
          (cases_eq k (length rows));
      source_is = λ k k_in.
          ⊎_elim
          (λ (last : k ≡ length rows). ap (λ (p : ℕ). slice_index written p) (source_last k last) ∙ here ∙ omega arith)
          (λ (other : k ≢ length rows).
          let old : k < length rows = omega arith in
          let old_is : slice_index ids (l.source k) ≡ k + 2 = l.source_is k old in
          let apart : l.source k ≢ n - 2 = λ same. let none : slice_index ids (l.source k) ≡ 0 = ap (λ (p : ℕ). slice_index ids p) same ∙ b.unknown in omega arith in
          ap (λ (p : ℕ). slice_index written p) (source_old k other) ∙ others (l.source k) apart ∙ old_is)
          (cases_eq k (length rows));
    }

-- ---- the two halves and the number's own row

pub IsReady-left : (r : Region) (n var : ℕ) (low high : NodeNo) (ids ids_low ids_high : List ℕ) (rows rows_low rows_high : List TableRow) (low_id high_id : ℕ) → IsReduced r.vars r.nodes → 2 ≤ n → n < length r.nodes + 2 → node_at r.nodes (n - 2) ≡ triple var low high → slice_index ids (n - 2) ≡ 0 → IsLeft r low.0 ids rows ids_low rows_low low_id → IsLeft r high.0 ids_low rows_low ids_high rows_high high_id → IsReady r n var low high ids_high rows_high low_id high_id
IsReady-left r n var low high ids ids_low ids_high rows rows_low rows_high low_id high_id reduced inner n_in node unknown a d =
    let s : MayStand r.vars r.nodes (triple var low high) (n - 2) = subst (λ (m : Node). MayStand r.vars r.nodes m (n - 2)) node (stands_at r.vars r.nodes n reduced inner n_in) in
    let low_in : low.0 < n - 2 + 2 = s.low_in in
    let high_in : high.0 < n - 2 + 2 = s.high_in in
    record {
      reduced = reduced;
      inner = inner;
      n_in = n_in;
      node = node;
      leaving = d.leaving;
      unknown = d.later_same (n - 2) (omega arith) ∙ a.later_same (n - 2) (omega arith) ∙ unknown;
      low_stands = StandsFor-later low.0 low_id a.leaving.reduced d.extends a.stands;
      high_stands = d.stands;
    }

new_order : (r : Region) (n var : ℕ) (low high : NodeNo) (ids ids_low ids_high : List ℕ) (rows rows_low rows_high : List TableRow) (low_id high_id : ℕ) → IsLeft r low.0 ids rows ids_low rows_low low_id → IsLeft r high.0 ids_low rows_low ids_high rows_high high_id → (final : List TableRow) (depth : ℕ) → Lengthens (rows_high ++ next_row var low_id high_id ∷ []) final → length rows_high + 2 ≤ depth + 1 → left_after depth (case_rows final) (numbers_from 2 (length rows)) (length rows_high + 2) ≡ numbers_from 2 (length (rows_high ++ next_row var low_id high_id ∷ []))
new_order r n var low high ids ids_low ids_high rows rows_low rows_high low_id high_id a d final zero longer deep = absurd (omega arith)
new_order r n var low high ids ids_low ids_high rows rows_low rows_high low_id high_id a d final (suc depth) longer deep =
    let t : TableRow = next_row var low_id high_id in
    let more : List TableRow = rows_high ++ t ∷ [] in
    let count : length more ≡ suc (length rows_high) = omega (arith, one_more_row rows_high t) in
    let high_longer : Lengthens rows_high final = Lengthens-then (Lengthens-push rows_high t) longer in
    let low_longer : Lengthens rows_low final = Lengthens-then d.lengthens high_longer in
    let low_there : low_id < length rows_low + 2 = a.stands.there in
    let high_there : high_id < length rows_high + 2 = d.stands.there in
    let not_fewer : length rows_low ≤ length rows_high = d.lengthens.no_shorter in
    let fewer : length rows ≤ length rows_low = a.lengthens.no_shorter in
    let there : slice_get final (length rows_high) ≡ Some t =
    longer.kept (length rows_high) (omega arith) ∙ slice_get-get_or more (length rows_high) no_row (omega arith) ∙ ap Some (get_or-append_seam rows_high t [] no_row) in
    let ahead : row_ahead (case_rows final) (numbers_from 2 (length rows)) (length rows_high + 2) ≡ Some (case_row t) = new_ahead_later final (length rows) (length rows_high) (length rows_high + 2) t (omega arith) refl there in
    let low_left : left_after depth (case_rows final) (numbers_from 2 (length rows)) low_id ≡ numbers_from 2 (length rows_low) = a.order final depth low_longer (omega arith) in
    let high_left : left_after depth (case_rows final) (numbers_from 2 (length rows_low)) high_id ≡ numbers_from 2 (length rows_high) = d.order final depth high_longer (omega arith) in
    let swap : length rows_high + 2 ≡ 2 + length rows_high = omega arith in
    ahead_some depth (case_rows final) (numbers_from 2 (length rows)) (length rows_high + 2) (case_row t) ahead
    ∙ ap (λ (left : List ℕ). left_after depth (case_rows final) left high_id ++ (length rows_high + 2) ∷ []) low_left
    ∙ ap (λ (left : List ℕ). left ++ (length rows_high + 2) ∷ []) high_left
    ∙ ap (λ (last : ℕ). numbers_from 2 (length rows_high) ++ last ∷ []) swap
    ∙ numbers_more 2 (length rows_high)
    ∙ ap (numbers_from 2) (sym count)

pub IsLeft-new : (r : Region) (n var : ℕ) (low high : NodeNo) (ids ids_low ids_high : List ℕ) (rows rows_low rows_high : List TableRow) (low_id high_id : ℕ) → IsReduced r.vars r.nodes → 2 ≤ n → n < length r.nodes + 2 → node_at r.nodes (n - 2) ≡ triple var low high → slice_index ids (n - 2) ≡ 0 → IsLeft r low.0 ids rows ids_low rows_low low_id → IsLeft r high.0 ids_low rows_low ids_high rows_high high_id → IsLeft r n ids rows (set ids_high (n - 2) (length rows_high + 2)) (rows_high ++ next_row var low_id high_id ∷ []) (length rows_high + 2)
IsLeft-new r n var low high ids ids_low ids_high rows rows_low rows_high low_id high_id reduced inner n_in node unknown a d =
    let b : IsReady r n var low high ids_high rows_high low_id high_id = IsReady-left r n var low high ids ids_low ids_high rows rows_low rows_high low_id high_id reduced inner n_in node unknown a d in
    let t : TableRow = next_row var low_id high_id in
    let s : MayStand r.vars r.nodes (triple var low high) (n - 2) = ready_node b in
    let low_in : low.0 < n - 2 + 2 = s.low_in in
    let high_in : high.0 < n - 2 + 2 = s.high_in in
    record {
      leaving = ready_leaving b;
      extends = Extends-trans (nodes_of rows) (nodes_of rows_high) (nodes_of (rows_high ++ t ∷ [])) (Extends-trans (nodes_of rows) (nodes_of rows_low) (nodes_of rows_high) a.extends d.extends) (Extends-pushed rows_high t);
      lengthens = Lengthens-then (Lengthens-then a.lengthens d.lengthens) (Lengthens-push rows_high t);
      later_same = λ place later.
          let other : place ≢ n - 2 = omega arith in
          get_or-set_other ids_high (n - 2) place (length rows_high + 2) 0 other ∙ d.later_same place (omega arith) ∙ a.later_same place (omega arith);
      stands = ready_named b;
      order = new_order r n var low high ids ids_low ids_high rows rows_low rows_high low_id high_id a d;
    }

-- ---- several conditions, one after the other

pub IsLeaving-start : (r : Region) (ids : List ℕ) → ids ≡ replicate (length r.nodes) 0 → IsLeaving r ids []
IsLeaving-start r ids none = record {
  all_places = ap length none ∙ length-replicate (length r.nodes) 0;
  reduced = record { stands = λ k k_in. absurd (omega arith); once = λ j k less k_in. absurd (omega arith) };
  known = λ place place_in some.
      let long : length ids ≡ length r.nodes = ap length none ∙ length-replicate (length r.nodes) 0 in
      let is : slice_index ids place ≡ 0 = ap (λ (xs : List ℕ). slice_index xs place) none ∙ get_or-replicate (length r.nodes) place 0 0 (omega arith) in
      absurd (omega arith);
  source = λ k. 0;
  source_in = λ k k_in. absurd (omega arith);
  source_is = λ k k_in. absurd (omega arith);
}

pub IsGathered-start : (r : Region) (conditions : List NodeNo) (ids : List ℕ) → ids ≡ replicate (length r.nodes) 0 → IsGathered r conditions 0 ids [] []
IsGathered-start r conditions ids none = record {
  leaving = IsLeaving-start r ids none;
  as_many = refl;
  each = λ k k_in. absurd (omega arith);
  order = λ final longer. refl;
}

left_after_all-push : (rows : List Row) (left ids : List ℕ) (id : ℕ) → left_after_all rows left (ids ++ id ∷ []) ≡ left_after (length rows) rows (left_after_all rows left ids) id
left_after_all-push rows left [] id = refl
left_after_all-push rows left (i ∷ ids) id = left_after_all-push rows (left_after (length rows) rows left i) ids id

IsNamed-later : {r : Region} {old new : List TableRow} (c : NodeNo) (id : ℕ) → IsReduced r.vars (nodes_of old) → Extends (nodes_of old) (nodes_of new) → IsNamed r old c id → IsNamed r new c id
IsNamed-later {r} {old} {new} c id reduced longer named = record {
  there = omega (arith, named.there, longer.no_shorter, row_count old, row_count new);
  function = λ w. value-extends r.vars (nodes_of old) (nodes_of new) id w reduced longer (omega (arith, named.there, row_count old)) ∙ named.function w;
}

abbrev no_condition : NodeNo
no_condition = record { 0 = 0 }

pub IsGathered-more : (r : Region) (conditions : List NodeNo) (count : ℕ) (ids new_ids : List ℕ) (rows new_rows : List TableRow) (found : List ℕ) (id : ℕ) → IsGathered r conditions count ids rows found → IsLeft r (get_or conditions count no_condition).0 ids rows new_ids new_rows id → IsGathered r conditions (count + 1) new_ids new_rows (found ++ id ∷ [])
IsGathered-more r conditions count ids new_ids rows new_rows found id g a =
    let long : length (found ++ id ∷ []) ≡ length found + 1 = omega (arith, length-append found (id ∷ [])) in
    let so_many : length found ≡ count = g.as_many in
    record {
      leaving = a.leaving;
      as_many = omega arith;
      each = λ k k_in.
          ⊎_elim
          (λ (before : k < length found).
          let same : get_or (found ++ id ∷ []) k 0 ≡ get_or found k 0 = get_or-append found (id ∷ []) 0 k before in
          subst (λ (i : ℕ). IsNamed r new_rows (get_or conditions k no_condition) i) (sym same)
          (IsNamed-later (get_or conditions k no_condition) (get_or found k 0) g.leaving.reduced a.extends (g.each k before)))
          (λ (not_before : length found ≤ k).
          let last : length found ≡ k = omega arith in
          let here : get_or (found ++ id ∷ []) k 0 ≡ id = ap (λ (j : ℕ). get_or (found ++ id ∷ []) j 0) (sym last) ∙ get_or-append_seam found id [] 0 in
          let place : count ≡ k = omega arith in
          subst (λ (i : ℕ). IsNamed r new_rows (get_or conditions k no_condition) i) (sym here)
          (subst (λ (j : ℕ). IsNamed r new_rows (get_or conditions j no_condition) id) place (record { there = a.stands.there; function = a.stands.function })))
          (cases_lt k (length found));
      order = λ final longer.
          let case_count : length (case_rows final) ≡ length final = length-map final case_row in
          let deep : id ≤ length (case_rows final) + 1 = omega (arith, a.stands.there, longer.no_shorter) in
          left_after_all-push (case_rows final) [] found id
          ∙ ap (λ (left : List ℕ). left_after (length (case_rows final)) (case_rows final) left id) (g.order final (Lengthens-then a.lengthens longer))
          ∙ a.order final (length (case_rows final)) longer deep;
    }

pub IsExported-gathered : (r : Region) (conditions : List NodeNo) (features count : ℕ) (ids : List ℕ) (rows : List TableRow) (found : List ℕ) → features ≡ r.vars → count ≡ length conditions → IsGathered r conditions count ids rows found → IsExported r conditions (record { features = features; rows = rows }) found
IsExported-gathered r conditions features count ids rows found same all g = record {
  features = same;
  rules = rw same g.leaving.reduced;
  named = record { as_many = g.as_many ∙ all; each = g.each };
  order = g.order rows (Lengthens-itself rows);
}
