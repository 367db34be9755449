-- The rows of a table that keeps its rules break none of the rules of a case file's table.
use Rattle.std.proofs.Common.{◌≡◌, ◌≢◌, ℕ, zero, suc, ◌+◌, ◌-◌, ◌<◌, Bool, true, false, ◌&&◌, List, [], ◌∷◌, length, take, get_or, arith, refl, sym, ap, ◌∙◌, ⊎_elim}
use Rattle.std.specs.Prelude.{nat_lt, ◌==◌, unwrap_or, option_map}
use Rattle.std.specs.List.{list_all, list_any, enumerate_from}
use Rattle.std.proofs.lemmas.Bool.{lt-ltb, ne_eqb, eqb-true, cases_Bool, and_parts}
use Rattle.std.proofs.lemmas.List.{length-map, get_or-map, get_or-take, length-take-le}
use Rattle.std.proofs.lemmas.List.Folds.{list_any_none}
use Rattle.std.proofs.lemmas.Option.{slice_get-map, slice_get-get_or}
use Rattle.meaning.specs.Texts.{numbered}
use Rattle.meaning.specs.CaseFiles.{Row}
use Rattle.meaning.specs.CaseReading.{variable_after, same_row, row_fits}
use Rattle.node_pool.specs.declared.node.Node.{Node}
use Rattle.node_pool.specs.Nodes.{top_of, node_at, MayStand, IsReduced}
use Rattle.node_pool.proofs.Reduced.{top_of-constant, top_of-inner}
use Rattle.conditions.specs.Tables.{TableRow, node_of, nodes_of, case_row, case_rows}
use Rattle.conditions.proofs.Leaving.{row_count, node_at-row}
use Rattle.lifted_case.proofs.TableValues.{row_stands}

-- ---- lists

all_from : {A : Type 0} (test : ℕ × A → Bool) (d : A) (i : ℕ) (xs : List A) → ((k : ℕ) → k < length xs → test (i + k, get_or xs k d) ≡ true) → list_all test (enumerate_from i xs) ≡ true
all_from test d i [] h = refl
all_from test d i (x ∷ xs) h =
    let here : test (i, x) ≡ true = ap (λ n. test (n, x)) (omega arith) ∙ h 0 (omega arith) in
    let later : list_all test (enumerate_from (i + 1) xs) ≡ true = all_from test d (i + 1) xs (λ k k_in. ap (λ n. test (n, get_or xs k d)) (omega arith) ∙ h (suc k) (omega arith)) in
    rw (here, later) refl

-- each item passes with its number
pub all_numbered : {A : Type 0} (test : ℕ × A → Bool) (d : A) (xs : List A) → ((k : ℕ) → k < length xs → test (k, get_or xs k d) ≡ true) → list_all test (numbered xs) ≡ true
all_numbered test d xs h = all_from test d 0 xs (λ k k_in. ap (λ n. test (n, get_or xs k d)) (omega arith) ∙ h k k_in)

-- ---- rows

abbrev no_row : TableRow
no_row = (0, 0, 0)

after_top : (vars : ℕ) (rows : List TableRow) (id : ℕ) → id < length rows + 2 → variable_after (case_rows rows) vars id ≡ top_of vars (nodes_of rows) id
after_top vars rows zero id_in = sym (top_of-constant vars (nodes_of rows) 0 (omega arith))
after_top vars rows (suc zero) id_in = sym (top_of-constant vars (nodes_of rows) 1 (omega arith))
after_top vars rows (suc (suc r)) id_in =
    let r_in : r < length rows = omega arith in
    let place : suc (suc r) - 2 ≡ r = omega arith in
    ap (λ o. unwrap_or (option_map (λ (x : Row). x.variable) o) vars) (slice_get-map case_row rows r ∙ ap (option_map case_row) (slice_get-get_or rows r no_row r_in))
    ∙ sym (ap (λ (m : Node). m.var) (node_at-row rows r r_in))
    ∙ sym (ap (λ (j : ℕ). (node_at (nodes_of rows) j).var) place)
    ∙ sym (top_of-inner vars (nodes_of rows) (suc (suc r)) (omega arith))

node_same : (s t : TableRow) → s.0 ≡ t.0 → s.1 ≡ t.1 → s.2 ≡ t.2 → node_of s ≡ node_of t
node_same s t p q r = λ i. record { var = p i; low = record { 0 = q i }; high = record { 0 = r i } }

rows_differ : (s t : TableRow) → node_of t ≢ node_of s → same_row (case_row s) (case_row t) ≡ false
rows_differ s t differ =
    ⊎_elim
    (λ (same : same_row (case_row s) (case_row t) ≡ true).
    let outer = and_parts (((s.0 == t.0) && (s.1 == t.1))) (s.2 == t.2) same in
    let inner = and_parts (s.0 == t.0) (s.1 == t.1) outer.0 in
    absurd (differ (sym (node_same s t (eqb-true s.0 t.0 inner.0) (eqb-true s.1 t.1 inner.1) (eqb-true s.2 t.2 outer.1)))))
    (λ (other : same_row (case_row s) (case_row t) ≡ false). other)
    (cases_Bool (same_row (case_row s) (case_row t)))

module _ (vars : ℕ) (rows : List TableRow) (reduced : IsReduced vars (nodes_of rows)) where
  is_new : (k : ℕ) → k < length rows → list_any (same_row (case_row (get_or rows k no_row))) (take k (case_rows rows)) ≡ false
  is_new k k_in =
      let count : length (case_rows rows) ≡ length rows = length-map rows case_row in
      let taken : length (take k (case_rows rows)) ≡ k = length-take-le k (case_rows rows) (omega arith) in
      list_any_none (same_row (case_row (get_or rows k no_row))) (take k (case_rows rows))
      (λ j d j_in.
      let j_less : j < k = omega arith in
      let at_j : get_or (take k (case_rows rows)) j d ≡ case_row (get_or rows j no_row) = get_or-take k (case_rows rows) j d j_less ∙ get_or-map case_row rows j no_row d (omega arith) in
      let apart : node_of (get_or rows j no_row) ≢ node_of (get_or rows k no_row) = λ same. reduced.once j k j_less (omega (arith, row_count rows)) (node_at-row rows j (omega arith) ∙ same ∙ sym (node_at-row rows k k_in)) in
      ap (same_row (case_row (get_or rows k no_row))) at_j ∙ rows_differ (get_or rows k no_row) (get_or rows j no_row) apart)

  row_fits-at : (k : ℕ) → k < length rows → row_fits (case_rows rows) vars (k, case_row (get_or rows k no_row)) ≡ true
  row_fits-at k k_in =
      let t : TableRow = get_or rows k no_row in
      let s : MayStand vars (nodes_of rows) (node_of t) k = row_stands vars rows k reduced k_in in
      let low_in : t.1 < k + 2 = s.low_in in
      let high_in : t.2 < k + 2 = s.high_in in
      let low_after : nat_lt t.0 (variable_after (case_rows rows) vars t.1) ≡ true = ap (nat_lt t.0) (after_top vars rows t.1 (omega arith)) ∙ lt-ltb t.0 (top_of vars (nodes_of rows) t.1) s.low_after in
      let high_after : nat_lt t.0 (variable_after (case_rows rows) vars t.2) ≡ true = ap (nat_lt t.0) (after_top vars rows t.2 (omega arith)) ∙ lt-ltb t.0 (top_of vars (nodes_of rows) t.2) s.high_after in
      rw (lt-ltb t.0 vars s.var_in, lt-ltb t.1 (k + 2) low_in, lt-ltb t.2 (k + 2) high_in, low_after, high_after, ne_eqb t.1 t.2 s.children_differ, is_new k k_in) refl

  pub rows_fit : list_all (row_fits (case_rows rows) vars) (numbered (case_rows rows)) ≡ true
  rows_fit =
      all_numbered (row_fits (case_rows rows) vars) (case_row no_row) (case_rows rows)
      (λ k k_in.
      let k_there : k < length rows = omega (arith, length-map rows case_row) in
      ap (λ r. row_fits (case_rows rows) vars (k, r)) (get_or-map case_row rows k no_row (case_row no_row) k_there) ∙ row_fits-at k k_there)
