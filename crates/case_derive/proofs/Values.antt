-- The truth of a table's identifier, as tables tell it and as the definitions of case files do.
use Rattle.std.proofs.Common.{◌≡◌, ℕ, zero, suc, ◌+◌, ◌-◌, ◌<◌, ◌≤◌, List, [], ◌∷◌, inl, inr, Bool, cond, length, get_or, take, refl, sym, ap, ◌∙◌, arith}
use Rattle.std.specs.Prelude.{reverse, ◌==◌, if◌then◌else◌}
use Rattle.std.proofs.lemmas.Bool.Decides.{eqb_tells}
use Rattle.std.proofs.lemmas.List.{reverse-append, length-reverse, length-map, take_more, take_all, map-append, get_or_default, length-take}
use Rattle.meaning.specs.Texts.{holds_at}
use Rattle.meaning.specs.CaseFiles.{Row, walk_down, holds}
use Rattle.cond_text.proofs.Values.{value_at_place}
use Rattle.node_pool.specs.Nodes.{value}
use Rattle.node_pool.specs.Functions.{world_of}
use Rattle.node_pool.proofs.Values.{value-constant}
use Rattle.conditions.specs.Tables.{TableRow, Contents, KeepsRules, case_row, case_rows, nodes_of}
use Rattle.conditions.proofs.Tables.{IsRowOf, row_child, row_step}
use Rattle.lifted_case.specs.declared.lifted.ReadCase.{ReadCase}
use Rattle.lifted_case.specs.CaseView.{case_document_of_read}
use Rattle.case_derive.proofs.Walks.{child}

no_row : TableRow
no_row = (0, 0, 0)

is_row : (t : Contents) (k : ℕ) → KeepsRules t → k < length t.rows → IsRowOf t (k + 2) (get_or t.rows k no_row)
is_row t k h l =
    let back : k + 2 - 2 ≡ k = omega arith in
    record {
      rules = h;
      inner = omega arith;
      there = omega arith;
      is = get_or_default t.rows k no_row (get_or t.rows k no_row) l ∙ ap (λ i. get_or t.rows i (get_or t.rows k no_row)) (sym back);
    }

-- the child that the world picks
leads : List Bool → TableRow → ℕ
leads w row = cond (holds_at w row.0) row.2 row.1

leads_is : (w : List Bool) (row : TableRow) → leads w row ≡ child w (case_row row)
unfolding leads
leads_is w row = refl

leads_down : (t : Contents) (w : List Bool) (k : ℕ) → KeepsRules t → k < length t.rows
    → (leads w (get_or t.rows k no_row) < k + 2) × (value (nodes_of t.rows) (leads w (get_or t.rows k no_row)) (world_of w) ≡ value (nodes_of t.rows) (k + 2) (world_of w))
unfolding leads
leads_down t w k h l =
    let row : TableRow = get_or t.rows k no_row in
    (row_child (holds_at w row.0) (is_row t k h l), row_step (world_of w) (holds_at w row.0) (is_row t k h l) (value_at_place w row.0))

rows_before : (t : Contents) (k : ℕ) → k < length t.rows
    → reverse (case_rows (take (k + 1) t.rows)) ≡ case_row (get_or t.rows k no_row) ∷ reverse (case_rows (take k t.rows))
rows_before t k l =
    ap (λ rs. reverse (case_rows rs)) (take_more t.rows k no_row l)
    ∙ ap reverse (map-append case_row (take k t.rows) (get_or t.rows k no_row ∷ []))
    ∙ reverse-append (case_rows (take k t.rows)) (case_row (get_or t.rows k no_row) ∷ [])

walk_is : (t : Contents) (w : List Bool) → KeepsRules t → (k : ℕ) → k ≤ length t.rows → (id : ℕ) → id < k + 2
    → walk_down (reverse (case_rows (take k t.rows))) w id ≡ value (nodes_of t.rows) id (world_of w)
walk_is t w h zero l id below = sym (value-constant (nodes_of t.rows) id (world_of w) (omega (arith, below)))
walk_is t w h (suc k) l id below =
    let inside : k < length t.rows = omega (arith, l) in
    let row : TableRow = get_or t.rows k no_row in
    let earlier : List Row = reverse (case_rows (take k t.rows)) in
    let here : length earlier + 2 ≡ k + 2 =
    omega (arith, length-reverse (case_rows (take k t.rows)), length-map (take k t.rows) case_row, length-take k t.rows) in
    let next : suc k ≡ k + 1 = omega arith in
    let step : walk_down (reverse (case_rows (take (suc k) t.rows))) w id
    ≡ walk_down earlier w (if id == (length earlier + 2) then child w (case_row row) else id) =
    ap (λ rs. walk_down rs w id) (ap (λ n. reverse (case_rows (take n t.rows))) next ∙ rows_before t k inside) in
    step ∙ elim (eqb_tells id (length earlier + 2)) [
      | inl e ↦
          ap (λ (b : Bool). walk_down earlier w (if b then child w (case_row row) else id)) e.0 ∙ ap (walk_down earlier w) (sym (leads_is w row))
          ∙ walk_is t w h k (omega (arith, l)) (leads w row) (leads_down t w k h inside).0 ∙ (leads_down t w k h inside).1
          ∙ ap (λ n. value (nodes_of t.rows) n (world_of w)) (sym (e.1 ∙ here))
      | inr e ↦
          let other : id < k + 2 = omega (arith, below, here, e.1) in
          ap (λ (b : Bool). walk_down earlier w (if b then child w (case_row row) else id)) e.0 ∙ walk_is t w h k (omega (arith, l)) id other
    ]

-- an identifier of a table that keeps the rules holds at a world where its function does
pub holds_is_value : (c : ReadCase) (w : List Bool) (id : ℕ) → KeepsRules c.table → id < length c.table.rows + 2
    → holds (case_document_of_read c) w id ≡ value (nodes_of c.table.rows) id (world_of w)
unfolding holds
holds_is_value c w id h below =
    ap (λ rs. walk_down (reverse (case_rows rs)) w id) (sym (take_all (length c.table.rows) c.table.rows (omega arith)))
    ∙ walk_is c.table w h (length c.table.rows) (omega arith) id below
