-- A walk down the rows of a case's table ends where the function of the table's diagram does.
use Rattle.std.proofs.Common.{◌≡◌, ◌≢◌, ℕ, zero, suc, ◌+◌, ◌-◌, ◌<◌, ◌≤◌, Bool, true, false, cond, eqb, List, [], ◌∷◌, length, take, get_or, arith, refl, sym, ap, ◌∙◌, ⊎_elim}
use Rattle.std.specs.Prelude.{reverse}
use Rattle.std.proofs.lemmas.Bool.{cases_eq}
use Rattle.std.proofs.lemmas.Bool.Decides.{nat_tests}
use Rattle.std.proofs.lemmas.List.{length-map, length-reverse, length-take-le, map_more, reverse-append, take_all}
use Rattle.meaning.specs.Texts.{holds_at}
use Rattle.meaning.specs.CaseFiles.{Row, CaseDocument, walk_down, holds}
use Rattle.node_pool.specs.declared.node.Node.{Node}
use Rattle.node_pool.specs.Nodes.{node_at, value, MayStand, IsReduced}
use Rattle.node_pool.specs.Functions.{world_of}
use Rattle.node_pool.proofs.Values.{value-constant, value-inner}
use Rattle.conditions.specs.Tables.{TableRow, Contents, KeepsRules, node_of, nodes_of, case_row, case_rows}
use Rattle.conditions.proofs.Leaving.{row_count, node_at-row}

pub holds_at-world : (w : List Bool) (v : ℕ) → holds_at w v ≡ world_of w v
holds_at-world [] v = refl
holds_at-world (b ∷ bs) zero = refl
holds_at-world (b ∷ bs) (suc v) = holds_at-world bs v

-- the row with this many before it
pub row_stands : (vars : ℕ) (rows : List TableRow) (n : ℕ) → IsReduced vars (nodes_of rows) → n < length rows → MayStand vars (nodes_of rows) (node_of (get_or rows n (0, 0, 0))) n
row_stands vars rows n reduced n_in =
    let n_there : n < length (nodes_of rows) = omega (arith, row_count rows) in
    let s : MayStand vars (nodes_of rows) (node_at (nodes_of rows) n) n = reduced.stands n n_there in
    rw (node_at-row rows n n_in) at s

module _ (vars : ℕ) (rows : List TableRow) (reduced : IsReduced vars (nodes_of rows)) (w : List Bool) where
  -- the truth of a row is that of the child that its variable picks
  row_value : (n : ℕ) → n < length rows → value (nodes_of rows) (n + 2) (world_of w)
      ≡ cond (holds_at w (get_or rows n (0, 0, 0)).0) (value (nodes_of rows) (get_or rows n (0, 0, 0)).2 (world_of w)) (value (nodes_of rows) (get_or rows n (0, 0, 0)).1 (world_of w))
  row_value n n_in =
      let t : TableRow = get_or rows n (0, 0, 0) in
      let there : n + 2 < length (nodes_of rows) + 2 = omega (arith, row_count rows) in
      let place : n + 2 - 2 ≡ n = omega arith in
      value-inner vars (nodes_of rows) (n + 2) (world_of w) reduced (omega arith) there
      ∙ ap (λ (j : ℕ). cond (world_of w (node_at (nodes_of rows) j).var) (value (nodes_of rows) (node_at (nodes_of rows) j).high.0 (world_of w)) (value (nodes_of rows) (node_at (nodes_of rows) j).low.0 (world_of w))) place
      ∙ ap (λ (m : Node). cond (world_of w m.var) (value (nodes_of rows) m.high.0 (world_of w)) (value (nodes_of rows) m.low.0 (world_of w))) (node_at-row rows n n_in)
      ∙ ap (λ (b : Bool). cond b (value (nodes_of rows) t.2 (world_of w)) (value (nodes_of rows) t.1 (world_of w))) (sym (holds_at-world w t.0))

  pub walks : (n id : ℕ) → n ≤ length rows → id < n + 2 → walk_down (reverse (case_rows (take n rows))) w id ≡ value (nodes_of rows) id (world_of w)
  walks zero id n_in id_in = sym (value-constant (nodes_of rows) id (world_of w) (omega arith))
  walks (suc n) id n_in id_in =
      let t : TableRow = get_or rows n (0, 0, 0) in
      let within : n < length rows = omega arith in
      let one : n + 1 ≡ suc n = omega arith in
      let earlier : List Row = reverse (case_rows (take n rows)) in
      let grown : reverse (case_rows (take (suc n) rows)) ≡ case_row t ∷ earlier =
      ap (λ m. reverse (case_rows (take m rows))) (sym one) ∙ ap reverse (map_more case_row rows n (0, 0, 0) within) ∙ reverse-append (case_rows (take n rows)) (case_row t ∷ []) in
      let long : length earlier ≡ n = length-reverse (case_rows (take n rows)) ∙ length-map (take n rows) case_row ∙ length-take-le n rows (omega arith) in
      let stands = row_stands vars rows n reduced within in
      let low_in : t.1 < n + 2 = stands.low_in in
      let high_in : t.2 < n + 2 = stands.high_in in
      let picked = λ (b : Bool). (elim b as (λ x. walk_down earlier w (cond x t.2 t.1) ≡ cond x (value (nodes_of rows) t.2 (world_of w)) (value (nodes_of rows) t.1 (world_of w)))
      [ true ↦ walks n t.2 (omega arith) high_in | false ↦ walks n t.1 (omega arith) low_in ]) in
      let to = λ (x : Bool). walk_down earlier w (cond x (cond (holds_at w t.0) t.2 t.1) id) in
      ap (λ rs. walk_down rs w id) grown
      ∙ ⊎_elim
      (λ (here : id ≡ n + 2).
      let e : eqb id (length earlier + 2) ≡ true = grind (arith, nat_tests) in
      ap to e ∙ picked (holds_at w t.0) ∙ sym (row_value n within) ∙ ap (λ (j : ℕ). value (nodes_of rows) j (world_of w)) (sym here))
      (λ (other : id ≢ n + 2).
      let e : eqb id (length earlier + 2) ≡ false = grind (arith, nat_tests) in
      ap to e ∙ walks n id (omega arith) (omega arith))
      (cases_eq id (n + 2))

-- an identifier of the table holds where its function is true
pub holds-value : (k : CaseDocument) (t : Contents) (w : List Bool) (id : ℕ) → k.table ≡ case_rows t.rows → KeepsRules t → id < length t.rows + 2
    → holds k w id ≡ value (nodes_of t.rows) id (world_of w)
unfolding holds
holds-value k t w id e rules id_in =
    ap (λ rs. walk_down (reverse rs) w id) (e ∙ ap case_rows (sym (take_all (length t.rows) t.rows (omega arith))))
    ∙ walks t.features t.rows rules w (length t.rows) id (omega arith) id_in
