-- One step of a walk through a table.
use Rattle.std.proofs.Common.{◌≡◌, ℕ, ◌+◌, ◌-◌, ◌<◌, ◌≤◌, Bool, true, false, cond, length, get_or, arith, sym, ap, subst, ◌∙◌}
use Rattle.std.proofs.lemmas.List.{get_or-map}
use Rattle.meaning.specs.Cofactors.{World}
use Rattle.node_pool.specs.declared.node.Node.{Node}
use Rattle.node_pool.specs.Nodes.{node_at, no_node, value, MayStand}
use Rattle.node_pool.proofs.Values.{stands_at, value-inner}
use Rattle.conditions.specs.Tables.{TableRow, Contents, KeepsRules, node_of, nodes_of}
use Rattle.conditions.proofs.Leaving.{row_count}

-- the row that an identifier's number reads
pub record IsRowOf (t : Contents) (id : ℕ) (row : TableRow) : Type 0 where
  pub rules : KeepsRules t
  pub inner : 2 ≤ id
  pub there : id < length t.rows + 2
  pub is : row ≡ get_or t.rows (id - 2) row

row_node : {t : Contents} {id : ℕ} {row : TableRow} → IsRowOf t id row → node_at (nodes_of t.rows) (id - 2) ≡ node_of row
row_node {t} {id} {row} h =
    let there : id < length t.rows + 2 = h.there in
    let inner : 2 ≤ id = h.inner in
    get_or-map node_of t.rows (id - 2) row no_node (omega arith) ∙ ap node_of (sym h.is)

row_stands : {t : Contents} {id : ℕ} {row : TableRow} → IsRowOf t id row → MayStand t.features (nodes_of t.rows) (node_of row) (id - 2)
row_stands {t} {id} {row} h =
    subst (λ (m : Node). MayStand t.features (nodes_of t.rows) m (id - 2)) (row_node h) (stands_at t.features (nodes_of t.rows) id h.rules h.inner (omega (arith, h.there, row_count t.rows)))

pub row_variable : {t : Contents} {id : ℕ} {row : TableRow} → IsRowOf t id row → row.0 < t.features
row_variable h = (row_stands h).var_in

pub row_child : {t : Contents} {id : ℕ} {row : TableRow} (b : Bool) → IsRowOf t id row → cond b row.2 row.1 < id
row_child {t} {id} {row} true h = let high_in : row.2 < id - 2 + 2 = (row_stands h).high_in in omega (arith, h.inner)
row_child {t} {id} {row} false h = let low_in : row.1 < id - 2 + 2 = (row_stands h).low_in in omega (arith, h.inner)

row_value : {t : Contents} {id : ℕ} {row : TableRow} (w : World) (b : Bool) → IsRowOf t id row → w row.0 ≡ b → value (nodes_of t.rows) id w ≡ cond b (value (nodes_of t.rows) row.2 w) (value (nodes_of t.rows) row.1 w)
row_value {t} {id} {row} w b h at =
    value-inner t.features (nodes_of t.rows) id w h.rules h.inner (omega (arith, h.there, row_count t.rows))
    ∙ ap (λ (m : Node). cond (w m.var) (value (nodes_of t.rows) m.high.0 w) (value (nodes_of t.rows) m.low.0 w)) (row_node h)
    ∙ ap (λ (x : Bool). cond x (value (nodes_of t.rows) row.2 w) (value (nodes_of t.rows) row.1 w)) at

-- the truth at the child that the variable picks is that of the row
pub row_step : {t : Contents} {id : ℕ} {row : TableRow} (w : World) (b : Bool) → IsRowOf t id row → w row.0 ≡ b → value (nodes_of t.rows) (cond b row.2 row.1) w ≡ value (nodes_of t.rows) id w
row_step {t} {id} {row} w true h at = sym (row_value w true h at)
row_step {t} {id} {row} w false h at = sym (row_value w false h at)
