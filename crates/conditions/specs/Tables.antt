-- Tables of conditions: rows with a variable and the identifiers of two children. 0 is false, 1 is true, and k + 2 is row k.
use Rattle.std.specs.Prelude.{◌≡◌, ℕ, ◌+◌, ◌<◌, [], List, length, map, slice_index_or}
use Rattle.meaning.specs.Cofactors.{Agree}
use Rattle.meaning.specs.CaseFiles.{Row}
use Rattle.meaning.specs.Texts.{numbers_from}
use Rattle.meaning.specs.TableOrder.{left_after_all}
use Rattle.node_pool.specs.declared.node.Node.{Node}
use Rattle.node_pool.specs.declared.node.NodeNo.{NodeNo}
use Rattle.node_pool.specs.Nodes.{triple, value, IsReduced}
use Rattle.node_pool.specs.Regions.{Region}
use Rattle.node_pool.specs.Functions.{function_of}

-- a variable, and the identifiers where it is false and where it is true
abbrev pub TableRow : Type 0
TableRow = ℕ × ℕ × ℕ

abbrev pub node_of : TableRow → Node
node_of t = triple t.0 (record { 0 = t.1 }) (record { 0 = t.2 })

abbrev pub nodes_of : List TableRow → List Node
nodes_of rows = map node_of rows

-- a row as the definitions of case files have it
abbrev pub case_row : TableRow → Row
case_row t = record { variable = t.0; low = t.1; high = t.2 }

abbrev pub case_rows : List TableRow → List Row
case_rows rows = map case_row rows

-- what contracts see of a table
pub record Contents : Type 0 where
  pub features : ℕ
  pub rows : List TableRow

-- no row breaks a rule: each variable is a feature, each child has a smaller identifier and a greater variable, no row has equal children, and each row stands once
abbrev pub KeepsRules : Contents → Type 0
KeepsRules t = IsReduced t.features (nodes_of t.rows)

-- the identifier is one of the table, and has the condition's function
pub record IsNamed (r : Region) (rows : List TableRow) (c : NodeNo) (id : ℕ) : Type 0 where
  pub there : id < length rows + 2
  pub function : Agree (value (nodes_of rows) id) (function_of r c.0)

-- each condition's identifier, in their order
pub record AreNamed (r : Region) (rows : List TableRow) (conditions : List NodeNo) (ids : List ℕ) : Type 0 where
  pub as_many : length ids ≡ length conditions
  pub each : (k : ℕ) → k < length ids → IsNamed r rows (slice_index_or conditions k (record { 0 = 0 })) (slice_index_or ids k 0)

-- the table of conditions: it keeps the rules, its identifiers have the conditions' functions, and its rows stand in the order in which a walk over the conditions first leaves them
pub record IsExported (r : Region) (conditions : List NodeNo) (table : Contents) (ids : List ℕ) : Type 0 where
  pub features : table.features ≡ r.vars
  pub rules : KeepsRules table
  pub named : AreNamed r table.rows conditions ids
  pub order : left_after_all (case_rows table.rows) [] ids ≡ numbers_from 2 (length table.rows)
