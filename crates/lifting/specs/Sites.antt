-- Where template nodes are lifted, and what comes behind the nodes that are there.
use Rattle.std.specs.Prelude.{◌≡◌, ℕ, ◌+◌, List, [], ◌∷◌, ◌++◌, map, length, Bool, true, not, ◌&&◌, cond, filter, Option, None, Some, decimal, Contains, false}
use Rattle.std.specs.List.{All, slice_get, join_with_byte}
use Rattle.worlds.specs.Algebra.{Algebra}
use Rattle.meaning.specs.Texts.{flat, numbered}
use Rattle.meaning.specs.Models.{Model, model_at}
use Rattle.meaning.specs.Queries.{Query, tuples}
use Rattle.meaning.specs.Cases.{NodeKind}
use Rattle.meaning.specs.Templates.{Template, TemplateNode, Instance, moved, is_under, annotates, node_of, findings_of, branches_of, instance_within}
use Rattle.meaning.specs.Tidy.{Among, whole_model, keys_within, key_above}
use Rattle.meaning.proofs.CutTrees.{Tree, Each, nodes_of}
use Rattle.path_queries.specs.Answering.{Somewhere, tuples_of, tuples_at}
use Rattle.templates.specs.declared.data.Template as code
use Rattle.templates.specs.View.{template_view}
use Rattle.lifted_case.specs.declared.lifted.LNode.{LNode}
use Rattle.lifting.specs.declared.growing.Growing.{Growing}
use Rattle.lifting.specs.OrderedTemplates.{StandsAt}
use Rattle.lifting.specs.FittingTemplates.{TemplatesFit}
use Rattle.lifting.specs.ThereElements.{IsThere}
use Rattle.meaning.proofs.KeySteps.{IsSmall}
use Rattle.lifting.specs.Noted.{Note, Noted, Stands, LiftsNode, LiftsBelow, Grows, seen_at, linked, links_at, conditions_to, entries_of}

-- ---- templates

abbrev pub templates_of : List code.Template → List Template
templates_of ts = map template_view ts

-- ---- places

-- node j of a template, where as many elements are bound as variables are in scope, and these are there where the condition holds
pub record Site {C : Type 0} (a : Algebra C) (m : Model) (templates : List Template) (t : Template) (j : ℕ) (n : TemplateNode) (bound : List ℕ) (under : C) : Type 0 where
  pub fit : TemplatesFit templates
  pub number : ℕ
  pub stands : StandsAt templates number t j n
  pub as_many : length bound ≡ fit.scoped.scope number j
  pub there : (x : List Bool) → a.is_world x ≡ true → a.holds under x ≡ true → Each (IsThere m x) bound

-- the first node of a template, for so many elements
pub record FirstSite {C : Type 0} (a : Algebra C) (m : Model) (templates : List Template) (used : Option Template) (bound : List ℕ) (under : C) : Type 0 where
  pub fit : TemplatesFit templates
  pub number : ℕ
  pub template : slice_get templates number ≡ used
  pub as_many : length bound ≡ fit.scoped.scope number 0
  pub there : (x : List Bool) → a.is_world x ≡ true → a.holds under x ≡ true → Each (IsThere m x) bound

-- a node that annotates node j, or one that supports it
abbrev pub stands_below : ℕ → Bool → TemplateNode → Bool
stands_below j annotating n = is_under j n.above && cond annotating (annotates n.kind) (not (annotates n.kind))

abbrev pub below_among : List TemplateNode → ℕ → Bool → List (ℕ × TemplateNode)
below_among ns j annotating = filter (λ x. stands_below j annotating x.1) (numbered ns)

pub record SiteBelow {C : Type 0} (a : Algebra C) (m : Model) (templates : List Template) (t : Template) (j : ℕ) (annotating : Bool) (bound : List ℕ) (under : C) : Type 0 where
  pub fit : TemplatesFit templates
  pub number : ℕ
  pub template : slice_get templates number ≡ Some t
  pub as_many : Each (λ x. length bound ≡ fit.scoped.scope number x.0) (below_among t.nodes j annotating)
  pub there : (x : List Bool) → a.is_world x ≡ true → a.holds under x ≡ true → Each (IsThere m x) bound

-- what supports node j, in the branch of each row
pub record RowSites {C : Type 0} (a : Algebra C) (m : Model) (templates : List Template) (t : Template) (j : ℕ) (bound : List ℕ) (rows : List (List ℕ × C)) : Type 0 where
  pub fit : TemplatesFit templates
  pub number : ℕ
  pub template : slice_get templates number ≡ Some t
  pub as_many : (r : List ℕ × C) → Contains rows r → Each (λ x. length (bound ++ r.0) ≡ fit.scoped.scope number x.0) (below_among t.nodes j false)
  pub there : (r : List ℕ × C) → Contains rows r → (x : List Bool) → a.is_world x ≡ true → a.holds r.1 x ≡ true → Each (IsThere m x) (bound ++ r.0)
  pub small : (r : List ℕ × C) → Contains rows r → Each IsSmall r.0

-- keys with this front lie directly below a key
abbrev pub LiesBelow : List ℕ → List ℕ → Type 0
LiesBelow front upper = (i : ℕ) → IsSmall i → key_above (front ++ decimal i) ≡ upper

abbrev pub branch_front : List ℕ → List ℕ → List ℕ
branch_front key answer = ((key ++ 47 ∷ []) ++ join_with_byte 46 (map decimal answer)) ++ 58 ∷ []

-- ---- what the nodes below are

module _ (m : Model) (templates : List Template) (depth : ℕ) (t : Template) where
  abbrev pub instances_below : List ℕ → List ℕ → List (ℕ × TemplateNode) → List Bool → List Instance
  instances_below front bound ns x = map (λ n. instance_within depth (length m.labels) (model_at m x) templates t (front ++ decimal n.0) bound n) ns

  abbrev pub keys_below : List ℕ → List (ℕ × TemplateNode) → List (List ℕ)
  keys_below front ns = flat (λ n. keys_within depth (whole_model m) templates t (front ++ decimal n.0) n) ns

  -- in the branches of some tuples
  abbrev pub instances_of_tuples : List ℕ → List ℕ → List (ℕ × TemplateNode) → List (List ℕ) → List Bool → List Instance
  instances_of_tuples key bound ns tuples x = flat (λ tuple. instances_below (branch_front key tuple) (bound ++ tuple) ns x) tuples

  abbrev pub keys_of_tuples : List ℕ → List (ℕ × TemplateNode) → List (List ℕ) → List (List ℕ)
  keys_of_tuples key ns tuples = flat (λ tuple. keys_below (branch_front key tuple) ns) tuples

-- ---- rows

abbrev pub tuples_of_each : Model → Option Query → List (List ℕ)
tuples_of_each m None = []
tuples_of_each m (Some q) = tuples (whole_model m) q.variables

-- the tuples that answer at some world, in order, each with the condition of exactly the worlds at which it does
pub record AreRows {C : Type 0} (a : Algebra C) (m : Model) (each : Option Query) (bound : List ℕ) (under : List Bool → Bool) (rows : List (List ℕ × C)) : Type 0 where
  pub live : All (λ r. a.live r.1) rows
  pub occur : All (λ r. Somewhere a r.1) rows
  pub order : Among (tuples_of rows) (tuples_of_each m each)
  pub exact : (x : List Bool) → a.is_world x ≡ true → tuples_at a rows x ≡ cond (under x) (branches_of (model_at m x) bound each) []

-- ---- what comes behind

-- the note of a node
abbrev pub note_of : {C : Type 0} → Model → List ℕ → TemplateNode → (List Bool → Bool) → List (List ℕ × C) → Note C
note_of m bound n under rows = record { there = under; rows = rows; verdict = λ x. None; told = λ x. findings_of (length m.labels) (model_at m x) bound n }

pub record AddsOne {C : Type 0} (a : Algebra C) (m : Model) (n : TemplateNode) (kind : NodeKind) (own_key bound : List ℕ) (under : List Bool → Bool) (rows : List (List ℕ × C))
    (above : Option ℕ) (g h : Growing C) : Type 0 where
  pub node : LNode C
  pub stands : Stands a (node, note_of m bound n under rows)
  pub key : node.key ≡ own_key
  pub seen : (x : List Bool) → a.is_world x ≡ true → under x ≡ true
      → seen_at x (node, note_of m bound n under rows) ≡ (node_of (length m.labels) (model_at m x) own_key bound kind n, findings_of (length m.labels) (model_at m x) bound n)
  pub grows : Grows g.nodes.items g.relations.items h.nodes.items h.relations.items ((node, note_of m bound n under rows) ∷ [])
      (linked above (length g.nodes.items) ((node, note_of m bound n under rows) ∷ [])) (conditions_to above ((node, note_of m bound n under rows) ∷ []))
  pub counted : h.left + (1 + length rows) ≡ g.left

-- the tree of a template node, with the relation from the node above
pub record AddsNode {C : Type 0} (a : Algebra C) (m : Model) (templates : List Template) (depth : ℕ) (t : Template) (key bound : List ℕ) (n : ℕ × TemplateNode) (under : List Bool → Bool)
    (above : Option ℕ) (g h : Growing C) : Type 0 where
  pub tree : Tree (Noted C)
  pub lifts : LiftsNode a (length m.labels) m templates depth t key bound n under tree
  pub grows : Grows g.nodes.items g.relations.items h.nodes.items h.relations.items tree.nodes
      (linked above (length g.nodes.items) tree.nodes ++ map (moved (length g.nodes.items)) tree.relations) (conditions_to above tree.nodes)
  pub counted : h.left + entries_of tree.nodes ≡ g.left

-- the tree of the first node of a template, if there is one
abbrev pub AddsFirst : {C : Type 0} → Algebra C → Model → List Template → ℕ → Option Template → List ℕ → List ℕ → (List Bool → Bool) → Option ℕ → Growing C → Growing C → Type 0
AddsFirst a m templates depth None key bound under above g h = g ≡ h
AddsFirst a m templates depth (Some t) key bound under above g h =
    elim (slice_get t.nodes 0) as (λ _. Type 0) [ None ↦ g ≡ h | Some n ↦ AddsNode a m templates depth t key bound (0, n) under above g h ]

-- trees side by side below a node, each with the relation from that node
pub record AddsBelow {C : Type 0} (a : Algebra C) (upper : List ℕ) (place : ℕ) (instances : List Bool → List Instance) (keys : List (List ℕ)) (g h : Growing C) : Type 0 where
  pub trees : List (Tree (Noted C))
  pub below : LiftsBelow a upper instances keys trees
  pub grows : Grows g.nodes.items g.relations.items h.nodes.items h.relations.items (nodes_of trees) (links_at place (length g.nodes.items) trees) (map (λ n. n.0.when) (nodes_of trees))
  pub counted : h.left + entries_of (nodes_of trees) ≡ g.left
