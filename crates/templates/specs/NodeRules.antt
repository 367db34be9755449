-- For private clauses: the rules at a node, over what its reader has: the nodes before it, and the variables in scope.
use Rattle.std.specs.Prelude.{◌≡◌, ℕ, ◌+◌, List, [], ◌∷◌, ◌++◌, map, length, take, Bool, true, false, not, ◌&&◌, ◌||◌, ◌==◌, Option, Some, None, option_map, option_and_then, unwrap_or, codes, if◌then◌else◌}
use Rattle.std.specs.List.{slice_get, list_all}
use Rattle.meaning.specs.Texts.{numbered, is_name, place_of}
use Rattle.meaning.specs.Documents.{Document, text_at, list_at, truth_at}
use Rattle.meaning.specs.Models.{Model, text_if}
use Rattle.meaning.specs.Queries as meaning
use Rattle.meaning.specs.QueryTexts.{Scope}
use Rattle.meaning.specs.Templates.{TemplateNode, annotates}
use Rattle.meaning.specs.TemplateTexts.{Placed, kind_of, query_at, placed}
use Rattle.meaning.specs.BundlePlaces.{Nodes, BundleFault, Broken, requires, broken_at, where_formed, faults_at, may_have, is_list_value, is_among, text_of_member}
use Rattle.meaning.specs.LineRules.{is_within, expression_rules}
use Rattle.meaning.specs.ModelRules.{is_formed}
use Rattle.meaning.specs.TemplateRules.{NodeContext, id_in, check_in, node_has_form, node_texts_fit, node_form, KindWord, kind_in, supports, is_goal_or_strategy, number_above, is_number, stands_in_place, has_what_it_needs, has_nothing_else, undeveloped_is_right, each_has_variables, has_its_members, first_query_fault, place_if_any, hole_fault_of_node, check_is_right, use_is_right}
use Rattle.annotated_model.specs.Items.{texts_form}
use Rattle.annotated_model.specs.Joined.{nothing}
use Rattle.templates.specs.ListRules.{parameters_in}

-- ---- contexts

-- these nodes of a template, with so many nodes in earlier templates
abbrev pub among : ℕ → List Document → NodeContext
among counted nodes = record { model = nothing; earlier = []; nodes = nodes; ids = map id_in nodes; scopes = []; nodes_before = counted }

-- these variables in scope, at node 0
abbrev pub seeing : Model → List Document → Scope → NodeContext
seeing m earlier scope = record { model = m; earlier = earlier; nodes = []; ids = []; scopes = scope ∷ []; nodes_before = 0 }

-- ---- form

-- the rules of form at a node whose identifier is new or not, and which stands within the limit or not
abbrev pub form_with : Bool → Bool → Document → List Broken
form_with new within d = texts_form (node_has_form d) (is_name (id_in d)) (node_texts_fit d) new within

-- the rules of form at the node of a number, after nodes with these identifiers and so many nodes in earlier templates
abbrev pub form_broken : List (List ℕ) → ℕ → ℕ → Document → List Broken
form_broken before counted i d = form_with (not (is_among before (id_in d))) (is_within 1024 (counted + i)) d

-- every node has its form
abbrev pub all_formed : ℕ → List Document → Bool
all_formed counted nodes = list_all (λ n. is_formed (node_form (among counted nodes) n)) (numbered nodes)

-- the nodes before a number have their form
abbrev pub FormedBefore : ℕ → List Document → ℕ → Type 0
FormedBefore counted nodes i = list_all (λ n. is_formed (node_form (among counted nodes) n)) (take i (numbered nodes)) ≡ true

-- ---- support

-- the node of a number and the node above it
abbrev pub above_among : List (List ℕ) → Document → Option ℕ
above_among before d = option_and_then (λ s. place_of s before) (text_of_member (codes "under") d)

-- the node supports the node of a number
abbrev pub supports_node : List Document → ℕ → ℕ × Document → Bool
supports_node nodes j n = supports (kind_in n.1) && is_number j (number_above (among 0 nodes) n)

-- ---- the rules that read the variables in scope

abbrev pub members_right : NodeContext → NodeContext → ℕ × Document → Bool
members_right c h n = has_what_it_needs n.1 && has_nothing_else n && undeveloped_is_right c n && each_has_variables h (0, n.1)

abbrev pub scoped_rules : NodeContext → NodeContext → ℕ × Document → List Broken
scoped_rules c h n =
    requires 25 (members_right c h n) ++ broken_at 26 (place_if_any (first_query_fault h (0, n.1))) ++ broken_at 27 (hole_fault_of_node h (0, n.1))
    ++ requires 28 (check_is_right h (0, n.1)) ++ requires 29 (use_is_right h (0, n.1))

-- all rules at a node, the second context has the variables in scope
abbrev pub rules_at : NodeContext → NodeContext → ℕ × Document → List Broken
rules_at c h n =
    where_formed (node_form c n) ((expression_rules h.model.labels (codes "never") (check_in n.1) ++ requires 24 (stands_in_place c n)) ++ scoped_rules c h n)

-- ---- the variables in scope at nodes

-- those at a node, and those below the answers of its `each`
abbrev pub Scopes : Type 0
Scopes = Scope × Scope

abbrev pub scopes_of : Placed → Scopes
scopes_of p = (p.scope, p.below)

-- under a node, or the parameters where there is none
abbrev pub scope_below : Bool → Scope → Option Scopes → Scope
scope_below annotation parameters None = parameters
scope_below annotation parameters (Some s) = if annotation then s.0 else s.1

abbrev pub scope_at : List Scopes → Scope → Option ℕ → Bool → Scope
scope_at before parameters above annotation = scope_below annotation parameters (option_and_then (slice_get before) above)

-- the node above one, by its identifier
abbrev pub above_in : List (List ℕ) → Document → Option ℕ
above_in ids d = option_and_then (λ s. place_of s ids) (text_if (codes "under") d)

-- at a node, after nodes with these
abbrev pub scope_here : Scope → List (List ℕ) → List Scopes → Document → Scope
scope_here parameters ids before d = scope_at before parameters (above_in ids d) (annotates (kind_of [] [] d))

abbrev pub scopes_here : Model → Scope → List (List ℕ) → List Scopes → Document → Scopes
scopes_here m parameters ids before d =
    let scope = scope_here parameters ids before d in
    (scope, scope ++ unwrap_or (option_map (λ q. q.0) (query_at m scope (codes "each") d)) [])

abbrev pub scopes_after : Model → Scope → List (List ℕ) → List Scopes → List Document → List Scopes
scopes_after m parameters ids before [] = before
scopes_after m parameters ids before (d ∷ ds) = scopes_after m parameters ids (before ++ scopes_here m parameters ids before d ∷ []) ds

-- ---- nodes from a number on, after nodes with these variables in scope

abbrev pub node_told : Model → List (List ℕ) → Scope → List (List ℕ) → List Scopes → Document → TemplateNode
node_told m templates parameters ids before d = (placed m templates (above_in ids d) (scope_here parameters ids before d) d).node

abbrev pub nodes_told : Model → List (List ℕ) → Scope → List (List ℕ) → List Scopes → List Document → List TemplateNode
nodes_told m templates parameters ids before [] = []
nodes_told m templates parameters ids before (d ∷ ds) =
    node_told m templates parameters ids before d ∷ nodes_told m templates parameters ids (before ++ scopes_here m parameters ids before d ∷ []) ds

-- what the nodes of a template are read over
pub record Around : Type 0 where
  pub model : Model
  -- the templates before
  pub earlier : List Document
  pub template : ℕ
  pub parameters : Scope
  pub counted : ℕ
  pub nodes : List Document

abbrev pub node_broken : Around → List Scopes → ℕ → Document → List Broken
node_broken a before i d =
    rules_at (among a.counted a.nodes) (seeing a.model a.earlier (scope_here a.parameters (map id_in a.nodes) before d)) (i, d)

abbrev pub nodes_broken : Around → List Scopes → ℕ → List Document → List BundleFault
nodes_broken a before i [] = []
nodes_broken a before i (d ∷ ds) =
    faults_at Nodes a.template i (node_broken a before i d)
    ++ nodes_broken a (before ++ scopes_here a.model a.parameters (map id_in a.nodes) before d ∷ []) (i + 1) ds

abbrev pub template_nodes_broken : Around → Document → List BundleFault
template_nodes_broken a d =
    faults_at Nodes a.template 0 (requires 2 (may_have is_list_value (codes "nodes") d)) ++ nodes_broken a [] 0 (list_at (codes "nodes") d)

-- the nodes of the template of a number, after these templates with so many nodes
abbrev pub around : Model → List Document → ℕ → ℕ → Document → Around
around m earlier t counted d =
    record { model = m; earlier = earlier; template = t; parameters = parameters_in m d; counted = counted; nodes = list_at (codes "nodes") d }

abbrev pub all_nodes_broken : Model → List Document → ℕ → ℕ → List Document → List BundleFault
all_nodes_broken m before t counted [] = []
all_nodes_broken m before t counted (d ∷ ds) =
    template_nodes_broken (around m before t counted d) d
    ++ all_nodes_broken m (before ++ d ∷ []) (t + 1) (counted + length (list_at (codes "nodes") d)) ds
