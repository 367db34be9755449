-- The nodes of templates and their faults, read one after another, are those of the definitions.
use Rattle.std.proofs.Common.{◌≡◌, refl, sym, ap, ◌∙◌, subst, ℕ, zero, suc, ◌+◌, List, [], ◌∷◌, ◌++◌, length, map, take, append_assoc, Bool, true, false, Option, Some, None}
use Rattle.std.specs.Prelude.{codes, bytes_eq, if◌then◌else◌, option_map, option_and_then}
use Rattle.std.specs.List.{enumerate_from, slice_get}
use Rattle.std.proofs.lemmas.List.{append-nil, map-append, length-map}
use Rattle.meaning.specs.Texts.{flat, place_of}
use Rattle.meaning.specs.Documents.{Document, text_at, list_at, truth_at}
use Rattle.meaning.specs.Models.{Model}
use Rattle.meaning.specs.QueryTexts.{Scope}
use Rattle.meaning.specs.Templates.{TemplateNode, TemplateKind, Plain, Uses, annotates, Template}
use Rattle.meaning.specs.TemplateTexts.{Placed, placed, place_under, nodes_after, scope_for, scope_under, kind_of, node_kind, parameter_of, template_of}
use Rattle.meaning.specs.BundlePlaces.{Nodes, BundleFault, Broken, requires, broken_at, where_formed, faults_at, may_have, is_list_value}
use Rattle.meaning.specs.LineRules.{expression_rules}
use Rattle.meaning.specs.ModelRules.{counted_before, faults_in_item}
use Rattle.meaning.specs.TemplateRules.{NodeContext, id_in, check_in, scopes_in, scope_of, or_empty, context_of, node_form, node_rules, node_faults, stands_in_place, has_its_members, first_query_fault, place_if_any, hole_fault_of_node, check_is_right, use_is_right}
use Rattle.annotated_model.proofs.StateLaws.{before_place, one_more, one_longer, counted_in, one_counted}
use Rattle.templates.specs.ListRules.{parameters_in}
use Rattle.templates.specs.NodeRules.{among, seeing, rules_at, Scopes, scopes_of, scope_below, scope_at, above_in, scope_here, scopes_here, scopes_after, node_told, nodes_told, Around, node_broken, nodes_broken, template_nodes_broken, around, all_nodes_broken}

-- ---- the variables in scope

found_mapped : {X Y : Type 0} (f : X → Y) (xs : List X) (i : ℕ) → slice_get (map f xs) i ≡ option_map f (slice_get xs i)
found_mapped f [] i = refl
found_mapped f (x ∷ xs) zero = refl
found_mapped f (x ∷ xs) (suc i) = found_mapped f xs i

map_twice : {X Y Z : Type 0} (f : X → Y) (g : Y → Z) (xs : List X) → map g (map f xs) ≡ map (λ x. g (f x)) xs
map_twice f g [] = refl
map_twice f g (x ∷ xs) = ap (λ zs. g (f x) ∷ zs) (map_twice f g xs)

scope_found : (before : List Placed) (parameters : Scope) (above : Option ℕ) (annotation : Bool)
    → scope_for before parameters above annotation ≡ scope_at (map scopes_of before) parameters above annotation
scope_found before parameters None annotation = refl
scope_found before parameters (Some i) annotation =
    below (slice_get before i) ∙ ap (scope_below annotation parameters) (sym (found_mapped scopes_of before i))
  where
    below : (o : Option Placed) → scope_under annotation parameters o ≡ scope_below annotation parameters (option_map scopes_of o)
    below None = refl
    below (Some p) = refl

-- whether a node annotates is told by its kind alone
annotation_is : (templates : List (List ℕ)) (scope : Scope) (d : Document) → annotates (kind_of templates scope d) ≡ annotates (kind_of [] [] d)
annotation_is templates scope d = go (bytes_eq (text_at (codes "kind") d) (codes "use")) _ _ _ _
  where
    go : (b : Bool) (t u : ℕ) (xs ys : List ℕ)
        → annotates (if b then Uses t xs else Plain (node_kind (text_at (codes "kind") d))) ≡ annotates (if b then Uses u ys else Plain (node_kind (text_at (codes "kind") d)))
    go true t u xs ys = refl
    go false t u xs ys = refl

module _ (m : Model) (templates : List (List ℕ)) (parameters : Scope) (ids : List (List ℕ)) where
  scope_is : (before : List Placed) (d : Document)
      → scope_for before parameters (above_in ids d) (annotates (kind_of templates [] d)) ≡ scope_here parameters ids (map scopes_of before) d
  scope_is before d =
      ap (scope_for before parameters (above_in ids d)) (annotation_is templates [] d) ∙ scope_found before parameters (above_in ids d) (annotates (kind_of [] [] d))

  scopes_are : (before : List Placed) (d : Document) → scopes_of (place_under m templates parameters ids before d) ≡ scopes_here m parameters ids (map scopes_of before) d
  scopes_are before d = ap (λ s. scopes_of (placed m templates (above_in ids d) s d)) (scope_is before d)

  node_is : (before : List Placed) (d : Document) → (place_under m templates parameters ids before d).node ≡ node_told m templates parameters ids (map scopes_of before) d
  node_is before d = ap (λ s. (placed m templates (above_in ids d) s d).node) (scope_is before d)

  after_one : (before : List Placed) (d : Document)
      → map scopes_of (before ++ place_under m templates parameters ids before d ∷ []) ≡ map scopes_of before ++ scopes_here m parameters ids (map scopes_of before) d ∷ []
  after_one before d =
      map-append scopes_of before (place_under m templates parameters ids before d ∷ []) ∙ ap (λ s. map scopes_of before ++ s ∷ []) (scopes_are before d)

  pub all_scopes : (before : List Placed) (ds : List Document)
      → map scopes_of (nodes_after m templates parameters ids before ds) ≡ scopes_after m parameters ids (map scopes_of before) ds
  all_scopes before [] = refl
  all_scopes before (d ∷ ds) =
      all_scopes (before ++ place_under m templates parameters ids before d ∷ []) ds
      ∙ ap (λ b. scopes_after m parameters ids b ds) (after_one before d)

  pub all_nodes : (before : List Placed) (ds : List Document)
      → map (λ p. p.node) (nodes_after m templates parameters ids before ds) ≡ map (λ p. p.node) before ++ nodes_told m templates parameters ids (map scopes_of before) ds
  all_nodes before [] = sym (append-nil (map (λ p. p.node) before))
  all_nodes before (d ∷ ds) =
      let nodes : List TemplateNode = map (λ p. p.node) before in
      let scopes : List Scopes = map scopes_of before in
      let next : List Scopes = scopes ++ scopes_here m parameters ids scopes d ∷ [] in
      all_nodes (before ++ place_under m templates parameters ids before d ∷ []) ds
      ∙ (ap (λ b. map (λ p. p.node) (before ++ place_under m templates parameters ids before d ∷ []) ++ nodes_told m templates parameters ids b ds) (after_one before d)
      ∙ (ap (λ ns. ns ++ nodes_told m templates parameters ids next ds)
      (map-append (λ p. p.node) before (place_under m templates parameters ids before d ∷ []) ∙ ap (λ n. nodes ++ n ∷ []) (node_is before d))
      ∙ append_assoc nodes (node_told m templates parameters ids scopes d ∷ []) (nodes_told m templates parameters ids next ds)))

-- the template of a document, node by node
pub template_is : (m : Model) (templates : List (List ℕ)) (d : Document)
    → template_of m templates d
    ≡ record {
      name = text_at (codes "name") d;
      parameters = parameters_in m d;
      nodes = nodes_told m templates (parameters_in m d) (map id_in (list_at (codes "nodes") d)) [] (list_at (codes "nodes") d);
    }
template_is m templates d =
    ap (λ ns. record { name = text_at (codes "name") d; parameters = parameters_in m d; nodes = ns })
    (all_nodes m templates (parameters_in m d) (map id_in (list_at (codes "nodes") d)) [] (list_at (codes "nodes") d))

-- ---- the scope at a number

module _ (m : Model) (parameters : Scope) (ids : List (List ℕ)) where
  goes_on_from : (before : List Scopes) (ds : List Document) → (rest : List Scopes) × (scopes_after m parameters ids before ds ≡ before ++ rest)
  goes_on_from before [] = ([], sym (append-nil before))
  goes_on_from before (d ∷ ds) =
      let r = goes_on_from (before ++ scopes_here m parameters ids before d ∷ []) ds in
      (scopes_here m parameters ids before d ∷ r.0, r.1 ∙ append_assoc before (scopes_here m parameters ids before d ∷ []) r.0)

  at_seam : {X : Type 0} (xs : List X) (y : X) (ys : List X) → slice_get (xs ++ y ∷ ys) (length xs) ≡ Some y
  at_seam [] y ys = refl
  at_seam (x ∷ xs) y ys = at_seam xs y ys

  pub scope_there : (before : List Scopes) (i : ℕ) (d : Document) (ds : List Document) → length before ≡ i
      → slice_get (scopes_after m parameters ids before (d ∷ ds)) i ≡ Some (scopes_here m parameters ids before d)
  scope_there before i d ds many =
      let r = goes_on_from (before ++ scopes_here m parameters ids before d ∷ []) ds in
      ap (slice_get (scopes_after m parameters ids before (d ∷ ds))) (sym many)
      ∙ (ap (λ ss. slice_get ss (length before)) (r.1 ∙ append_assoc before (scopes_here m parameters ids before d ∷ []) r.0)
      ∙ at_seam before (scopes_here m parameters ids before d) r.0)

-- ---- the rules at a node

regrouped : (x a b c d e f : List Broken) → x ++ a ++ b ++ c ++ d ++ e ++ f ≡ (x ++ a) ++ (b ++ c ++ d ++ e ++ f)
regrouped x a b c d e f = simp append_assoc

module _ (m : Model) (templates : List Document) (t : ℕ) (template : Document) where
  abbrev here : NodeContext
  here = context_of m templates (t, template)

  abbrev over : Around
  over = around m (take t templates) t (counted_before (codes "nodes") templates t) template

  abbrev ids : List (List ℕ)
  ids = map id_in (list_at (codes "nodes") template)

  abbrev sees : ℕ → NodeContext
  sees i = seeing m (take t templates) (scope_of here i)

  rules_in_place : (i : ℕ) (d : Document) → node_rules here (i, d) ≡ rules_at (among over.counted over.nodes) (sees i) (i, d)
  unfolding node_rules
  rules_in_place i d =
      ap (where_formed (node_form here (i, d)))
      (regrouped (expression_rules m.labels (codes "never") (check_in d)) (requires 24 (stands_in_place here (i, d))) (requires 25 (has_its_members here (i, d)))
      (broken_at 26 (place_if_any (first_query_fault here (i, d)))) (broken_at 27 (hole_fault_of_node here (i, d)))
      (requires 28 (check_is_right here (i, d))) (requires 29 (use_is_right here (i, d))))

  scopes_there : here.scopes ≡ map (λ s. s.0) (scopes_after m over.parameters ids [] over.nodes)
  scopes_there =
      sym (map_twice scopes_of (λ s. s.0) (nodes_after m [] over.parameters ids [] over.nodes))
      ∙ ap (map (λ s. s.0)) (all_scopes m [] over.parameters ids [] over.nodes)

  scope_at_node : (before : List Scopes) (i : ℕ) (d : Document) (ds : List Document) → length before ≡ i
      → scopes_after m over.parameters ids before (d ∷ ds) ≡ scopes_after m over.parameters ids [] over.nodes → scope_of here i ≡ scope_here over.parameters ids before d
  scope_at_node before i d ds many whole =
      ap or_empty (ap (λ ss. slice_get ss i) scopes_there
      ∙ (found_mapped (λ s. s.0) (scopes_after m over.parameters ids [] over.nodes) i
      ∙ ap (option_map (λ s. s.0)) (ap (λ ss. slice_get ss i) (sym whole) ∙ scope_there m over.parameters ids before i d ds many)))

  walk : (before : List Scopes) (i : ℕ) (ds : List Document) → length before ≡ i
      → scopes_after m over.parameters ids before ds ≡ scopes_after m over.parameters ids [] over.nodes
      → flat (λ n. faults_at Nodes t n.0 (node_rules here n)) (enumerate_from i ds) ≡ nodes_broken over before i ds
  walk before i [] many whole = refl
  walk before i (d ∷ ds) many whole =
      let first : node_rules here (i, d) ≡ node_broken over before i d =
      rules_in_place i d ∙ ap (λ s. rules_at (among over.counted over.nodes) (seeing m (take t templates) s) (i, d)) (scope_at_node before i d ds many whole) in
      let rest = walk (before ++ scopes_here m over.parameters ids before d ∷ []) (i + 1) ds (one_longer before (scopes_here m over.parameters ids before d) i many) whole in
      ap (λ broken. faults_at Nodes t i broken ++ flat (λ n. faults_at Nodes t n.0 (node_rules here n)) (enumerate_from (i + 1) ds)) first
      ∙ ap (λ fs. faults_at Nodes t i (node_broken over before i d) ++ fs) rest

  pub template_nodes_are : node_faults m templates (t, template) ≡ template_nodes_broken over template
  template_nodes_are =
      ap (λ fs. faults_at Nodes t 0 (requires 2 (may_have is_list_value (codes "nodes") template)) ++ fs) (walk [] 0 over.nodes refl refl)

-- ---- all templates

module _ (m : Model) (templates : List Document) where
  pub nodes_are : (before ds : List Document) (i counted : ℕ) → before ++ ds ≡ templates → length before ≡ i → counted_in (codes "nodes") before ≡ counted
      → flat (node_faults m templates) (enumerate_from i ds) ≡ all_nodes_broken m before i counted ds
  nodes_are before [] i counted whole many count = refl
  nodes_are before (d ∷ ds) i counted whole many count =
      let so_far : take i templates ≡ before = before_place before (d ∷ ds) templates i whole many in
      let number : counted_before (codes "nodes") templates i ≡ counted = ap (counted_in (codes "nodes")) so_far ∙ count in
      let rest = nodes_are (before ++ d ∷ []) ds (i + 1) (counted + length (list_at (codes "nodes") d)) (one_more before ds templates d whole) (one_longer before d i many)
      (one_counted (codes "nodes") before d counted count) in
      ap (λ fs. fs ++ flat (node_faults m templates) (enumerate_from (i + 1) ds))
      (template_nodes_are m templates i d
      ∙ (ap (λ e. template_nodes_broken (around m e i (counted_before (codes "nodes") templates i) d) d) so_far
      ∙ ap (λ n. template_nodes_broken (around m before i n d) d) number))
      ∙ ap (λ fs. template_nodes_broken (around m before i counted d) d ++ fs) rest
