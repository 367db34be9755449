-- A node of a template that was read: the document it comes from, and the variables in scope at it, which are those of the rules.
use Rattle.std.proofs.Common.{◌≡◌, ℕ, zero, suc, List, [], ◌∷◌, ◌++◌, map, length, Bool, true, false, Option, Some, None, refl, sym, ap, ◌∙◌}
use Rattle.std.specs.Prelude.{codes, option_map, option_and_then, unwrap_or, bytes_eq, if◌then◌else◌}
use Rattle.std.specs.List.{slice_get}
use Rattle.std.proofs.lemmas.Option.{slice_get-map}
use Rattle.std.proofs.lemmas.List.{map-append}
use Rattle.meaning.specs.Texts.{place_of}
use Rattle.meaning.specs.Documents.{Document, text_at, list_at}
use Rattle.meaning.specs.Models.{Model, text_if}
use Rattle.meaning.specs.Cases.{NodeKind}
use Rattle.meaning.specs.QueryTexts.{Scope}
use Rattle.meaning.specs.Templates.{TemplateNode, Plain, Uses, annotates}
use Rattle.meaning.specs.TemplateTexts.{Placed, node_kind, kind_of, query_at, scope_under, scope_for, placed, parameter_of, template_of}
use Rattle.meaning.specs.TemplateRules.{NodeContext, context_of, scope_of, or_empty}
use Rattle.meaning.proofs.MappedLists.{map_of_map}
use Rattle.meaning.proofs.EqualityTests.{none_is_some, some_is}
use Rattle.lifting.proofs.ReadTemplatePlaces.{after, next, IsPlacedAt, placed_at, of_document}

-- ---- the variables in scope, whatever the templates are called

-- the variables in scope at a node, and those below its answers
abbrev seen : Placed → Scope × Scope
seen p = (p.scope, p.below)

annotates_or_not : (uses : Bool) (kind : NodeKind) (u v : ℕ) (us vs : List ℕ)
    → annotates (if uses then Uses u us else Plain kind) ≡ annotates (if uses then Uses v vs else Plain kind)
annotates_or_not true kind u v us vs = refl
annotates_or_not false kind u v us vs = refl

pub same_annotates : (names others : List (List ℕ)) (scope other : Scope) (d : Document) → annotates (kind_of names scope d) ≡ annotates (kind_of others other d)
same_annotates names others scope other d = annotates_or_not (bytes_eq (text_at (codes "kind") d) (codes "use")) (node_kind (text_at (codes "kind") d)) _ _ _ _

abbrev seen_under : Bool → Scope → Option (Scope × Scope) → Scope
seen_under annotation parameters None = parameters
seen_under annotation parameters (Some s) = if annotation then s.0 else s.1

scope_seen : (before : List Placed) (parameters : Scope) (above : Option ℕ) (annotation : Bool)
    → scope_for before parameters above annotation ≡ seen_under annotation parameters (option_and_then (slice_get (map seen before)) above)
scope_seen before parameters None annotation = refl
scope_seen before parameters (Some k) annotation = go (slice_get before k) ∙ ap (seen_under annotation parameters) (sym (slice_get-map seen before k))
  where
    go : (o : Option Placed) → scope_under annotation parameters o ≡ seen_under annotation parameters (option_map seen o)
    go None = refl
    go (Some p) = refl

module _ (m : Model) (names others : List (List ℕ)) (parameters : Scope) (ids : List (List ℕ)) where
  same_scope : (before other : List Placed) → map seen before ≡ map seen other → (d : Document)
      → (next m names parameters ids before d).scope ≡ (next m others parameters ids other d).scope
  same_scope before other e d =
      let above : Option ℕ = option_and_then (λ s. place_of s ids) (text_if (codes "under") d) in
      scope_seen before parameters above (annotates (kind_of names [] d))
      ∙ ap (λ xs. seen_under (annotates (kind_of names [] d)) parameters (option_and_then (slice_get xs) above)) e
      ∙ ap (λ b. seen_under b parameters (option_and_then (slice_get (map seen other)) above)) (same_annotates names others [] [] d)
      ∙ sym (scope_seen other parameters above (annotates (kind_of others [] d)))

  same_seen : (before other : List Placed) → map seen before ≡ map seen other → (d : Document)
      → seen (next m names parameters ids before d) ≡ seen (next m others parameters ids other d)
  same_seen before other e d = ap both (same_scope before other e d)
    where
      both : Scope → Scope × Scope
      both scope = (scope, scope ++ unwrap_or (option_map (λ q. q.0) (query_at m scope (codes "each") d)) [])

  same_after : (before other : List Placed) (ds : List Document) → map seen before ≡ map seen other
      → map seen (after m names parameters ids before ds) ≡ map seen (after m others parameters ids other ds)
  same_after before other [] e = e
  same_after before other (d ∷ ds) e =
      same_after (before ++ next m names parameters ids before d ∷ []) (other ++ next m others parameters ids other d ∷ []) ds
      (map-append seen before (next m names parameters ids before d ∷ [])
      ∙ ap (λ xs. xs ++ seen (next m names parameters ids before d) ∷ []) e
      ∙ ap (λ x. map seen other ++ x ∷ []) (same_seen before other e d)
      ∙ sym (map-append seen other (next m others parameters ids other d ∷ [])))

  pub same_scopes : (ds : List Document)
      → map (λ p. p.scope) (after m names parameters ids [] ds) ≡ map (λ p. p.scope) (after m others parameters ids [] ds)
  same_scopes ds =
      sym (map_of_map (λ s. s.0) seen (after m names parameters ids [] ds))
      ∙ ap (map (λ s. s.0)) (same_after [] [] ds refl)
      ∙ map_of_map (λ s. s.0) seen (after m others parameters ids [] ds)

-- ---- what is mapped

pub get_mapped : {A B : Type 0} (f : A → B) (xs : List A) (i : ℕ) (y : B) → slice_get (map f xs) i ≡ Some y → (x : A) × (slice_get xs i ≡ Some x) × (f x ≡ y)
get_mapped f [] i y e = elim (none_is_some y e) [ ]
get_mapped f (x ∷ xs) zero y e = (x, refl, some_is (f x) y e)
get_mapped f (x ∷ xs) (suc i) y e = get_mapped f xs i y e

-- ---- nodes that were read

module _ (m : Model) (templates : List Document) where
  abbrev pub names_of : List (List ℕ)
  names_of = map (text_at (codes "name")) templates

  module _ (i : ℕ) (template : Document) where
    abbrev pub parameters_in : Scope
    parameters_in = map (parameter_of m) (list_at (codes "params") template)

    abbrev pub nodes_in : List Document
    nodes_in = list_at (codes "nodes") template

    abbrev pub ids_in : List (List ℕ)
    ids_in = map (text_at (codes "id")) nodes_in

    abbrev pub read_nodes : List Placed
    read_nodes = after m names_of parameters_in ids_in [] nodes_in

    abbrev pub read_context : NodeContext
    read_context = context_of m templates (i, template)

    abbrev pub above_of : Document → Option ℕ
    above_of d = option_and_then (λ s. place_of s ids_in) (text_if (codes "under") d)

    -- what the document of node j is read as
    abbrev pub read_place : ℕ → Document → Placed
    read_place j d = placed m names_of (above_of d) (scope_of read_context j) d

    -- node j, read from its document over the nodes before it
    pub record IsReadAt (j : ℕ) (n : TemplateNode) : Type 0 where
      pub document : Document
      pub of_node : slice_get nodes_in j ≡ Some document
      pub before : List Placed
      pub many : length before ≡ j
      pub earlier : (k : ℕ) (p : Placed) → slice_get before k ≡ Some p → slice_get read_nodes k ≡ Some p
      pub scope : scope_of read_context j ≡ scope_for before parameters_in (above_of document) (annotates (kind_of names_of [] document))
      pub at : slice_get read_nodes j ≡ Some (read_place j document)
      pub is : n ≡ (read_place j document).node

    scope_is : (j : ℕ) (p : Placed) → slice_get read_nodes j ≡ Some p → scope_of read_context j ≡ p.scope
    scope_is j p e =
        ap (λ xs. or_empty (slice_get xs j)) (same_scopes m [] names_of parameters_in ids_in nodes_in)
        ∙ ap or_empty (slice_get-map (λ p. p.scope) read_nodes j)
        ∙ ap (λ o. or_empty (option_map (λ p. p.scope) o)) e

    pub read_at : (j : ℕ) (n : TemplateNode) → slice_get (template_of m names_of template).nodes j ≡ Some n → IsReadAt j n
    read_at j n e =
        let found : (p : Placed) × (slice_get read_nodes j ≡ Some p) × (p.node ≡ n) = get_mapped (λ p. p.node) read_nodes j n e in
        let d : (d : Document) × (slice_get nodes_in j ≡ Some d) = of_document m names_of parameters_in ids_in nodes_in j found.0 found.1 in
        let place : IsPlacedAt m names_of parameters_in ids_in read_nodes j d.0 = placed_at m names_of parameters_in ids_in nodes_in j d.0 d.1 in
        let scope : scope_of read_context j ≡ scope_for place.before parameters_in (above_of d.0) (annotates (kind_of names_of [] d.0)) =
        scope_is j (next m names_of parameters_in ids_in place.before d.0) place.at in
        let at : slice_get read_nodes j ≡ Some (read_place j d.0) = place.at ∙ ap (λ s. Some (placed m names_of (above_of d.0) s d.0)) (sym scope) in
        record {
          document = d.0;
          of_node = d.1;
          before = place.before;
          many = place.many;
          earlier = place.earlier;
          scope = scope;
          at = at;
          is = sym found.2 ∙ ap (λ p. p.node) (some_is found.0 (read_place j d.0) (sym found.1 ∙ at));
        }
