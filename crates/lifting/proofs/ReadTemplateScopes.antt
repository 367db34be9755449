-- The variables in scope at the nodes of templates that break no rule, and what each node sees of them.
use Rattle.std.proofs.Common.{◌≡◌, ℕ, suc, ◌+◌, ◌<◌, List, [], ◌∷◌, length, Bool, true, false, not, ◌&&◌, ◌||◌, ◌==◌, Option, Some, None, refl, sym, ap, ◌∙◌, subst, arith, length-append}
use Rattle.std.specs.Prelude.{codes, option_map, option_and_then, unwrap_or, if◌then◌else◌}
use Rattle.std.specs.List.{slice_get}
use Rattle.std.proofs.lemmas.Option.{slice_get-map}
use Rattle.std.proofs.lemmas.List.{length-map}
use Rattle.meaning.specs.Texts.{numbered}
use Rattle.meaning.specs.Documents.{Document, list_at, texts_in}
use Rattle.meaning.specs.Models.{Model, text_if}
use Rattle.meaning.specs.QueryTexts.{Scope, variable_number, query_of}
use Rattle.meaning.specs.Templates.{Template, TemplateNode, Uses, is_under, annotates, annotations, supporters}
use Rattle.meaning.specs.TemplateTexts.{Placed, variable_of, kind_of, scope_under, scope_for, parameter_of, template_of}
use Rattle.meaning.specs.TemplateRules.{NodeContext, scope_of, type_of_variable, argument_fits, arguments_fit}
use Rattle.meaning.specs.BundlePlaces.{is_list_value, may_have}
use Rattle.meaning.proofs.CutTrees.{Each}
use Rattle.meaning.proofs.EachMembers.{each_by}
use Rattle.meaning.proofs.EmptyLists.{both_true}
use Rattle.lifting.specs.ScopedTemplates.{bound_by}
use Rattle.meaning.proofs.Lists.{each_two, each_passes}
use Rattle.meaning.proofs.EqualityTests.{not_both, some_is}
use Rattle.lifting.proofs.TemplateDepth.{IsChild, annotations_are_children, supporters_are_children}
use Rattle.lifting.proofs.ReadTemplateRules.{TemplateKeeps}
use Rattle.lifting.proofs.ReadTemplatePlaces.{get_within, placed_at}
use Rattle.lifting.proofs.ReadTemplateNodes.{same_annotates, names_of, parameters_in, nodes_in, ids_in, read_nodes, read_context, above_of, read_place, IsReadAt, read_at}
use Rattle.lifting.proofs.ReadTemplateOrder.{and_then_some, either_true, some_holds, above_is_earlier_in, use_named, IsUseOf}
use Rattle.lifting.proofs.ReadTemplateTexts.{each_mapped, variable_below}
use Rattle.lifting.proofs.ReadTemplateQueries.{query_adds}

not_annotating : (b : Bool) → not b ≡ true → b ≡ false
not_annotating true e = elim (not_both false e refl) [ ]
not_annotating false e = refl

-- as many variables below a node as its answers bind
bound_is : (m : Model) (scope : Scope) (o : Option (List ℕ))
    → length (unwrap_or (option_map (λ q. q.0) (option_and_then (query_of m scope) o)) []) ≡ bound_by (option_map (λ q. q.1) (option_and_then (query_of m scope) o))
bound_is m scope None = refl
bound_is m scope (Some s) = go (query_of m scope s) refl
  where
    go : (r : Option _) → query_of m scope s ≡ r → length (unwrap_or (option_map (λ q. q.0) r) []) ≡ bound_by (option_map (λ q. q.1) r)
    go None e = refl
    go (Some q) e = sym (query_adds m scope s q.0 q.1 e)

-- ---- arguments

module _ (c : NodeContext) (j : ℕ) where
  argument_below : (x : List ℕ) (p : Document) → argument_fits c j x p ≡ true → variable_of (scope_of c j) x < length (scope_of c j)
  argument_below x p e =
      let found : (t : ℕ) × (type_of_variable (scope_of c j) x ≡ Some t) × _ = some_holds _ (type_of_variable (scope_of c j) x) e in
      let place : (v : ℕ) × (variable_number (scope_of c j) x ≡ Some v) × _ = and_then_some _ (variable_number (scope_of c j) x) found.0 found.1 in
      subst (λ o. unwrap_or o 0 < length (scope_of c j)) (sym place.1) (variable_below (scope_of c j) x place.0 place.1)

  arguments_below : (xs : List (List ℕ)) (ps : List Document) → arguments_fit c j xs ps ≡ true → Each (λ x. variable_of (scope_of c j) x < length (scope_of c j)) xs
  arguments_below [] ps e = tt
  arguments_below (x ∷ xs) [] e = elim (not_both false e refl) [ ]
  arguments_below (x ∷ xs) (p ∷ ps) e =
      let parts = both_true (argument_fits c j x p) (arguments_fit c j xs ps) e in (argument_below x p parts.0, arguments_below xs ps parts.1)

  arguments_count : (xs : List (List ℕ)) (ps : List Document) → arguments_fit c j xs ps ≡ true → length xs ≡ length ps
  arguments_count [] [] e = refl
  arguments_count [] (p ∷ ps) e = elim (not_both false e refl) [ ]
  arguments_count (x ∷ xs) [] e = elim (not_both false e refl) [ ]
  arguments_count (x ∷ xs) (p ∷ ps) e = ap suc (arguments_count xs ps (both_true (argument_fits c j x p) (arguments_fit c j xs ps) e).1)

-- ---- one template

module _ (m : Model) (templates : List Document) (i : ℕ) (template : Document) (keeps : TemplateKeeps m templates i template) where
  abbrev c : NodeContext
  c = read_context m templates i template

  abbrev names : List (List ℕ)
  names = names_of m templates

  abbrev t : Template
  t = template_of m names template

  abbrev Read : ℕ → TemplateNode → Type 0
  Read j n = IsReadAt m templates i template j n

  reads : (j : ℕ) (n : TemplateNode) → slice_get t.nodes j ≡ Some n → Read j n
  reads j n e = read_at m templates i template j n e

  -- a child sees what the node above sees, or that with what its answers bind
  module _ (j : ℕ) (n : TemplateNode) (r : Read j n) (x : ℕ × TemplateNode) (child : IsChild t j x) where
    rx : Read x.0 x.1
    rx = reads x.0 x.1 child.0

    stands_under : above_of m templates i template rx.document ≡ Some j
    stands_under = sym (ap (λ n. n.above) rx.is) ∙ child.1

    is_later : j < x.0
    is_later = above_is_earlier_in m templates i template x.0 rx.document (keeps.nodes x.0 rx.document rx.of_node).in_place j stands_under

    annotating : annotates (kind_of names [] rx.document) ≡ annotates x.1.kind
    annotating = same_annotates names names [] (scope_of c x.0) rx.document ∙ sym (ap (λ n. annotates n.kind) rx.is)

    pub child_scope : scope_of c x.0 ≡ (if annotates x.1.kind then scope_of c j else (read_place m templates i template j r.document).below)
    child_scope =
        let b : Bool = annotates (kind_of names [] rx.document) in
        let upper : (p : Placed) × (slice_get rx.before j ≡ Some p) = get_within rx.before j (subst (λ n. j < n) (sym rx.many) is_later) in
        let same : upper.0 ≡ read_place m templates i template j r.document = some_is upper.0 (read_place m templates i template j r.document) (sym (rx.earlier j upper.0 upper.1) ∙ r.at) in
        rx.scope
        ∙ ap (λ o. scope_under b (parameters_in m templates i template) (option_and_then (slice_get rx.before) o)) stands_under
        ∙ ap (scope_under b (parameters_in m templates i template)) upper.1
        ∙ ap (λ p. if b then p.scope else p.below) same
        ∙ ap (λ b. if b then scope_of c j else (read_place m templates i template j r.document).below) annotating

  module _ (j : ℕ) (n : TemplateNode) (e : slice_get t.nodes j ≡ Some n) where
    r : Read j n
    r = reads j n e

    annotations_annotate : Each (λ x. annotates x.1.kind ≡ true) (annotations t j)
    annotations_annotate =
        each_by (λ x. (is_under j x.1.above && annotates x.1.kind) ≡ true) (λ x. annotates x.1.kind ≡ true) (λ x f. (both_true (is_under j x.1.above) (annotates x.1.kind) f).1)
        (annotations t j) (each_passes (λ x. is_under j x.1.above && annotates x.1.kind) (numbered t.nodes))

    supporters_support : Each (λ x. annotates x.1.kind ≡ false) (supporters t j)
    supporters_support =
        each_by (λ x. (is_under j x.1.above && not (annotates x.1.kind)) ≡ true) (λ x. annotates x.1.kind ≡ false)
        (λ x f. not_annotating (annotates x.1.kind) (both_true (is_under j x.1.above) (not (annotates x.1.kind)) f).1)
        (supporters t j) (each_passes (λ x. is_under j x.1.above && not (annotates x.1.kind)) (numbered t.nodes))

    pub annotations_see_in : Each (λ x. length (scope_of c x.0) ≡ length (scope_of c j)) (annotations t j)
    annotations_see_in =
        each_by (λ x. IsChild t j x × (annotates x.1.kind ≡ true)) (λ x. length (scope_of c x.0) ≡ length (scope_of c j))
        (λ x h. ap length (child_scope j n r x h.0 ∙ ap (λ b. if b then scope_of c j else (read_place m templates i template j r.document).below) h.1))
        (annotations t j) (each_two (IsChild t j) (λ x. annotates x.1.kind ≡ true) (annotations t j) (annotations_are_children t j) annotations_annotate)

    pub supporters_see_in : Each (λ x. length (scope_of c x.0) ≡ length (scope_of c j) + bound_by n.each) (supporters t j)
    supporters_see_in =
        each_by (λ x. IsChild t j x × (annotates x.1.kind ≡ false)) (λ x. length (scope_of c x.0) ≡ length (scope_of c j) + bound_by n.each)
        (λ x h. ap length (child_scope j n r x h.0 ∙ ap (λ b. if b then scope_of c j else (read_place m templates i template j r.document).below) h.1) ∙ below_count)
        (supporters t j) (each_two (IsChild t j) (λ x. annotates x.1.kind ≡ false) (supporters t j) (supporters_are_children t j) supporters_support)
      where
        below_count : length (read_place m templates i template j r.document).below ≡ length (scope_of c j) + bound_by n.each
        below_count =
            length-append (scope_of c j) _
            ∙ ap (λ k. length (scope_of c j) + k) (bound_is m (scope_of c j) (text_if (codes "each") r.document) ∙ sym (ap (λ n. bound_by n.each) r.is))

  -- the arguments of a use are variables in scope, one for each parameter
  pub arguments_below_in : (j : ℕ) (d : Document) (u : ℕ) (arguments : List ℕ) → kind_of names (scope_of c j) d ≡ Uses u arguments
      → (used : IsUseOf m templates i template j d u)
      → Each (λ v. v < length (scope_of c j)) arguments × (length arguments ≡ length (list_at (codes "params") used.used))
  arguments_below_in j d u arguments f used =
      let named = use_named names (scope_of c j) d u arguments f in
      let xs : List (List ℕ) = texts_in (list_at (codes "args") d) in (
        subst (Each (λ v. v < length (scope_of c j))) named.2
            (each_mapped (λ v. v < length (scope_of c j)) (variable_of (scope_of c j)) xs (arguments_below c j xs (list_at (codes "params") used.used) used.fits)),
        ap length (sym named.2) ∙ length-map xs (variable_of (scope_of c j)) ∙ arguments_count c j xs (list_at (codes "params") used.used) used.fits,
      )

  -- ---- the first node

  some_document : (ds : List Document) → (may_have is_list_value (codes "nodes") template ≡ true) → (not (may_have is_list_value (codes "nodes") template) || not (length ds == 0)) ≡ true
      → (d : Document) × (slice_get ds 0 ≡ Some d)
  some_document [] h e = elim (not_both false (either_true (may_have is_list_value (codes "nodes") template) false h e) refl) [ ]
  some_document (d ∷ ds) h e = (d, refl)

  first_sees : (before : List Placed) (above : Option ℕ) (b : Bool) (parameters : Scope) → length before ≡ 0 → scope_for before parameters above b ≡ parameters
  first_sees [] None b parameters e = refl
  first_sees [] (Some k) b parameters e = refl
  first_sees (p ∷ before) above b parameters e = elim (no_number (length before) e) [ ]
    where
      no_number : (n : ℕ) → suc n ≡ 0 → ⊥
      no_number n e = omega (arith, e)

  -- the first node sees the parameters
  pub first_scope : length (scope_of c 0) ≡ length (list_at (codes "params") template)
  first_scope =
      let first : (d : Document) × (slice_get (nodes_in m templates i template) 0 ≡ Some d) = some_document (nodes_in m templates i template) keeps.listed keeps.some_node in
      let place = placed_at m names (parameters_in m templates i template) (ids_in m templates i template) (nodes_in m templates i template) 0 first.0 first.1 in
      let node = ap (option_map (λ p. p.node)) place.at in
      let read = reads 0 _ (slice_get-map (λ p. p.node) (read_nodes m templates i template) 0 ∙ node) in
      ap length (read.scope ∙ first_sees read.before (above_of m templates i template read.document) (annotates (kind_of names [] read.document)) (parameters_in m templates i template) read.many)
      ∙ length-map (list_at (codes "params") template) (parameter_of m)
