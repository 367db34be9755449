-- In a bundle that breaks no rule no possible key and no element with a system stands twice, and in each product's instance the node above a node is there.
use Rattle.std.proofs.Common.{◌≡◌, ◌≢◌, ℕ, zero, suc, ◌+◌, ◌^◌, ◌<◌, ◌≤◌, List, [], ◌∷◌, ◌++◌, map, length, Bool, true, false, Some, None, refl, sym, ap, ◌∙◌, subst, arith}
use Rattle.std.specs.Prelude.{take, sum_by, codes, unwrap_or, if◌then◌else◌}
use Rattle.std.specs.List.{slice_get, enumerate_from}
use Rattle.std.proofs.lemmas.List.{length-map, length-append, append_assoc}
use Rattle.std.proofs.lemmas.List.Sums.{sum_by-append, sum_by-cons}
use Rattle.std.proofs.Math.Seq.{take-append_seam}
use Rattle.meaning.specs.Texts.{numbered, place_of}
use Rattle.meaning.specs.Documents.{Document, text_at, list_at}
use Rattle.meaning.specs.Models.{Model, Element, model_of, model_at, number_in}
use Rattle.meaning.specs.Queries.{element_numbers}
use Rattle.meaning.specs.Templates.{Template}
use Rattle.meaning.specs.TemplateTexts.{Placed, templates_of, nodes_after, place_under}
use Rattle.meaning.specs.QueryTexts.{Scope}
use Rattle.meaning.specs.BundlePlaces.{Part, BundleFault, Broken, Elements, Links, States, Transitions, Owners, Systems, Nodes, requires, where_formed, faults_at, faults_of_items, faults_of_items_in, is_among, are_new, is_table_value}
use Rattle.meaning.specs.BundleRules.{bundle_rules, bundle_faults, first_fault, top_faults, faults_of_readers, no_table}
use Rattle.meaning.specs.LineRules.{is_within, line_faults, feature_names_in}
use Rattle.meaning.specs.ModelRules.{ModelContext, context_of, model_in, model_faults, faults_of_context, faults_in_list, faults_in_item, faults_in_systems, link_rules, state_rules, transition_rules, element_rules, element_form, system_rules, system_form, element_takes_system, system_elements, is_new_name, counted_before, names_in}
use Rattle.meaning.specs.TemplateRules as template
use Rattle.meaning.specs.TemplateRules.{template_faults, node_faults, node_rules, node_form, templates_in, faults_in_templates}
use Rattle.meaning.specs.Derivation.{Bundle, bundle_of}
use Rattle.meaning.specs.BundlePlaces as places
use Rattle.meaning.specs.Tidy.{name_of_element}
use Rattle.meaning.proofs.CutTrees.{Each}
use Rattle.meaning.proofs.EachMembers.{each_by, each_filtered}
use Rattle.meaning.proofs.EmptyLists.{both_true}
use Rattle.meaning.proofs.NameTexts.{place_among}
use Rattle.meaning.proofs.NewPairs.{names_differ, name_at_place}
use Rattle.meaning.proofs.Members.{Pairwise}
use Rattle.meaning.proofs.Pairs.{each_of_map}
use Rattle.meaning.proofs.EqualityTests.{none_is_some, some_is}
use Rattle.meaning.proofs.ReadCases.{nothing_left, no_first, each_numbered}
use Rattle.meaning.proofs.KeptRules.{holds_if_required, formed, each_keeps, list_keeps, item_keeps, few_after}
use Rattle.meaning.proofs.LowerNodes.{numbers_below}
use Rattle.meaning.proofs.KeysDiffer.{AreFew, possible_keys_under}
use Rattle.meaning.proofs.KeySteps.{IsSmall}
use Rattle.meaning.proofs.UpperKeys.{upper_is_there}
use Rattle.meaning.proofs.TidySights.{HasProperNames}

-- ---- items read one by one

-- the name of what is read at the place of a name
name_of_read : {D : Type 0} (given : D → List ℕ) (read : D → Element) → ((x : D) → (read x).name ≡ given x) → (ds : List D) (n : ℕ) (s : List ℕ)
    → slice_get (map given ds) n ≡ Some s → elim (slice_get (map read ds) n) as (λ _. List ℕ) [ None ↦ [] | Some x ↦ x.name ] ≡ s
name_of_read given read same [] n s e = elim (none_is_some s e) [ ]
name_of_read given read same (x ∷ ds) zero s e = same x ∙ some_is (given x) s e
name_of_read given read same (x ∷ ds) (suc n) s e = name_of_read given read same ds n s e

maps_same : {A B C : Type 0} (f : A → B) (g : B → C) (h : A → C) (xs : List A) → Each (λ x. g (f x) ≡ h x) xs → map h xs ≡ map g (map f xs)
maps_same f g h [] e = refl
maps_same f g h (x ∷ xs) e = rw (e.0, maps_same f g h xs e.1) refl

nodes_read : (m : Model) (templates : List (List ℕ)) (parameters : Scope) (ids : List (List ℕ)) (before : List Placed) (ds : List Document)
    → length (nodes_after m templates parameters ids before ds) ≡ length before + length ds
nodes_read m templates parameters ids before [] = omega arith
nodes_read m templates parameters ids before (d ∷ ds) =
    nodes_read m templates parameters ids (before ++ place_under m templates parameters ids before d ∷ []) ds
    ∙ omega (arith, length-append before (place_under m templates parameters ids before d ∷ []))

few_read : (read : Document → Template) → ((t : Document) → length (read t).nodes ≡ 0 + length (list_at (codes "nodes") t)) → (ts : List Document)
    → Each (λ t. length (list_at (codes "nodes") t) ≤ 1024) ts → AreFew (map read ts)
few_read read same [] h u v e = elim (none_is_some v e) [ ]
few_read read same (t ∷ ts) h zero v e = omega (arith, ap (λ v. length v.nodes) (some_is (read t) v e), same t, h.0)
few_read read same (t ∷ ts) h (suc u) v e = few_read read same ts h.1 u v e

-- ---- a bundle without a fault

module _ (d : Document) (sound : first_fault d ≡ None) where
  no_faults : bundle_faults d ≡ []
  unfolding first_fault
  no_faults = no_first (bundle_faults d) sound

  readers_find_nothing : faults_of_readers d ≡ []
  unfolding bundle_faults top_faults
  readers_find_nothing = go (is_table_value d) refl (nothing_left (top_faults d) (if is_table_value d then faults_of_readers d else []) no_faults)
    where
      no_item : (f : BundleFault) → f ∷ [] ≡ [] → ⊥
      no_item f e = cc

      go : (t : Bool) → is_table_value d ≡ t → (top_faults d ≡ []) × ((if t then faults_of_readers d else []) ≡ []) → faults_of_readers d ≡ []
      go true e h = h.1
      go false e h = elim (no_item no_table (sym (ap (λ t. if t then faults_at places.Bundle 0 0 (bundle_rules d) else no_table ∷ []) e) ∙ h.0)) [ ]

  abbrev c : ModelContext
  c = context_of (feature_names_in d) (model_in d)

  record ModelKept : Type 0 where
    elements : Each (λ x. element_rules c x ≡ []) (numbered (list_at (codes "elements") (model_in d)))
    systems : Each (λ x. system_rules c x ≡ []) (numbered (list_at (codes "systems") (model_in d)))

  model_kept : ModelKept
  unfolding model_faults
  model_kept =
      let model : faults_of_context c ≡ [] = (nothing_left (line_faults d) (model_faults (feature_names_in d) d) (nothing_left _ (template_faults (model_of (feature_names_in d) d) d) readers_find_nothing).0).1 in
      let to_transitions = (nothing_left _ (faults_of_items Owners _ (list_at (codes "elements") (model_in d))) model).0 in
      let to_states = (nothing_left _ (faults_in_systems c (λ x. faults_in_item Transitions (codes "transitions") (transition_rules c x) x)) to_transitions).0 in
      let to_systems = (nothing_left _ (faults_in_systems c (λ x. faults_in_item States (codes "states") (state_rules c x) x)) to_states).0 in
      let of_systems = nothing_left _ (faults_in_list c Systems (codes "systems") (system_rules c)) to_systems in
      let to_elements = (nothing_left _ (faults_in_list c Links (codes "links") (link_rules c)) of_systems.0).0 in
      let of_elements = nothing_left _ (faults_in_list c Elements (codes "elements") (element_rules c)) to_elements in
      record { elements = list_keeps c Elements (codes "elements") (element_rules c) of_elements.1; systems = list_keeps c Systems (codes "systems") (system_rules c) of_systems.1 }

  -- ---- few elements

  element_within : (x : ℕ × Document) → element_rules c x ≡ [] → is_within 2048 (0 + x.0) ≡ true
  unfolding element_rules
  element_within x e = ap (is_within 2048) (omega arith) ∙ holds_if_required 6 (is_within 2048 x.0) (nothing_left _ (requires 6 (is_within 2048 x.0)) (formed (element_form c x) _ e).0).1

  few_elements_given : length (list_at (codes "elements") (model_in d)) ≤ 2048
  few_elements_given =
      omega (
        arith,
        few_after 2048 0 0 (list_at (codes "elements") (model_in d)) (omega arith)
            (each_by _ (λ x. is_within 2048 (0 + x.0) ≡ true) element_within (numbered (list_at (codes "elements") (model_in d))) model_kept.elements),
      )

  abbrev b : Bundle
  b = bundle_of d

  few_elements : length b.model.elements ≤ 2 ^ 64
  unfolding bundle_of model_of
  few_elements = subst (λ n. n ≤ 2 ^ 64) (sym (length-map (list_at (codes "elements") (model_in d)) _)) (omega (arith, few_elements_given))

  -- ---- owners

  record OwnerKept (x : ℕ × Document) : Type 0 where
    known : is_among (names_in c (codes "elements")) (text_at (codes "element") x.1) ≡ true
    new : is_new_name (system_elements c) x.0 (text_at (codes "element") x.1) ≡ true

  owner_kept : (x : ℕ × Document) → system_rules c x ≡ [] → OwnerKept x
  unfolding system_rules
  owner_kept x e =
      let takes : element_takes_system c x ≡ true = holds_if_required 19 (element_takes_system c x) (nothing_left (requires 19 (element_takes_system c x)) _ (formed (system_form x) _ e).1).0 in
      let first = both_true _ _ (both_true _ _ takes).0 in
      record { known = first.0; new = first.1 }

  owners_kept : Each OwnerKept (numbered (list_at (codes "systems") (model_in d)))
  owners_kept = each_by _ OwnerKept owner_kept (numbered (list_at (codes "systems") (model_in d))) model_kept.systems

  -- the element that a system is read to belong to has the name that it gives
  owner_named : (s : List ℕ) → is_among (names_in c (codes "elements")) s ≡ true → name_of_element b (number_in (names_in c (codes "elements")) s) ≡ s
  unfolding bundle_of model_of
  owner_named s h =
      let place : (n : ℕ) × (place_of s (names_in c (codes "elements")) ≡ Some n) × (n < length (names_in c (codes "elements"))) = place_among (names_in c (codes "elements")) s h in
      ap (λ o. name_of_element b (unwrap_or o 0)) place.1
      ∙ name_of_read (text_at (codes "name")) _ (λ x. refl) (list_at (codes "elements") (model_in d)) place.0 s (name_at_place s (names_in c (codes "elements")) place.0 place.1)

  owners_differ : Pairwise (λ s t. s ≢ t) (map (λ s. name_of_element b s.element) b.model.systems)
  unfolding bundle_of model_of
  owners_differ =
      subst (Pairwise (λ s t. s ≢ t))
      (maps_same _ (λ s. name_of_element b s.element) (text_at (codes "element")) (list_at (codes "systems") (model_in d))
      (each_numbered (λ x. name_of_element b (number_in (names_in c (codes "elements")) (text_at (codes "element") x)) ≡ text_at (codes "element") x) 0 (list_at (codes "systems") (model_in d))
      (each_by OwnerKept _ (λ x k. owner_named (text_at (codes "element") x.1) k.known) (numbered (list_at (codes "systems") (model_in d))) owners_kept)))
      (names_differ (text_at (codes "element")) (list_at (codes "systems") (model_in d))
      (each_by OwnerKept _ (λ x k. k.new) (numbered (list_at (codes "systems") (model_in d))) owners_kept))

  -- ---- few nodes in each template

  abbrev node_list : Document → List Document
  node_list t = list_at (codes "nodes") t

  templates_kept : Each (λ t. node_faults (model_of (feature_names_in d) d) (templates_in d) t ≡ []) (numbered (templates_in d))
  unfolding template_faults
  templates_kept =
      each_keeps (node_faults (model_of (feature_names_in d) d) (templates_in d)) (numbered (templates_in d))
      (nothing_left _ (faults_in_templates d (node_faults (model_of (feature_names_in d) d) (templates_in d)))
      (nothing_left _ (template_faults (model_of (feature_names_in d) d) d) readers_find_nothing).1).1

  node_within : (m : Model) (t n : ℕ × Document) → node_rules (template.context_of m (templates_in d) t) n ≡ [] → is_within 1024 (counted_before (codes "nodes") (templates_in d) t.0 + n.0) ≡ true
  unfolding node_rules
  node_within m t n e =
      holds_if_required 6 _
      (nothing_left _ (requires 6 (is_within 1024 (counted_before (codes "nodes") (templates_in d) t.0 + n.0))) (formed (node_form (template.context_of m (templates_in d) t) n) _ e).0).1

  abbrev NodesWithin : ℕ × Document → Type 0
  NodesWithin t = Each (λ n. is_within 1024 (counted_before (codes "nodes") (templates_in d) t.0 + n.0) ≡ true) (numbered (node_list t.1))

  nodes_within : Each NodesWithin (numbered (templates_in d))
  nodes_within =
      each_by _ NodesWithin
      (λ t e. each_by _ (λ n. is_within 1024 (counted_before (codes "nodes") (templates_in d) t.0 + n.0) ≡ true) (node_within (model_of (feature_names_in d) d) t) (numbered (node_list t.1))
      (item_keeps Nodes (codes "nodes") (node_rules (template.context_of (model_of (feature_names_in d) d) (templates_in d) t)) t e))
      (numbered (templates_in d)) templates_kept

  abbrev counts : List Document → ℕ
  counts ts = sum_by (λ t. length (node_list t)) ts

  -- as long as so many stand before
  few_in_each : (before rest : List Document) (k : ℕ) → templates_in d ≡ before ++ rest → length before ≡ k → counts before ≤ 1024 → Each NodesWithin (enumerate_from k rest)
      → Each (λ t. length (node_list t) ≤ 1024) rest
  few_in_each before [] k e l h w = tt
  few_in_each before (t ∷ rest) k e l h w = (omega (arith, fits), few_in_each (before ++ t ∷ []) rest (k + 1) (e ∙ sym (append_assoc before (t ∷ []) rest)) (omega (arith, l, length-append before (t ∷ []))) more w.1)
    where
      counted : counted_before (codes "nodes") (templates_in d) k ≡ counts before
      counted = ap (λ n. counts (take n (templates_in d))) (sym l) ∙ ap (λ ts. counts (take (length before) ts)) e ∙ ap counts (take-append_seam before (t ∷ rest))

      fits : counts before + 0 + length (node_list t) ≤ 1024
      fits = few_after 1024 (counts before) 0 (node_list t) (omega (arith, h)) (subst (λ n. Each (λ x. is_within 1024 (n + x.0) ≡ true) (numbered (node_list t))) counted w.0)

      more : counts (before ++ t ∷ []) ≤ 1024
      more = omega (arith, fits, sum_by-append (λ t. length (node_list t)) before (t ∷ []), sum_by-cons (λ t. length (node_list t)) t [])

  few_nodes : AreFew b.templates
  unfolding bundle_of templates_of
  few_nodes =
      few_read _ (λ t. length-map (nodes_after _ _ _ _ [] (node_list t)) (λ p. p.node) ∙ nodes_read _ _ _ _ [] (node_list t)) (templates_in d)
      (few_in_each [] (templates_in d) 0 refl refl (omega arith) nodes_within)

  -- ---- the bundle's names

  small_at : (w : List Bool) → Each IsSmall (element_numbers (model_at b.model w))
  unfolding model_at
  small_at w =
      each_of_map IsSmall (λ e. e.0) (model_at b.model w).elements
      (each_filtered (λ e. IsSmall e.0) _ (numbered b.model.elements) (numbers_below (2 ^ 64) 0 b.model.elements (omega (arith, few_elements))))

  pub proper_names_of : HasProperNames b
  proper_names_of = record {
    keys = (possible_keys_under b few_elements few_nodes).differ;
    owners = owners_differ;
    upper = λ w. upper_is_there (length b.model.labels) (model_at b.model w) (small_at w) b.templates few_nodes;
  }
