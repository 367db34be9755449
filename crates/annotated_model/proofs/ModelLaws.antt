-- A bundle whose model breaks no rule has a model whose numbers are all in range.
use Rattle.std.proofs.Common.{◌≡◌, refl, sym, ap, ◌∙◌, subst, ℕ, ◌<◌, ◌≤◌, List, [], ◌++◌, length, map, take, Bool, true, false, Some, arith}
use Rattle.std.specs.Prelude.{codes, slice_get, not}
use Rattle.std.specs.List.{All, AllByRecursion, sum_by}
use Rattle.std.proofs.lemmas.List.{length-map}
use Rattle.std.proofs.lemmas.Option.{slice_get-map}
use Rattle.meaning.specs.Texts.{numbered, first_of_list, place_of, is_name}
use Rattle.meaning.specs.Documents.{Document, text_at, list_at}
use Rattle.meaning.specs.Models.{TypeDef, Model, number_in, inherited, kind_of, element_of, link_of, state_of, transition_of, system_from, model_from, model_of}
use Rattle.meaning.specs.BundlePlaces.{Types, Kinds, Labels, Elements, Links, Systems, States, Transitions, requires, faults_at, may_have, is_list_value, name_in, is_among}
use Rattle.meaning.specs.LineRules.{is_within, expression_rules}
use Rattle.meaning.specs.ModelRules.{ModelContext, element_has_form, element_texts_fit, context_of, model_in, types_in, faults_in_item, label_text, type_rules, kind_rules, label_rules, element_rules, link_rules, state_rules, transition_rules, system_rules, faults_of_context, model_faults}
use Rattle.meaning.proofs.FirstFaults.{nothing_first, nothing_left}
use Rattle.annotated_model.specs.Known.{ParentsAreEarlier}
use Rattle.annotated_model.specs.ModelFacts.{KindFits, ElementFits, LinkFits, SystemFits, KeepsRules}
use Rattle.annotated_model.specs.Items.{part_form, types_broken, texts_form, element_form_broken, attributes_given, element_broken}
use Rattle.annotated_model.specs.Parts.{type_names_in, names_at, labels_in, owners_in, systems_in, type_faults, kind_faults, label_faults, element_faults, link_faults, system_faults, state_faults, transition_faults, owner_faults}
use Rattle.annotated_model.proofs.NewTexts.{not_true}
use Rattle.annotated_model.proofs.TypeLaws.{where_formed_none, type_first, types_are, type_names_are}
use Rattle.annotated_model.specs.StateRules.{given_states}
use Rattle.annotated_model.specs.TransitionRules.{given_transitions}
use Rattle.annotated_model.proofs.StateLaws.{state_faults_are}
use Rattle.annotated_model.proofs.TransitionLaws.{transition_faults_are}
use Rattle.annotated_model.proofs.Limits.{few_in_list, type_within, kind_within, label_within, element_within, link_within, system_within, states_in_all, transitions_in_all, each_in_sum, sum_of_map}
use Rattle.annotated_model.proofs.ItemFacts.{left_true, right_true, weaker, kind_ends, element_type}
use Rattle.annotated_model.proofs.PartLaws.{kind_rules_are, element_rules_are}
use Rattle.annotated_model.proofs.KnownLaws.{map_twice, parents_told}
use Rattle.annotated_model.proofs.SystemPlacesLaw.{own_place, at_number, some_there}
use Rattle.annotated_model.proofs.RulesKept.{no_faults_at, each_in_list, each_of_flat, unnumbered, with_numbers, IsFew, number_within, link_known, system_known, both, all_values, system_fits}

module _ (features : List (List ℕ)) (model : Document) where
  abbrev c : ModelContext
  c = context_of features model

  -- no part has a fault
  pub record NoFaults : Type 0 where
    pub types : type_faults features model ≡ []
    pub kinds : kind_faults features model ≡ []
    pub labels : label_faults features model ≡ []
    pub elements : element_faults features model ≡ []
    pub links : link_faults features model ≡ []
    pub systems : system_faults features model ≡ []
    pub states : state_faults features model ≡ []
    pub transitions : transition_faults features model ≡ []
    pub owners : owner_faults features model ≡ []

  pub no_faults : faults_of_context (context_of features model) ≡ [] → NoFaults
  no_faults none =
      let a = type_faults features model in
      let b = a ++ kind_faults features model in
      let d = b ++ label_faults features model in
      let e = d ++ element_faults features model in
      let f = e ++ link_faults features model in
      let g = f ++ system_faults features model in
      let h = g ++ state_faults features model in
      let i = h ++ transition_faults features model in
      let s8 = nothing_left i (owner_faults features model) none in
      let s7 = nothing_left h (transition_faults features model) s8.0 in
      let s6 = nothing_left g (state_faults features model) s7.0 in
      let s5 = nothing_left f (system_faults features model) s6.0 in
      let s4 = nothing_left e (link_faults features model) s5.0 in
      let s3 = nothing_left d (element_faults features model) s4.0 in
      let s2 = nothing_left b (label_faults features model) s3.0 in
      let s1 = nothing_left a (kind_faults features model) s2.0 in
      record { types = s1.0; kinds = s1.1; labels = s2.1; elements = s3.1; links = s4.1; systems = s5.1; states = s6.1; transitions = s7.1; owners = s8.1 }

  module _ (none : NoFaults) where
    abbrev m : Model
    m = model_from features model

    count_types : length (type_names_in model) ≡ length m.types
    count_types = length-map (types_in model) (λ t. t.name)

    count_kinds : length (names_at (codes "kinds") model) ≡ length m.kinds
    count_kinds = length-map (list_at (codes "kinds") model) name_in ∙ sym (length-map (list_at (codes "kinds") model) (kind_of (type_names_in model)))

    count_elements : length (names_at (codes "elements") model) ≡ length m.elements
    count_elements = length-map (list_at (codes "elements") model) name_in ∙ sym (length-map (list_at (codes "elements") model) (element_of features (types_in model)))

    parents : ParentsAreEarlier m.types
    parents =
        let first = nothing_first _ (sym (type_first features model) ∙ ap first_of_list none.types) in
        let broken : types_broken (list_at (codes "types") model) ≡ [] = (nothing_left (part_form Types (codes "types") model) (types_broken (list_at (codes "types") model)) first).1 in
        subst ParentsAreEarlier (types_are features model broken) (parents_told (list_at (codes "types") model))

    kinds_fit : All (KindFits m) m.kinds
    kinds_fit =
        all_values (KindFits m) (kind_of (type_names_in model)) (list_at (codes "kinds") model)
        (each_in_list c Kinds (codes "kinds") (kind_rules c) (λ d. KindFits m (kind_of (type_names_in model) d))
        (λ i d e.
        let ends = kind_ends (type_names_in model) _ i d (sym (kind_rules_are c i d) ∙ e) in
        record {
          source = subst (λ n. number_in (type_names_in model) (text_at (codes "from") d) < n) count_types ends.source.within;
          target = subst (λ n. number_in (type_names_in model) (text_at (codes "to") d) < n) count_types ends.target.within;
        }) none.kinds)

    elements_fit : All (ElementFits m) m.elements
    elements_fit =
        all_values (ElementFits m) (element_of features (types_in model)) (list_at (codes "elements") model)
        (each_in_list c Elements (codes "elements") (element_rules c) (λ d. ElementFits m (element_of features (types_in model) d))
        (λ i d e.
        let named = element_type features (type_names_in model) (types_in model) _ i d (sym (element_rules_are c i d) ∙ e) in
        record {
          typed = subst (λ n. number_in (type_names_in model) (text_at (codes "type") d) < n) count_types named.within;
          valued = length-map (inherited (types_in model) (Some (number_in (type_names_in model) (text_at (codes "type") d)))) _;
        }) none.elements)

    links_fit : All (LinkFits m) m.links
    links_fit =
        all_values (LinkFits m) (link_of features (names_at (codes "kinds") model) (names_at (codes "elements") model)) (list_at (codes "links") model)
        (each_in_list c Links (codes "links") (link_rules c) (λ d. LinkFits m (link_of features (names_at (codes "kinds") model) (names_at (codes "elements") model) d))
        (λ i d e.
        let known = link_known c i d e in
        let kinds = names_at (codes "kinds") model in
        let elements = names_at (codes "elements") model in
        record {
          kind = subst (λ n. number_in kinds (text_at (codes "kind") d) < n) count_kinds
              (number_within kinds (text_at (codes "kind") d) (left_true _ _ (left_true _ _ known)));
          source = subst (λ n. number_in elements (text_at (codes "from") d) < n) count_elements
              (number_within elements (text_at (codes "from") d) (right_true _ _ (left_true _ _ known)));
          target = subst (λ n. number_in elements (text_at (codes "to") d) < n) count_elements
              (number_within elements (text_at (codes "to") d) (right_true _ _ known));
        }) none.links)

    given_in_all : (sum_by (λ d. length (given_states d)) (list_at (codes "systems") model) ≤ 4096)
        × (sum_by (λ d. length (given_transitions d)) (list_at (codes "systems") model) ≤ 16384)
    given_in_all = (
      states_in_all (labels_in model) (list_at (codes "systems") model) (sym (state_faults_are features (labels_in model) model refl) ∙ none.states),
      transitions_in_all features (list_at (codes "systems") model) (sym (transition_faults_are features model) ∙ none.transitions),
    )

    systems_few : AllByRecursion IsFew (list_at (codes "systems") model)
    systems_few =
        let systems = list_at (codes "systems") model in
        both (λ d. length (given_states d) ≤ 4096) (λ d. length (given_transitions d) ≤ 16384) systems
        (each_in_sum (λ d. length (given_states d)) 4096 systems given_in_all.0) (each_in_sum (λ d. length (given_transitions d)) 16384 systems given_in_all.1)

    systems_fit : All (SystemFits m) m.systems
    systems_fit =
        let systems = list_at (codes "systems") model in
        let in_states = λ (x : ℕ × Document). faults_in_item States (codes "states") (state_rules c x) x in
        let in_transitions = λ (x : ℕ × Document). faults_in_item Transitions (codes "transitions") (transition_rules c x) x in
        let themselves = each_of_flat (λ x. faults_at Systems x.0 0 (system_rules c x)) (λ i d. system_rules c (i, d) ≡ [])
        (λ i d e. no_faults_at Systems i 0 (system_rules c (i, d)) e) 0 systems
        (nothing_left (faults_at Systems 0 0 (requires 2 (may_have is_list_value (codes "systems") model))) _ none.systems).1 in
        let states = each_of_flat in_states (λ i d. in_states (i, d) ≡ []) (λ i d e. e) 0 systems none.states in
        let transitions = each_of_flat in_transitions (λ i d. in_transitions (i, d) ≡ []) (λ i d e. e) 0 systems none.transitions in
        all_values (SystemFits m) (system_from features (labels_in model) (names_at (codes "elements") model)) systems
        (unnumbered (λ d. SystemFits m (system_from features (labels_in model) (names_at (codes "elements") model) d)) 0 systems
        (weaker _ _ (λ x p. system_fits c features m refl count_elements x.0 x.1 (p.0, p.1.0, p.1.1.0) p.1.1.1) (numbered systems)
        (both (λ x. system_rules c x ≡ []) (λ x. (in_states x ≡ []) × ((in_transitions x ≡ []) × IsFew x.1)) (numbered systems) themselves
        (both (λ x. in_states x ≡ []) (λ x. (in_transitions x ≡ []) × IsFew x.1) (numbered systems) states
        (both (λ x. in_transitions x ≡ []) (λ x. IsFew x.1) (numbered systems) transitions (with_numbers IsFew 0 systems systems_few))))))

    -- ---- limits

    few_types : length m.types ≤ 256
    few_types =
        let count : length m.types ≡ length (list_at (codes "types") model) =
        sym count_types ∙ ap length (type_names_are model) ∙ length-map (list_at (codes "types") model) name_in in
        subst (λ n. n ≤ 256) (sym count) (few_in_list c Types (codes "types") (type_rules c) 256 (type_within c) none.types)

    few_kinds : length m.kinds ≤ 256
    few_kinds =
        subst (λ n. n ≤ 256) (sym (length-map (list_at (codes "kinds") model) (kind_of (type_names_in model))))
        (few_in_list c Kinds (codes "kinds") (kind_rules c) 256 (kind_within c) none.kinds)

    few_labels : length m.labels ≤ 256
    few_labels =
        subst (λ n. n ≤ 256) (sym (length-map (list_at (codes "labels") model) label_text))
        (few_in_list c Labels (codes "labels") (label_rules c) 256 (label_within c) none.labels)

    few_elements : length m.elements ≤ 2048
    few_elements =
        subst (λ n. n ≤ 2048) (sym (length-map (list_at (codes "elements") model) (element_of features (types_in model))))
        (few_in_list c Elements (codes "elements") (element_rules c) 2048 (element_within c) none.elements)

    few_links : length m.links ≤ 16384
    few_links =
        subst (λ n. n ≤ 16384) (sym (length-map (list_at (codes "links") model) (link_of features (names_at (codes "kinds") model) (names_at (codes "elements") model))))
        (few_in_list c Links (codes "links") (link_rules c) 16384 (link_within c) none.links)

    few_systems : length m.systems ≤ 256
    few_systems =
        subst (λ n. n ≤ 256) (sym (length-map (list_at (codes "systems") model) (system_from features (labels_in model) (names_at (codes "elements") model))))
        (few_in_list c Systems (codes "systems") (system_rules c) 256 (system_within c) none.systems)

    few_states_in_all : sum_by (λ s. length s.states) m.systems ≤ 4096
    few_states_in_all =
        subst (λ n. n ≤ 4096) (sym (sum_of_map (λ s. length s.states) (system_from features (labels_in model) (names_at (codes "elements") model))
        (λ d. length (given_states d)) (λ d. length-map (given_states d) (state_of (labels_in model))) (list_at (codes "systems") model))) given_in_all.0

    few_transitions_in_all : sum_by (λ s. length s.transitions) m.systems ≤ 16384
    few_transitions_in_all =
        subst (λ n. n ≤ 16384) (sym (sum_of_map (λ s. length s.transitions) (system_from features (labels_in model) (names_at (codes "elements") model))
        (λ d. length (given_transitions d)) (λ d. length-map (given_transitions d) (transition_of features (map name_in (given_states d)))) (list_at (codes "systems") model))) given_in_all.1

    pub keeps_rules : KeepsRules (model_from features model)
    keeps_rules = record {
      parents = parents;
      kinds = kinds_fit;
      elements = elements_fit;
      links = links_fit;
      systems = systems_fit;
      few_types = few_types;
      few_kinds = few_kinds;
      few_labels = few_labels;
      few_elements = few_elements;
      few_links = few_links;
      few_systems = few_systems;
      few_states_in_all = few_states_in_all;
      few_transitions_in_all = few_transitions_in_all;
    }

-- the numbers of a model that breaks no rule are in range
pub model_keeps_rules : (features : List (List ℕ)) (bundle : Document) → model_faults features bundle ≡ [] → KeepsRules (model_of features bundle)
unfolding model_faults model_of
model_keeps_rules features bundle none = keeps_rules features (model_in bundle) (no_faults features (model_in bundle) none)

-- ---- names that differ

element_new : (features names : List (List ℕ)) (types : List TypeDef) (before : List (List ℕ)) (i : ℕ) (d : Document)
    → element_broken features names types before i d ≡ [] → is_among before (name_in d) ≡ false
element_new features names types before i d none =
    go (element_has_form d) (is_name (name_in d)) (element_texts_fit d) (is_among before (name_in d)) (is_within 2048 i)
    (where_formed_none (element_form_broken before i d)
    (expression_rules features (codes "when") d ++ requires 15 (is_among names (text_at (codes "type") d)) ++ requires 16 (attributes_given names types d)) none).0
  where
    go : (a b c n f : Bool) → texts_form a b c (not n) f ≡ [] → n ≡ false
    go true true true false f e = refl
    go true true true true f e = absurd cc
    go true true false n f e = absurd cc
    go true false c n f e = absurd cc
    go false b c n f e = absurd cc

module _ (features : List (List ℕ)) (model : Document) (none : NoFaults features model) where
  -- each element is found by its name
  pub element_names_differ : (n : ℕ) (s : List ℕ) → slice_get (names_at (codes "elements") model) n ≡ Some s → place_of s (names_at (codes "elements") model) ≡ Some n
  element_names_differ n s at =
      let c = context_of features model in
      let elements = list_at (codes "elements") model in
      let names = names_at (codes "elements") model in
      let new = each_of_flat (λ x. faults_at Elements x.0 0 (element_rules c x)) (λ i d. is_among (take i names) (name_in d) ≡ false)
      (λ i d e. element_new features (type_names_in model) (types_in model) (take i names) i d (sym (element_rules_are c i d) ∙ no_faults_at Elements i 0 (element_rules c (i, d)) e))
      0 elements (nothing_left (faults_at Elements 0 0 (requires 2 (may_have is_list_value (codes "elements") model))) _ none.elements).1 in
      let d = some_there name_in (slice_get elements n) s (sym (slice_get-map name_in elements n) ∙ at) in
      own_place names n s at (subst (λ t. is_among (take n names) t ≡ false) d.2 (at_number (λ i d. is_among (take i names) (name_in d) ≡ false) 0 elements new n d.0 n (omega arith) d.1))

  takes_new : AllByRecursion (λ y. (is_among (take y.0 (owners_in model)) (text_at (codes "element") y.1) ≡ false) × (is_among (names_at (codes "elements") model) (text_at (codes "element") y.1) ≡ true))
      (numbered (list_at (codes "systems") model))
  takes_new =
      let c = context_of features model in
      each_of_flat (λ x. faults_at Systems x.0 0 (system_rules c x))
      (λ i d. (is_among (take i (owners_in model)) (text_at (codes "element") d) ≡ false) × (is_among (names_at (codes "elements") model) (text_at (codes "element") d) ≡ true))
      (λ i d e.
      let takes = (system_known c i d (no_faults_at Systems i 0 (system_rules c (i, d)) e)).0 in
      (not_true _ (right_true _ _ (left_true _ _ takes)), left_true _ _ (left_true _ _ takes)))
      0 (list_at (codes "systems") model) (nothing_left (faults_at Systems 0 0 (requires 2 (may_have is_list_value (codes "systems") model))) _ none.systems).1

  owner_there : (n : ℕ) (s : List ℕ) → slice_get (owners_in model) n ≡ Some s
      → (is_among (take n (owners_in model)) s ≡ false) × (is_among (names_at (codes "elements") model) s ≡ true)
  owner_there n s at =
      let systems = list_at (codes "systems") model in
      let d = some_there (text_at (codes "element")) (slice_get systems n) s (sym (slice_get-map (text_at (codes "element")) systems n) ∙ at) in
      subst (λ t. (is_among (take n (owners_in model)) t ≡ false) × (is_among (names_at (codes "elements") model) t ≡ true)) d.2
      (at_number (λ i d. (is_among (take i (owners_in model)) (text_at (codes "element") d) ≡ false) × (is_among (names_at (codes "elements") model) (text_at (codes "element") d) ≡ true))
      0 systems takes_new n d.0 n (omega arith) d.1)

  -- each system is found by the name of its element, which is known
  pub owners_differ : (n : ℕ) (s : List ℕ) → slice_get (owners_in model) n ≡ Some s → place_of s (owners_in model) ≡ Some n
  owners_differ n s at = own_place (owners_in model) n s at (owner_there n s at).0

  pub owners_known : (n : ℕ) (s : List ℕ) → slice_get (owners_in model) n ≡ Some s → is_among (names_at (codes "elements") model) s ≡ true
  owners_known n s at = (owner_there n s at).1

  pub owned_in : map (λ s. s.element) (systems_in features model) ≡ map (number_in (names_at (codes "elements") model)) (owners_in model)
  owned_in =
      let systems = list_at (codes "systems") model in
      map_twice (λ s. s.element) (system_from features (labels_in model) (names_at (codes "elements") model)) systems
      ∙ sym (map_twice (number_in (names_at (codes "elements") model)) (text_at (codes "element")) systems)
