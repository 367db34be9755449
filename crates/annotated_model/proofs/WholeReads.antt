-- The parts of a model table together: the first fault of all, and the model that is joined of them.
use Rattle.std.proofs.Common.{◌≡◌, sym, ap, ◌∙◌, subst, ℕ, List, [], ◌++◌, map, append_assoc, Some}
use Rattle.std.specs.Prelude.{codes, slice_get, true}
use Rattle.meaning.specs.Texts.{place_of}
use Rattle.meaning.specs.Documents.{Document, list_at}
use Rattle.meaning.specs.Models as meaning
use Rattle.meaning.specs.BundlePlaces.{BundleFault, is_among}
use Rattle.meaning.specs.ModelRules.{context_of, types_in, faults_of_context}
use Rattle.annotated_model.specs.declared.data.Link.{Link}
use Rattle.annotated_model.specs.declared.data.System.{System}
use Rattle.annotated_model.specs.declared.fault.ModelStop.{ModelStop}
use Rattle.annotated_model.specs.declared.known.Known.{Known}
use Rattle.annotated_model.specs.View.{type_view, kind_view, element_view, link_view, system_view}
use Rattle.annotated_model.specs.Faults.{IsFirst}
use Rattle.annotated_model.specs.Parts.{names_at, labels_in, kinds_in, elements_in, owners_in, links_in, systems_in, known_faults, link_faults, system_faults, state_faults, transition_faults, owner_faults}
use Rattle.annotated_model.specs.SystemRules.{behaviour_faults}
use Rattle.annotated_model.specs.Owners.{owners_broken}
use Rattle.annotated_model.specs.Known.{Knows}
use Rattle.annotated_model.specs.ModelFacts.{KeepsRules}
use Rattle.annotated_model.specs.ModelTexts.{ModelHasTexts}
use Rattle.annotated_model.specs.Joined.{joined_view, CanJoin}
use Rattle.annotated_model.proofs.Firsts.{first_in_front, first_behind}
use Rattle.annotated_model.proofs.KnownLaws.{map_twice}
use Rattle.annotated_model.proofs.OwnerLaws.{owner_faults_are}
use Rattle.annotated_model.proofs.TextsRead.{texts_read}
use Rattle.annotated_model.proofs.ModelLaws.{NoFaults, no_faults, keeps_rules, element_names_differ, owners_differ, owners_known, owned_in}

abbrev model_with : List meaning.TypeDef → List meaning.LinkKind → List (List ℕ) → List meaning.Element → List meaning.Link → List meaning.System → meaning.Model
model_with types kinds labels elements links systems = record {
  types = types;
  kinds = kinds;
  labels = labels;
  elements = elements;
  links = links;
  systems = systems;
}

module _ (features : List (List ℕ)) (model : Document) where
  abbrev all : List BundleFault
  all = faults_of_context (context_of features model)

  abbrev before_systems : List BundleFault
  before_systems = known_faults features model ++ link_faults features model

  whole : all ≡ before_systems ++ behaviour_faults features model ++ owner_faults features model
  whole =
      let s = system_faults features model in
      let t = state_faults features model in
      let r = transition_faults features model in
      ap (λ fs. fs ++ owner_faults features model)
      (ap (λ fs. fs ++ r) (append_assoc before_systems s t) ∙ append_assoc before_systems (s ++ t) r)

  pub at_known : (stop : ModelStop) → IsFirst (known_faults features model) stop → IsFirst (faults_of_context (context_of features model)) stop
  at_known stop first =
      subst (λ fs. IsFirst fs stop) (sym whole)
      (first_in_front (before_systems ++ behaviour_faults features model) (owner_faults features model) stop
      (first_in_front before_systems (behaviour_faults features model) stop (first_in_front (known_faults features model) (link_faults features model) stop first)))

  module _ (no_known : known_faults features model ≡ []) where
    pub at_links : (stop : ModelStop) → IsFirst (link_faults features model) stop → IsFirst (faults_of_context (context_of features model)) stop
    at_links stop first =
        subst (λ fs. IsFirst fs stop) (sym whole)
        (first_in_front (before_systems ++ behaviour_faults features model) (owner_faults features model) stop
        (first_in_front before_systems (behaviour_faults features model) stop (first_behind (known_faults features model) (link_faults features model) stop no_known first)))

    module _ (no_links : link_faults features model ≡ []) where
      none_before : before_systems ≡ []
      none_before = ap (λ fs. fs ++ link_faults features model) no_known ∙ no_links

      pub at_systems : (stop : ModelStop) → IsFirst (behaviour_faults features model) stop → IsFirst (faults_of_context (context_of features model)) stop
      at_systems stop first =
          subst (λ fs. IsFirst fs stop) (sym whole)
          (first_in_front (before_systems ++ behaviour_faults features model) (owner_faults features model) stop
          (first_behind before_systems (behaviour_faults features model) stop none_before first))

      module _ (no_behaviour : behaviour_faults features model ≡ []) (known : Known) (knows : Knows known features model) where
        typed : map (λ e. Some e.of_type) known.elements ≡ map (λ e. Some e.of_type) (map element_view known.elements)
        typed = sym (map_twice (λ e. Some e.of_type) element_view known.elements)

        pub named : names_at (codes "elements") model ≡ map (λ e. e.name) (map element_view known.elements)
        named = sym (ap (map (λ e. e.name)) knows.elements ∙ map_twice (λ e. e.name) (meaning.element_of features (types_in model)) (list_at (codes "elements") model))

        module _ (owners : List (List ℕ)) (owners_are : owners ≡ owners_in model) where
          owned : owner_faults features model ≡ owners_broken (map type_view known.types) owners 0 (map element_view known.elements)
          owned =
              owner_faults_are features model (map element_view known.elements) (knows.element_types ∙ typed) named
              ∙ ap (λ os. owners_broken (types_in model) os 0 (map element_view known.elements)) (sym owners_are)
              ∙ ap (λ ts. owners_broken ts owners 0 (map element_view known.elements)) (sym knows.types)

          pub at_owners : (stop : ModelStop) → IsFirst (owners_broken (map type_view known.types) owners 0 (map element_view known.elements)) stop
              → IsFirst (faults_of_context (context_of features model)) stop
          at_owners stop first =
              subst (λ fs. IsFirst fs stop) (sym whole)
              (first_behind (before_systems ++ behaviour_faults features model) (owner_faults features model) stop
              (ap (λ fs. fs ++ behaviour_faults features model) none_before ∙ no_behaviour) (subst (λ fs. IsFirst fs stop) (sym owned) first))

          module _ (no_owners : owners_broken (map type_view known.types) owners 0 (map element_view known.elements) ≡ []) where
            pub no_fault : faults_of_context (context_of features model) ≡ []
            no_fault =
                whole ∙ ap (λ fs. fs ++ owner_faults features model) (ap (λ fs. fs ++ behaviour_faults features model) none_before ∙ no_behaviour) ∙ owned ∙ no_owners

            module _ (links : List Link) (systems : List System) (links_are : map link_view links ≡ links_in features model)
                (systems_are : map system_view systems ≡ systems_in features model) where
              pub model_is : joined_view known links systems ≡ meaning.model_from features model
              model_is =
                  let ts = types_in model in
                  let ks = kinds_in model in
                  let ls = labels_in model in
                  let es = elements_in features model in
                  ap (λ x. model_with x (map kind_view known.kinds) known.labels (map element_view known.elements) (map link_view links) (map system_view systems)) knows.types
                  ∙ ap (λ x. model_with ts x known.labels (map element_view known.elements) (map link_view links) (map system_view systems)) knows.kinds
                  ∙ ap (λ x. model_with ts ks x (map element_view known.elements) (map link_view links) (map system_view systems)) knows.labels
                  ∙ ap (λ x. model_with ts ks ls x (map link_view links) (map system_view systems)) knows.elements
                  ∙ ap (λ x. model_with ts ks ls es x (map system_view systems)) links_are
                  ∙ ap (model_with ts ks ls es (links_in features model)) systems_are

              passes : NoFaults features model
              passes = no_faults features model no_fault

              pub can_join : CanJoin known links systems owners
              can_join = record {
                rules = subst KeepsRules (sym model_is) (keeps_rules features model passes);
                texts = subst ModelHasTexts (sym model_is) (texts_read features model passes);
                named = knows.element_names ∙ named ∙ map_twice (λ e. e.name) element_view known.elements;
                owned = sym (map_twice (λ s. s.element) system_view systems) ∙ ap (map (λ s. s.element)) systems_are ∙ owned_in features model passes
                    ∙ ap (λ ns. map (meaning.number_in ns) (owners_in model)) (sym knows.element_names)
                    ∙ ap (map (meaning.number_in known.element_names)) (sym owners_are);
                names_differ = subst (λ ns. (n : ℕ) (s : List ℕ) → slice_get ns n ≡ Some s → place_of s ns ≡ Some n) (sym knows.element_names) (element_names_differ features model passes);
                owners_differ = subst (λ os. (n : ℕ) (s : List ℕ) → slice_get os n ≡ Some s → place_of s os ≡ Some n) (sym owners_are) (owners_differ features model passes);
                owners_known = λ n s at. subst (λ ns. is_among ns s ≡ true) (sym knows.element_names)
                    (owners_known features model passes n s (ap (λ os. slice_get os n) (sym owners_are) ∙ at));
              }
