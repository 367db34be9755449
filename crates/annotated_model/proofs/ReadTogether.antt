-- What the readers of types, link kinds, labels and elements give together.
use Rattle.std.proofs.Common.{◌≡◌, sym, ap, ◌∙◌, subst, ℕ, ◌<◌, ◌≤◌, List, [], ◌++◌, length, map, Some}
use Rattle.std.specs.Prelude.{codes}
use Rattle.std.specs.List.{All, AllByRecursion}
use Rattle.std.proofs.lemmas.List.{length-map}
use Rattle.std.proofs.lemmas.List.Elements.{All-from_recursion}
use Rattle.meaning.specs.Texts.{first_of_list}
use Rattle.meaning.specs.Documents.{Document, list_at}
use Rattle.meaning.specs.Models as meaning
use Rattle.meaning.specs.BundlePlaces.{Types, Kinds, Labels, Elements, name_in}
use Rattle.meaning.specs.ModelRules.{types_in}
use Rattle.meaning.proofs.FirstFaults.{nothing_first, nothing_left}
use Rattle.annotated_model.specs.declared.data.TypeDef.{TypeDef}
use Rattle.annotated_model.specs.declared.data.LinkKind.{LinkKind}
use Rattle.annotated_model.specs.declared.data.Element.{Element}
use Rattle.annotated_model.specs.declared.fault.ModelStop.{ModelStop}
use Rattle.annotated_model.specs.declared.known.Known.{Known}
use Rattle.annotated_model.specs.View.{type_view, kind_view, element_view}
use Rattle.annotated_model.specs.Faults.{IsFirst}
use Rattle.annotated_model.specs.Parts.{type_names_in, names_at, labels_in, type_faults, kind_faults, label_faults, element_faults, known_faults}
use Rattle.annotated_model.specs.Items.{part_form, part_faults, types_broken, types_told, kinds_broken, labels_broken, elements_broken, named_type, element_told}
use Rattle.annotated_model.specs.Known.{Knows, ParentsAreEarlier}
use Rattle.annotated_model.proofs.Firsts.{same_first, first_in_front, first_behind}
use Rattle.annotated_model.proofs.PartLaws.{kind_faults_are, label_faults_are, element_faults_are}
use Rattle.annotated_model.proofs.TypeLaws.{type_first, types_are, type_names_are}
use Rattle.annotated_model.proofs.ItemFacts.{weaker, all_of_mapped}
use Rattle.annotated_model.proofs.KnownLaws.{map_twice, parents_told, sources_named, targets_named, sources_within, targets_within, types_named, types_within}

pub record TypesRead (types : List TypeDef) (names : List (List ℕ)) (model : Document) : Type 0 where
  pub values : map type_view types ≡ types_told [] [] (list_at (codes "types") model)
  pub names_are : names ≡ names_at (codes "types") model
  pub few : length names ≤ 256
  pub none : part_faults Types (codes "types") types_broken model ≡ []

pub record KindsRead (types : List (List ℕ)) (kinds : List LinkKind) (names : List (List ℕ)) (model : Document) : Type 0 where
  pub values : map kind_view kinds ≡ map (meaning.kind_of types) (list_at (codes "kinds") model)
  pub names_are : names ≡ names_at (codes "kinds") model
  pub few : length names ≤ 256
  pub none : part_faults Kinds (codes "kinds") (kinds_broken types) model ≡ []

pub record LabelsRead (labels : List (List ℕ)) (model : Document) : Type 0 where
  pub names_are : labels ≡ labels_in model
  pub few : length labels ≤ 256
  pub none : part_faults Labels (codes "labels") labels_broken model ≡ []

pub record ElementsRead (features names : List (List ℕ)) (types : List TypeDef) (elements : List Element) (given : List (List ℕ)) (model : Document) : Type 0 where
  pub values : map element_view elements ≡ map (element_told features names (map type_view types)) (list_at (codes "elements") model)
  pub names_are : given ≡ names_at (codes "elements") model
  pub few : length given ≤ 2048
  pub none : part_faults Elements (codes "elements") (elements_broken features names (map type_view types)) model ≡ []

module _ (features : List (List ℕ)) (model : Document) (types : List TypeDef) (names : List (List ℕ)) where
  -- a stop of the types
  pub at_types : (stop : ModelStop) → IsFirst (part_faults Types (codes "types") types_broken model) stop → IsFirst (known_faults features model) stop
  at_types stop first =
      let t = type_faults features model in
      let k = kind_faults features model in
      let l = label_faults features model in
      first_in_front (t ++ k ++ l) (element_faults features model) stop (first_in_front (t ++ k) l stop (first_in_front t k stop
      (same_first (part_faults Types (codes "types") types_broken model) t stop (sym (type_first features model)) first)))

  module _ (r : TypesRead types names model) where
    types_equal : map type_view types ≡ types_in model
    types_equal = r.values ∙ types_are features model (nothing_left (part_form Types (codes "types") model) (types_broken (list_at (codes "types") model)) r.none).1

    names_equal : names ≡ type_names_in model
    names_equal = r.names_are ∙ sym (type_names_are model)

    no_type_faults : type_faults features model ≡ []
    no_type_faults = nothing_first (type_faults features model) (type_first features model ∙ ap first_of_list r.none)

    kinds_equal : kind_faults features model ≡ part_faults Kinds (codes "kinds") (kinds_broken names) model
    kinds_equal = kind_faults_are features model ∙ ap (λ ns. part_faults Kinds (codes "kinds") (kinds_broken ns) model) (sym names_equal)

    elements_equal : element_faults features model ≡ part_faults Elements (codes "elements") (elements_broken features names (map type_view types)) model
    elements_equal =
        element_faults_are features model
        ∙ ap (λ ns. part_faults Elements (codes "elements") (elements_broken features ns (types_in model)) model) (sym names_equal)
        ∙ ap (λ ts. part_faults Elements (codes "elements") (elements_broken features names ts) model) (sym types_equal)

    pub at_kinds : (stop : ModelStop) → IsFirst (part_faults Kinds (codes "kinds") (kinds_broken names) model) stop → IsFirst (known_faults features model) stop
    at_kinds stop first =
        let t = type_faults features model in
        let k = kind_faults features model in
        let l = label_faults features model in
        first_in_front (t ++ k ++ l) (element_faults features model) stop (first_in_front (t ++ k) l stop
        (first_behind t k stop no_type_faults (subst (λ fs. IsFirst fs stop) (sym kinds_equal) first)))

    module _ (kinds : List LinkKind) (kind_names : List (List ℕ)) (s : KindsRead names kinds kind_names model) where
      no_kind_faults : type_faults features model ++ kind_faults features model ≡ []
      no_kind_faults = ap (λ fs. fs ++ kind_faults features model) no_type_faults ∙ kinds_equal ∙ s.none

      pub at_labels : (stop : ModelStop) → IsFirst (part_faults Labels (codes "labels") labels_broken model) stop → IsFirst (known_faults features model) stop
      at_labels stop first =
          let t = type_faults features model in
          let k = kind_faults features model in
          let l = label_faults features model in
          first_in_front (t ++ k ++ l) (element_faults features model) stop
          (first_behind (t ++ k) l stop no_kind_faults (subst (λ fs. IsFirst fs stop) (sym (label_faults_are features model)) first))

      module _ (labels : List (List ℕ)) (u : LabelsRead labels model) where
        no_label_faults : type_faults features model ++ kind_faults features model ++ label_faults features model ≡ []
        no_label_faults = ap (λ fs. fs ++ label_faults features model) no_kind_faults ∙ label_faults_are features model ∙ u.none

        pub at_elements : (stop : ModelStop) → IsFirst (part_faults Elements (codes "elements") (elements_broken features names (map type_view types)) model) stop
            → IsFirst (known_faults features model) stop
        at_elements stop first =
            first_behind (type_faults features model ++ kind_faults features model ++ label_faults features model) (element_faults features model) stop no_label_faults
            (subst (λ fs. IsFirst fs stop) (sym elements_equal) first)

        module _ (elements : List Element) (given : List (List ℕ)) (v : ElementsRead features names types elements given model) where
          pub no_known_faults : known_faults features model ≡ []
          no_known_faults = ap (λ fs. fs ++ element_faults features model) no_label_faults ∙ elements_equal ∙ v.none

          count_types : length types ≡ length names
          count_types =
              sym (length-map types type_view) ∙ ap length types_equal ∙ sym (length-map (types_in model) (λ t. t.name)) ∙ ap length (sym names_equal)

          kinds_none : kinds_broken names (list_at (codes "kinds") model) ≡ []
          kinds_none = (nothing_left (part_form Kinds (codes "kinds") model) (kinds_broken names (list_at (codes "kinds") model)) s.none).1

          elements_none : elements_broken features names (map type_view types) (list_at (codes "elements") model) ≡ []
          elements_none =
              (nothing_left (part_form Elements (codes "elements") model) (elements_broken features names (map type_view types) (list_at (codes "elements") model)) v.none).1

          abbrev kind_list : List Document
          kind_list = list_at (codes "kinds") model

          abbrev element_list : List Document
          element_list = list_at (codes "elements") model

          -- a fact of the views is one of what was read
          seen : {X Y : Type 0} (view : X → Y) (P : Y → Type 0) (Q : X → Type 0) (xs : List X) (ys : List Y)
              → map view xs ≡ ys → ((x : X) → P (view x) → Q x) → AllByRecursion P ys → All Q xs
          seen view P Q xs ys e f h =
              All-from_recursion Q xs (weaker (λ x. P (view x)) Q f xs (all_of_mapped P view xs (subst (AllByRecursion P) (sym e) h)))

          abbrev pub known : Known
          known = record {
            types = types;
            type_names = names;
            kinds = kinds;
            kind_names = kind_names;
            labels = labels;
            elements = elements;
            element_names = given;
          }

          pub knows : Knows known features model
          knows = record {
            types = types_equal;
            type_names = names_equal;
            parents = subst ParentsAreEarlier (sym r.values ∙ types_equal) (parents_told (list_at (codes "types") model));
            kinds = s.values ∙ ap (λ ns. map (meaning.kind_of ns) (list_at (codes "kinds") model)) names_equal;
            kind_names = s.names_are;
            sources = ap (λ ns. map (named_type ns (codes "from")) kind_list) (sym names_equal) ∙ sources_named names kind_list kinds_none
                ∙ ap (map (λ k. Some k.source)) (sym s.values) ∙ map_twice (λ k. Some k.source) kind_view kinds;
            targets = ap (λ ns. map (named_type ns (codes "to")) kind_list) (sym names_equal) ∙ targets_named names kind_list kinds_none
                ∙ ap (map (λ k. Some k.target)) (sym s.values) ∙ map_twice (λ k. Some k.target) kind_view kinds;
            labels = u.names_are;
            elements = v.values ∙ ap (λ ns. map (element_told features ns (map type_view types)) element_list) names_equal
                ∙ ap (λ ts. map (element_told features (type_names_in model) ts) element_list) types_equal;
            element_names = v.names_are;
            element_types = ap (λ ns. map (named_type ns (codes "type")) element_list) (sym names_equal)
                ∙ types_named features names (map type_view types) element_list elements_none
                ∙ ap (map (λ e. Some e.of_type)) (sym v.values) ∙ map_twice (λ e. Some e.of_type) element_view elements;
            source_range = seen kind_view (λ k. k.source < length names) (λ k. k.from < length types) kinds _ s.values (λ k h. subst (λ n. k.from < n) (sym count_types) h)
                (sources_within names (list_at (codes "kinds") model) kinds_none);
            target_range = seen kind_view (λ k. k.target < length names) (λ k. k.to < length types) kinds _ s.values (λ k h. subst (λ n. k.to < n) (sym count_types) h)
                (targets_within names (list_at (codes "kinds") model) kinds_none);
            type_range = seen element_view (λ e. e.of_type < length names) (λ e. e.of_type < length types) elements _ v.values (λ e h. subst (λ n. e.of_type < n) (sym count_types) h)
                (types_within features names (map type_view types) (list_at (codes "elements") model) elements_none);
            few_types = subst (λ n. n ≤ 256) (sym count_types) r.few;
            few_kinds = subst (λ n. n ≤ 256) (sym (sym (length-map kinds kind_view) ∙ ap length s.values ∙ length-map kind_list (meaning.kind_of names)
                ∙ sym (length-map kind_list name_in) ∙ ap length (sym s.names_are))) s.few;
            few_labels = u.few;
            few_elements = subst (λ n. n ≤ 2048) (sym (sym (length-map elements element_view) ∙ ap length v.values
                ∙ length-map element_list (element_told features names (map type_view types)) ∙ sym (length-map element_list name_in) ∙ ap length (sym v.names_are))) v.few;
          }
