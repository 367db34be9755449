-- The faults of each part of a model table, over the names of the line's features.
use Rattle.std.specs.Prelude.{ℕ, List, ◌++◌, map, codes}
use Rattle.meaning.specs.Documents.{Document, list_at, text_at, texts_in}
use Rattle.meaning.specs.Models as meaning
use Rattle.meaning.specs.BundlePlaces.{BundleFault, Types, Kinds, Labels, Elements, Links, Systems, States, Transitions, Owners, requires, faults_of_items, name_in}
use Rattle.meaning.specs.ModelRules.{context_of, faults_in_list, faults_in_systems, faults_in_item, type_rules, kind_rules, label_rules, element_rules, link_rules, system_rules, state_rules, transition_rules, has_its_system, types_in}

-- ---- names

abbrev pub type_names_in : Document → List (List ℕ)
type_names_in model = map (λ t. t.name) (types_in model)

abbrev pub names_at : List ℕ → Document → List (List ℕ)
names_at k model = map name_in (list_at k model)

abbrev pub labels_in : Document → List (List ℕ)
labels_in model = texts_in (list_at (codes "labels") model)

-- the names of the elements that the systems belong to
abbrev pub owners_in : Document → List (List ℕ)
owners_in model = map (text_at (codes "element")) (list_at (codes "systems") model)

-- ---- values

abbrev pub kinds_in : Document → List meaning.LinkKind
kinds_in model = map (meaning.kind_of (type_names_in model)) (list_at (codes "kinds") model)

abbrev pub elements_in : List (List ℕ) → Document → List meaning.Element
elements_in features model = map (meaning.element_of features (types_in model)) (list_at (codes "elements") model)

abbrev pub links_in : List (List ℕ) → Document → List meaning.Link
links_in features model =
    map (meaning.link_of features (names_at (codes "kinds") model) (names_at (codes "elements") model)) (list_at (codes "links") model)

abbrev pub systems_in : List (List ℕ) → Document → List meaning.System
systems_in features model =
    map (meaning.system_from features (labels_in model) (names_at (codes "elements") model)) (list_at (codes "systems") model)

-- ---- faults

abbrev pub type_faults : List (List ℕ) → Document → List BundleFault
type_faults features model = let c = context_of features model in faults_in_list c Types (codes "types") (type_rules c)

abbrev pub kind_faults : List (List ℕ) → Document → List BundleFault
kind_faults features model = let c = context_of features model in faults_in_list c Kinds (codes "kinds") (kind_rules c)

abbrev pub label_faults : List (List ℕ) → Document → List BundleFault
label_faults features model = let c = context_of features model in faults_in_list c Labels (codes "labels") (label_rules c)

abbrev pub element_faults : List (List ℕ) → Document → List BundleFault
element_faults features model = let c = context_of features model in faults_in_list c Elements (codes "elements") (element_rules c)

abbrev pub link_faults : List (List ℕ) → Document → List BundleFault
link_faults features model = let c = context_of features model in faults_in_list c Links (codes "links") (link_rules c)

abbrev pub system_faults : List (List ℕ) → Document → List BundleFault
system_faults features model = let c = context_of features model in faults_in_list c Systems (codes "systems") (system_rules c)

abbrev pub state_faults : List (List ℕ) → Document → List BundleFault
state_faults features model =
    let c = context_of features model in
    faults_in_systems c (λ x. faults_in_item States (codes "states") (state_rules c x) x)

abbrev pub transition_faults : List (List ℕ) → Document → List BundleFault
transition_faults features model =
    let c = context_of features model in
    faults_in_systems c (λ x. faults_in_item Transitions (codes "transitions") (transition_rules c x) x)

abbrev pub owner_faults : List (List ℕ) → Document → List BundleFault
owner_faults features model =
    let c = context_of features model in
    faults_of_items Owners (λ e. requires 20 (has_its_system c e.1)) (list_at (codes "elements") model)

-- the faults of the parts from the types to the elements
abbrev pub known_faults : List (List ℕ) → Document → List BundleFault
known_faults features model = type_faults features model ++ kind_faults features model ++ label_faults features model ++ element_faults features model
