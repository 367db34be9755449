-- The faults of a part, read over the names that the items before an item give, are those of the definitions.
use Rattle.std.proofs.Common.{◌≡◌, refl, sym, ap, ◌∙◌, ℕ, ◌+◌, List, [], ◌∷◌, ◌++◌, length, map, take, append_assoc, length-append}
use Rattle.std.specs.Prelude.{codes}
use Rattle.std.specs.List.{enumerate_from}
use Rattle.std.proofs.Math.Seq.{take-append_seam}
use Rattle.meaning.specs.Texts.{flat}
use Rattle.meaning.specs.Documents.{Document, list_at}
use Rattle.meaning.specs.BundlePlaces.{Part, Kinds, Labels, Elements, Broken, faults_at, name_in}
use Rattle.meaning.specs.ModelRules.{ModelContext, context_of, types_in, label_text, kind_rules, label_rules, element_rules}
use Rattle.annotated_model.specs.Items.{faults_after, part_faults, kind_broken, kinds_broken, label_broken, labels_broken, element_broken, elements_broken}
use Rattle.annotated_model.specs.Parts.{type_names_in, kind_faults, label_faults, element_faults}

-- the names before an item are those that the items before it give
names_before : (before after all : List (List ℕ)) (i : ℕ) → length before ≡ i → before ++ after ≡ all → take i all ≡ before
names_before before after all i is whole =
    ap (λ n. take n all) (sym is) ∙ ap (take (length before)) (sym whole) ∙ take-append_seam before after

module _ (part : Part) (name : Document → List ℕ) (over : List (List ℕ) → ℕ → Document → List Broken) (rules : ℕ × Document → List Broken) (all : List (List ℕ))
    (same : (i : ℕ) (d : Document) → rules (i, d) ≡ over (take i all) i d) where
  walk_is : (before : List (List ℕ)) (i : ℕ) (ds : List Document) → length before ≡ i → before ++ map name ds ≡ all
      → flat (λ x. faults_at part x.0 0 (rules x)) (enumerate_from i ds) ≡ faults_after part name over before i ds
  walk_is before i [] is whole = refl
  walk_is before i (d ∷ ds) is whole =
      let here : rules (i, d) ≡ over before i d = same i d ∙ ap (λ names. over names i d) (names_before before (map name (d ∷ ds)) all i is whole) in
      let longer : length (before ++ name d ∷ []) ≡ i + 1 = length-append before (name d ∷ []) ∙ ap (λ n. n + 1) is in
      let rest = walk_is (before ++ name d ∷ []) (i + 1) ds longer (append_assoc before (name d ∷ []) (map name ds) ∙ whole) in
      ap (λ broken. faults_at part i 0 broken ++ flat (λ x. faults_at part x.0 0 (rules x)) (enumerate_from (i + 1) ds)) here
      ∙ ap (λ fs. faults_at part i 0 (over before i d) ++ fs) rest

pub kind_rules_are : (c : ModelContext) (i : ℕ) (d : Document) → kind_rules c (i, d) ≡ kind_broken (map (λ t. t.name) c.types) (take i (map name_in (list_at (codes "kinds") c.table))) i d
unfolding kind_rules
kind_rules_are c i d = refl

label_rules_are : (c : ModelContext) (i : ℕ) (d : Document) → label_rules c (i, d) ≡ label_broken (take i c.labels) i d
unfolding label_rules
label_rules_are c i d = refl

pub element_rules_are : (c : ModelContext) (i : ℕ) (d : Document)
    → element_rules c (i, d) ≡ element_broken c.features (map (λ t. t.name) c.types) c.types (take i (map name_in (list_at (codes "elements") c.table))) i d
unfolding element_rules
element_rules_are c i d = refl

module _ (features : List (List ℕ)) (model : Document) where
  pub kind_faults_are : kind_faults features model ≡ part_faults Kinds (codes "kinds") (kinds_broken (type_names_in model)) model
  kind_faults_are =
      let c = context_of features model in
      let kinds = list_at (codes "kinds") model in
      ap (λ fs. part_faults Kinds (codes "kinds") (λ ds. fs) model)
      (walk_is Kinds name_in (kind_broken (type_names_in model)) (kind_rules c) (map name_in kinds) (kind_rules_are c) [] 0 kinds refl refl)

  pub label_faults_are : label_faults features model ≡ part_faults Labels (codes "labels") labels_broken model
  label_faults_are =
      let c = context_of features model in
      let labels = list_at (codes "labels") model in
      ap (λ fs. part_faults Labels (codes "labels") (λ ds. fs) model)
      (walk_is Labels label_text label_broken (label_rules c) (map label_text labels) (label_rules_are c) [] 0 labels refl refl)

  pub element_faults_are : element_faults features model
      ≡ part_faults Elements (codes "elements") (elements_broken features (type_names_in model) (types_in model)) model
  element_faults_are =
      let c = context_of features model in
      let elements = list_at (codes "elements") model in
      ap (λ fs. part_faults Elements (codes "elements") (λ ds. fs) model)
      (walk_is Elements name_in (element_broken features (type_names_in model) (types_in model)) (element_rules c) (map name_in elements) (element_rules_are c) [] 0 elements refl refl)
