-- For private clauses: the rules at an item, over what its reader has: the names that the earlier items give, and the item's number.
use Rattle.std.specs.Prelude.{ℕ, ◌+◌, List, [], ◌∷◌, ◌++◌, map, length, Bool, not, ◌&&◌, nat_le, Option, Some, option_and_then, codes}
use Rattle.meaning.specs.Texts.{is_name, place_of}
use Rattle.meaning.specs.Documents.{Document, text_at, list_at, table_at}
use Rattle.meaning.specs.Expressions.{Expression}
use Rattle.meaning.specs.Models.{TypeDef, Element, number_in, condition_of, inherited, type_of}
use Rattle.meaning.specs.BundlePlaces.{Part, Types, Kinds, Labels, Elements, BundleFault, Broken, requires, where_formed, faults_at, may_have, is_list_value, is_text_value, if_some, name_in, is_among, are_new, text_of_member}
use Rattle.meaning.specs.LineRules.{is_within, expression_rules}
use Rattle.meaning.specs.ModelRules.{type_has_form, type_gives_names, own_attributes, kind_has_form, label_text, element_has_form, element_texts_fit, values_given, same_texts}

-- ---- the items of a list in turn

-- the faults of items from a number on, each read over the names that the items before it give
abbrev pub faults_after : Part → (Document → List ℕ) → (List (List ℕ) → ℕ → Document → List Broken) → List (List ℕ) → ℕ → List Document → List BundleFault
faults_after part name rules before i [] = []
faults_after part name rules before i (d ∷ ds) = faults_at part i 0 (rules before i d) ++ faults_after part name rules (before ++ name d ∷ []) (i + 1) ds

-- the member is a list, if it is there
abbrev pub part_form : Part → List ℕ → Document → List BundleFault
part_form part k model = faults_at part 0 0 (requires 2 (may_have is_list_value k model))

-- the member is a list, if it is there; then the faults of its items
abbrev pub part_faults : Part → List ℕ → (List Document → List BundleFault) → Document → List BundleFault
part_faults part k items model = part_form part k model ++ items (list_at k model)

-- the rules of form of an item that gives a name: form, name, new name, limit
abbrev pub named_form : Bool → Bool → Bool → Bool → List Broken
named_form form named new within = requires 2 form ++ requires 3 named ++ requires 5 new ++ requires 6 within

-- ---- link kinds

abbrev pub end_types_known : List (List ℕ) → Document → Bool
end_types_known types d = is_among types (text_at (codes "from") d) && is_among types (text_at (codes "to") d)

abbrev pub kind_broken : List (List ℕ) → List (List ℕ) → ℕ → Document → List Broken
kind_broken types before i d =
    where_formed (named_form (kind_has_form d) (is_name (name_in d)) (not (is_among before (name_in d))) (is_within 256 i)) (requires 14 (end_types_known types d))

abbrev pub kinds_broken : List (List ℕ) → List Document → List BundleFault
kinds_broken types kinds = faults_after Kinds name_in (kind_broken types) [] 0 kinds

-- ---- labels

abbrev pub label_broken : List (List ℕ) → ℕ → Document → List Broken
label_broken before i d =
    named_form (is_text_value d) (is_name (label_text d)) (not (is_among before (label_text d))) (is_within 256 i)

abbrev pub labels_broken : List Document → List BundleFault
labels_broken labels = faults_after Labels label_text label_broken [] 0 labels

-- ---- types

-- the type that a text member names among these
abbrev pub named_type : List (List ℕ) → List ℕ → Document → Option ℕ
named_type names k d = option_and_then (λ s. place_of s names) (text_of_member k d)

-- the rules at a type after types with these names, which inherits these attributes
abbrev pub type_rules_over : List (List ℕ) → List (List ℕ) → ℕ → Document → List Broken
type_rules_over names inherited i d =
    where_formed (named_form (type_has_form d) (type_gives_names d) (not (is_among names (name_in d)) && are_new inherited (own_attributes d))
    (is_within 256 i && nat_le (length (inherited ++ own_attributes d)) 32))
    (requires 13 (if_some (is_among names) (text_of_member (codes "parent") d)))

-- the rules at a type after these types, whose names these are
abbrev pub type_broken : List (List ℕ) → List TypeDef → ℕ → Document → List Broken
type_broken names before i d = type_rules_over names (inherited before (named_type names (codes "parent") d)) i d

-- the faults of types from a number on, each after the types before it
abbrev pub types_broken_after : List (List ℕ) → List TypeDef → ℕ → List Document → List BundleFault
types_broken_after names before i [] = []
types_broken_after names before i (d ∷ ds) =
    faults_at Types i 0 (type_broken names before i d)
    ++ types_broken_after (names ++ name_in d ∷ []) (before ++ type_of names before d ∷ []) (i + 1) ds

abbrev pub types_broken : List Document → List BundleFault
types_broken types = types_broken_after [] [] 0 types

-- the types that documents give, each read over the names of the types before it
abbrev pub types_told : List (List ℕ) → List TypeDef → List Document → List TypeDef
types_told names before [] = before
types_told names before (d ∷ ds) = types_told (names ++ name_in d ∷ []) (before ++ type_of names before d ∷ []) ds

-- ---- elements

-- the rules of form of an element: form, name, lengths of texts, new name, limit
abbrev pub texts_form : Bool → Bool → Bool → Bool → Bool → List Broken
texts_form form named fit new within = requires 2 form ++ requires 3 named ++ requires 4 fit ++ requires 5 new ++ requires 6 within

abbrev pub element_form_broken : List (List ℕ) → ℕ → Document → List Broken
element_form_broken before i d =
    texts_form (element_has_form d) (is_name (name_in d)) (element_texts_fit d) (not (is_among before (name_in d))) (is_within 2048 i)

-- the element gives exactly the attributes of its type, if that is known
abbrev pub attributes_given : List (List ℕ) → List TypeDef → Document → Bool
attributes_given names types d =
    if_some (λ t. same_texts (inherited types (Some t)) (map (λ e. e.0) (values_given d))) (named_type names (codes "type") d)

-- the rules at an element of these types, whose names these are
abbrev pub element_broken : List (List ℕ) → List (List ℕ) → List TypeDef → List (List ℕ) → ℕ → Document → List Broken
element_broken features names types before i d =
    where_formed (element_form_broken before i d)
    (expression_rules features (codes "when") d ++ requires 15 (is_among names (text_at (codes "type") d)) ++ requires 16 (attributes_given names types d))

abbrev pub elements_broken : List (List ℕ) → List (List ℕ) → List TypeDef → List Document → List BundleFault
elements_broken features names types elements = faults_after Elements name_in (element_broken features names types) [] 0 elements

-- the values that an element gives for these attributes
abbrev pub values_told : List (List ℕ) → Document → List (List ℕ)
values_told attributes d = map (λ a. text_at a (table_at (codes "attributes") d)) attributes

-- the element that a document gives, with a condition, over the names of the types
abbrev pub element_with : List (List ℕ) → List TypeDef → Expression → Document → Element
element_with names types e d =
    let t = number_in names (text_at (codes "type") d) in
    record { name = name_in d; of_type = t; presence = e; attributes = values_told (inherited types (Some t)) d }

abbrev pub element_told : List (List ℕ) → List (List ℕ) → List TypeDef → Document → Element
element_told features names types d = element_with names types (condition_of features d) d
