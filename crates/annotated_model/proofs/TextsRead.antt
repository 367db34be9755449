-- A model without a fault holds texts: the names of its elements and the values of their attributes.
use Rattle.std.proofs.Common.{◌≡◌, refl, ℕ, List, [], ◌∷◌, ◌++◌, map, Bool, true, false, Option, Some, None}
use Rattle.std.specs.Prelude.{codes, unwrap_or, option_and_then, if◌then◌else◌, bytes_eq, ◌&&◌}
use Rattle.std.specs.List.{AllByRecursion, list_all}
use Rattle.meaning.specs.Texts.{is_text, is_name, each_of}
use Rattle.meaning.specs.Documents.{Document, Members, no_members, member, as_text, as_table, entries, value_of, text_at, list_at, table_at}
use Rattle.meaning.specs.Models.{element_of, model_from, model_of}
use Rattle.meaning.specs.BundlePlaces.{Elements, name_in, requires, text_within, member_within}
use Rattle.meaning.specs.LineRules.{is_within}
use Rattle.meaning.specs.ModelRules.{ModelContext, context_of, model_in, types_in, names_in, label_text, element_has_form, element_texts_fit, element_form, element_rules, is_new_name, model_faults}
use Rattle.meaning.proofs.CutTrees.{Each}
use Rattle.meaning.proofs.FirstFaults.{nothing_left}
use Rattle.meaning.proofs.NameTexts.{name_is_text}
use Rattle.annotated_model.specs.ModelTexts.{ModelHasTexts}
use Rattle.annotated_model.proofs.TypeLaws.{where_formed_none, requires_none}
use Rattle.annotated_model.proofs.ItemFacts.{left_true, right_true}
use Rattle.annotated_model.proofs.RulesKept.{each_in_list}
use Rattle.annotated_model.proofs.ModelLaws.{NoFaults, no_faults}

-- ---- lists

each_mapped : {X Y : Type 0} (Q : X → Type 0) (P : Y → Type 0) (f : X → Y) → ((x : X) → Q x → P (f x)) → (xs : List X) → AllByRecursion Q xs → Each P (map f xs)
each_mapped Q P f by [] h = tt
each_mapped Q P f by (x ∷ xs) h = (by x h.0, each_mapped Q P f by xs h.1)

each_always : {X Y : Type 0} (P : Y → Type 0) (f : X → Y) → ((x : X) → P (f x)) → (xs : List X) → Each P (map f xs)
each_always P f by [] = tt
each_always P f by (x ∷ xs) = (by x, each_always P f by xs)

-- ---- a value of a table all of whose values pass a test

module _ (k : List ℕ) (test : List ℕ → Bool) (empty : test [] ≡ true) where
  in_members : (ms : Members) → list_all (λ e. test (label_text e.1)) (entries ms) ≡ true → test (unwrap_or (option_and_then as_text (value_of k ms)) []) ≡ true
  in_members no_members a = empty
  in_members (member l d ms) a = go (bytes_eq k l) (in_members ms (right_true (test (label_text d)) _ a))
    where
      go : (b : Bool) → test (unwrap_or (option_and_then as_text (value_of k ms)) []) ≡ true
          → test (unwrap_or (option_and_then as_text (if b then Some d else value_of k ms)) []) ≡ true
      go true e = left_true (test (label_text d)) _ a
      go false e = e

  value_passes : (d : Document) → list_all (λ e. test (label_text e.1)) (each_of entries (as_table d)) ≡ true → test (text_at k d) ≡ true
  value_passes d all = go (as_table d) all
    where
      go : (o : Option Members) → list_all (λ e. test (label_text e.1)) (each_of entries o) ≡ true → test (unwrap_or (option_and_then as_text (option_and_then (value_of k) o)) []) ≡ true
      go None a = empty
      go (Some ms) a = in_members ms a

-- ---- the elements

record ElementHasTexts (d : Document) : Type 0 where
  name : is_name (name_in d) ≡ true
  texts : element_texts_fit d ≡ true

element_read : (c : ModelContext) (i : ℕ) (d : Document) → element_rules c (i, d) ≡ [] → ElementHasTexts d
unfolding element_rules
element_read c i d none =
    let form = (where_formed_none (element_form c (i, d)) _ none).0 in
    let one = requires 2 (element_has_form d) in
    let two = requires 3 (is_name (name_in d)) in
    let three = requires 4 (element_texts_fit d) in
    let four = requires 5 (is_new_name (names_in c (codes "elements")) i (name_in d)) in
    let five = requires 6 (is_within 2048 i) in
    let last = nothing_left (((one ++ two) ++ three) ++ four) five form in
    let fourth = nothing_left ((one ++ two) ++ three) four last.0 in
    let third = nothing_left (one ++ two) three fourth.0 in
    let second = nothing_left one two third.0 in
    record { name = requires_none 3 _ second.1; texts = requires_none 4 _ third.1 }

attribute_is_text : (d : Document) → element_texts_fit d ≡ true → (a : List ℕ) → is_text (text_at a (table_at (codes "attributes") d)) ≡ true
attribute_is_text d e a =
    left_true (is_text (text_at a (table_at (codes "attributes") d))) _
    (value_passes a (text_within 128) refl (table_at (codes "attributes") d) (right_true (member_within 4096 (codes "when") d) _ e))

module _ (features : List (List ℕ)) (model : Document) (none : NoFaults features model) where
  each_element : AllByRecursion ElementHasTexts (list_at (codes "elements") model)
  each_element =
      let c : ModelContext = context_of features model in
      each_in_list c Elements (codes "elements") (element_rules c) ElementHasTexts (element_read c) none.elements

  pub texts_read : ModelHasTexts (model_from features model)
  texts_read = record {
    names = each_mapped ElementHasTexts (λ e. is_text e.name ≡ true) (element_of features (types_in model)) (λ d t. name_is_text (name_in d) t.name) (list_at (codes "elements") model) each_element;
    attributes = each_mapped ElementHasTexts (λ e. Each (λ s. is_text s ≡ true) e.attributes) (element_of features (types_in model))
        (λ d t. each_always (λ s. is_text s ≡ true) _ (attribute_is_text d t.texts) _) (list_at (codes "elements") model) each_element;
  }

-- the same of the model of a bundle
pub model_has_texts : (features : List (List ℕ)) (bundle : Document) → model_faults features bundle ≡ [] → ModelHasTexts (model_of features bundle)
unfolding model_of model_faults
model_has_texts features bundle none = texts_read features (model_in bundle) (no_faults features (model_in bundle) none)
