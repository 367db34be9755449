-- In every product of a model with texts the names, the attributes and the parts of nodes are texts.
use Rattle.std.proofs.Common.{◌≡◌, ℕ, zero, suc, ◌+◌, List, [], ◌∷◌, map, Bool, true, false, Option, Some, None, refl, subst}
use Rattle.std.specs.Prelude.{cond, filter, option_map, option_and_then, unwrap_or, find, ◌==◌}
use Rattle.std.specs.List.{list_all, slice_get, enumerate_from}
use Rattle.meaning.specs.Texts.{is_text, numbered}
use Rattle.meaning.specs.Expressions.{truth}
use Rattle.meaning.specs.Models.{Model, Element, model_at, element_at, element_name, attribute_at}
use Rattle.meaning.specs.Queries.{element_of_variable}
use Rattle.meaning.specs.CaseReading.{part_is_text}
use Rattle.meaning.specs.Templates.{TextPart, Words, NameOf, AttributeOf, Count, left_open}
use Rattle.meaning.proofs.EmptyLists.{all_true}
use Rattle.meaning.proofs.CutTrees.{Each}
use Rattle.meaning.proofs.EachMembers.{each_filtered}
use Rattle.lifting.specs.FittingTemplates.{IsTextPart}
use Rattle.annotated_model.specs.ModelTexts.{ModelHasTexts}
use Rattle.meaning.proofs.EqualityTests.{none_is_some, some_is}

module _ (P : Element → Type 0) where
  found_has : (xs : List (ℕ × Element)) → Each (λ e. P e.1) xs → (i : ℕ) (x : Element) → option_map (λ p. p.1) (find (λ p. p.0 == i) xs) ≡ Some x → P x
  found_has [] h i x e = elim (none_is_some x e) [ ]
  found_has (y ∷ xs) h i x e = go (y.0 == i) e (found_has xs h.1 i x)
    where
      go : (b : Bool) → option_map (λ p. p.1) (cond b (Some y) (find (λ p. p.0 == i) xs)) ≡ Some x → (option_map (λ p. p.1) (find (λ p. p.0 == i) xs) ≡ Some x → P x) → P x
      go true f later = subst P (some_is y.1 x f) h.0
      go false f later = later f

  with_numbers : (k : ℕ) (xs : List Element) → Each P xs → Each (λ e. P e.1) (enumerate_from k xs)
  with_numbers k [] h = tt
  with_numbers k (x ∷ xs) h = (h.0, with_numbers (k + 1) xs h.1)

  -- what holds of all elements holds of those of a product
  pub product_has : (m : Model) (w : List Bool) → Each P m.elements → (i : ℕ) (x : Element) → element_at (model_at m w) i ≡ Some x → P x
  unfolding model_at
  product_has m w h i x e =
      found_has (filter (λ e. truth e.1.presence w) (numbered m.elements))
      (each_filtered (λ e. P e.1) (λ e. truth e.1.presence w) (numbered m.elements) (with_numbers 0 m.elements h)) i x e

text_at : (xs : List (List ℕ)) → Each (λ s. is_text s ≡ true) xs → (i : ℕ) → is_text (unwrap_or (slice_get xs i) []) ≡ true
text_at [] h i = refl
text_at (s ∷ xs) h zero = h.0
text_at (s ∷ xs) h (suc i) = text_at xs h.1 i

module _ (m : Model) (texts : ModelHasTexts m) (w : List Bool) where
  name_is_text : (i : ℕ) → is_text (element_name (model_at m w) i) ≡ true
  name_is_text i = go (element_at (model_at m w) i) (product_has (λ e. is_text e.name ≡ true) m w texts.names i)
    where
      go : (o : Option Element) → ((x : Element) → o ≡ Some x → is_text x.name ≡ true) → is_text (unwrap_or (option_map (λ x. x.name) o) []) ≡ true
      go None h = refl
      go (Some x) h = h x refl

  attribute_is_text : (i a : ℕ) → is_text (attribute_at (model_at m w) i a) ≡ true
  attribute_is_text i a = go (element_at (model_at m w) i) (product_has (λ e. Each (λ s. is_text s ≡ true) e.attributes) m w texts.attributes i)
    where
      go : (o : Option Element) → ((x : Element) → o ≡ Some x → Each (λ s. is_text s ≡ true) x.attributes)
          → is_text (unwrap_or (option_and_then (λ x. slice_get x.attributes a) o) []) ≡ true
      go None h = refl
      go (Some x) h = text_at x.attributes (h x refl) a

  part_fits : (bound : List ℕ) (p : TextPart) → IsTextPart p → part_is_text (left_open (model_at m w) bound p) ≡ true
  part_fits bound (Words s) h = h
  part_fits bound (NameOf v) h = name_is_text (element_of_variable bound v)
  part_fits bound (AttributeOf v a) h = attribute_is_text (element_of_variable bound v) a
  part_fits bound Count h = refl

  -- the parts of a node's text, with its names filled in
  pub parts_are_texts : (bound : List ℕ) (ps : List TextPart) → Each IsTextPart ps → list_all part_is_text (map (left_open (model_at m w) bound) ps) ≡ true
  parts_are_texts bound [] h = refl
  parts_are_texts bound (p ∷ ps) h = all_true _ _ (part_fits bound p h.0) (parts_are_texts bound ps h.1)
