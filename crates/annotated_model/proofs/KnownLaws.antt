-- What the later parts know follows from the types, link kinds, labels and elements that were read without a fault.
use Rattle.std.proofs.Common.{◌≡◌, refl, sym, ap, ◌∙◌, subst, ℕ, zero, suc, ◌+◌, ◌<◌, List, [], ◌∷◌, ◌++◌, length, map, Option, Some, None, arith}
use Rattle.std.specs.Prelude.{codes, option_and_then, is_some}
use Rattle.std.specs.Bool.{⊤}
use Rattle.std.specs.List.{AllByRecursion}
use Rattle.std.proofs.lemmas.List.{length-append}
use Rattle.meaning.specs.Texts.{place_of}
use Rattle.meaning.specs.Documents.{Document}
use Rattle.meaning.specs.Models as meaning
use Rattle.meaning.specs.BundlePlaces.{Kinds, Elements, name_in, text_of_member}
use Rattle.meaning.proofs.NameTexts.{place_among}
use Rattle.meaning.proofs.NamePlaces.{some_place}
use Rattle.annotated_model.specs.Items.{named_type, kind_broken, kinds_broken, element_broken, elements_broken, element_told, types_told}
use Rattle.annotated_model.specs.Known.{ParentsAreEarlier}
use Rattle.annotated_model.proofs.ItemFacts.{IsNamed, KindEnds, kind_ends, element_type, each_item, map_same, weaker, all_mapped}

pub map_twice : {X Y Z : Type 0} (f : Y → Z) (g : X → Y) (xs : List X) → map f (map g xs) ≡ map (λ x. f (g x)) xs
map_twice f g [] = refl
map_twice f g (x ∷ xs) = ap (λ ys. f (g x) ∷ ys) (map_twice f g xs)

-- ---- parents are earlier

-- the parents of types from a number on are earlier
EarlierFrom : ℕ → List meaning.TypeDef → Type 0
EarlierFrom i [] = ⊤
EarlierFrom i (t ∷ ts) = ((p : ℕ) → t.parent ≡ Some p → p < i) × EarlierFrom (i + 1) ts

earlier_at : (i : ℕ) (ts : List meaning.TypeDef) → EarlierFrom i ts → (t p : ℕ) → meaning.parent_of ts t ≡ Some p → p < i + t
unfolding EarlierFrom
earlier_at i [] h t p e = absurd cc
earlier_at i (x ∷ xs) h zero p e = let less = h.0 p e in omega arith
earlier_at i (x ∷ xs) h (suc t) p e = let less = earlier_at (i + 1) xs h.1 t p e in omega arith

earlier_pushed : (i : ℕ) (ts : List meaning.TypeDef) (t : meaning.TypeDef) → EarlierFrom i ts → ((p : ℕ) → t.parent ≡ Some p → p < i + length ts) → EarlierFrom i (ts ++ t ∷ [])
unfolding EarlierFrom
earlier_pushed i [] t h last = ((λ p e. let less = last p e in omega arith), tt)
earlier_pushed i (x ∷ xs) t h last = (h.0, earlier_pushed (i + 1) xs t h.1 (λ p e. let less = last p e in omega arith))

within_names : (s : List ℕ) (names : List (List ℕ)) (p : ℕ) → place_of s names ≡ Some p → p < length names
within_names s names p e =
    let r = place_among names s (sym (some_place names s) ∙ ap is_some e) in
    let same : r.0 ≡ p = let both = sym r.1 ∙ e in cc in
    subst (λ n. n < length names) same r.2

parent_within : (names : List (List ℕ)) (d : Document) (p : ℕ) → named_type names (codes "parent") d ≡ Some p → p < length names
parent_within names d p e = go (text_of_member (codes "parent") d) e
  where
    go : (o : Option (List ℕ)) → option_and_then (λ s. place_of s names) o ≡ Some p → p < length names
    go None e = absurd cc
    go (Some s) e = within_names s names p e

earlier_told : (names : List (List ℕ)) (before : List meaning.TypeDef) (ds : List Document) → length names ≡ length before → EarlierFrom 0 before
    → EarlierFrom 0 (types_told names before ds)
earlier_told names before [] same h = h
earlier_told names before (d ∷ ds) same h =
    earlier_told (names ++ name_in d ∷ []) (before ++ meaning.type_of names before d ∷ []) ds
    (omega (arith, length-append names (name_in d ∷ []), length-append before (meaning.type_of names before d ∷ []), same))
    (earlier_pushed 0 before (meaning.type_of names before d) h (λ p e. let less = parent_within names d p e in omega arith))

pub parents_told : (ds : List Document) → ParentsAreEarlier (types_told [] [] ds)
unfolding EarlierFrom
parents_told ds t p e = let less = earlier_at 0 (types_told [] [] ds) (earlier_told [] [] ds refl tt) t p e in omega arith

-- ---- the types that kinds and elements name

module _ (types : List (List ℕ)) (ds : List Document) (none : kinds_broken types ds ≡ []) where
  kinds_named : AllByRecursion (KindEnds types) ds
  kinds_named = each_item Kinds name_in (kind_broken types) (KindEnds types) (kind_ends types) [] 0 ds none

  pub sources_named : map (named_type types (codes "from")) ds ≡ map (λ k. Some k.source) (map (meaning.kind_of types) ds)
  sources_named =
      map_same (named_type types (codes "from")) (λ d. Some (meaning.kind_of types d).source) ds (weaker _ _ (λ d e. e.source.named) ds kinds_named)
      ∙ sym (map_twice (λ k. Some k.source) (meaning.kind_of types) ds)

  pub targets_named : map (named_type types (codes "to")) ds ≡ map (λ k. Some k.target) (map (meaning.kind_of types) ds)
  targets_named =
      map_same (named_type types (codes "to")) (λ d. Some (meaning.kind_of types d).target) ds (weaker _ _ (λ d e. e.target.named) ds kinds_named)
      ∙ sym (map_twice (λ k. Some k.target) (meaning.kind_of types) ds)

  pub sources_within : AllByRecursion (λ k. k.source < length types) (map (meaning.kind_of types) ds)
  sources_within = all_mapped (λ k. k.source < length types) (meaning.kind_of types) ds (weaker _ _ (λ d e. e.source.within) ds kinds_named)

  pub targets_within : AllByRecursion (λ k. k.target < length types) (map (meaning.kind_of types) ds)
  targets_within = all_mapped (λ k. k.target < length types) (meaning.kind_of types) ds (weaker _ _ (λ d e. e.target.within) ds kinds_named)

module _ (features names : List (List ℕ)) (types : List meaning.TypeDef) (ds : List Document) (none : elements_broken features names types ds ≡ []) where
  elements_named : AllByRecursion (IsNamed names (codes "type")) ds
  elements_named =
      each_item Elements name_in (element_broken features names types) (IsNamed names (codes "type")) (element_type features names types) [] 0 ds none

  pub types_named : map (named_type names (codes "type")) ds ≡ map (λ e. Some e.of_type) (map (element_told features names types) ds)
  types_named =
      map_same (named_type names (codes "type")) (λ d. Some (element_told features names types d).of_type) ds (weaker _ _ (λ d e. e.named) ds elements_named)
      ∙ sym (map_twice (λ e. Some e.of_type) (element_told features names types) ds)

  pub types_within : AllByRecursion (λ e. e.of_type < length names) (map (element_told features names types) ds)
  types_within = all_mapped (λ e. e.of_type < length names) (element_told features names types) ds (weaker _ _ (λ d e. e.within) ds elements_named)
