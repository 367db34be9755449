-- What a feature without a broken rule has, and the features that are read so far.
use Rattle.std.proofs.Common.{◌≡◌, ◌≢◌, ◌∙◌, refl, sym, ap, ℕ, ◌+◌, ◌<◌, ◌≤◌, List, [], ◌∷◌, ◌++◌, length, map, take, drop, get_or, Bool, true, false, Option, Some, None, arith}
use Rattle.std.specs.Prelude.{option_and_then, unwrap_or, is_some, not, ◌&&◌, ◌==◌, if◌then◌else◌, codes}
use Rattle.std.proofs.lemmas.List.{take-map, map-append, take_more, take-append-drop, length-take, length-map}
use Rattle.std.proofs.lemmas.Bool.Decides.{nat_tests}
use Rattle.meaning.specs.Texts.{place_of, is_name}
use Rattle.meaning.specs.Documents.{Document, as_text, member_of, text_at}
use Rattle.meaning.specs.Features.{Feature, feature_of, group_of, text_member}
use Rattle.meaning.specs.BundlePlaces.{Broken, requires, where_formed, is_among, name_in}
use Rattle.meaning.specs.LineRules.{is_within, feature_has_form}
use Rattle.meaning.proofs.FirstFaults.{nothing_left}
use Rattle.feature_model.specs.Reading.{form_at, has_its_parent, has_its_kind, rules_at}
use Rattle.feature_model.proofs.Places.{among_is, place_stays}

pub formed : (form others : List Broken) → where_formed form others ≡ [] → (form ≡ []) × (others ≡ [])
formed [] others e = (refl, e)
formed (f ∷ fs) others e = absurd cc

pub kept : (rule : ℕ) (b : Bool) → requires rule b ≡ [] → b ≡ true
kept rule true e = refl
kept rule false e = absurd cc

-- a feature breaks no rule
pub record Passes (before : List (List ℕ)) (i : ℕ) (d : Document) : Type 0 where
  pub new : place_of (name_in d) before ≡ None
  pub within : i ≢ 256
  pub parent : has_its_parent before i d ≡ true

pub passes : (before : List (List ℕ)) (i : ℕ) (d : Document) → rules_at before i d ≡ [] → Passes before i d
passes before i d e =
    let all = formed (form_at before i d) (requires 8 (has_its_parent before i d) ++ requires 9 (has_its_kind i d)) e in
    let fourth = nothing_left (requires 2 (feature_has_form d) ++ requires 3 (is_name (name_in d)) ++ requires 5 (not (is_among before (name_in d)))) (requires 6 (is_within 256 i)) all.0 in
    let third = nothing_left (requires 2 (feature_has_form d) ++ requires 3 (is_name (name_in d))) (requires 5 (not (is_among before (name_in d)))) fourth.0 in
    let first = nothing_left (requires 8 (has_its_parent before i d)) (requires 9 (has_its_kind i d)) all.1 in
    record {
      new = not_placed (place_of (name_in d) before) (ap not (sym (among_is before (name_in d))) ∙ kept 5 (not (is_among before (name_in d))) third.1);
      within = let w : not (i == 256) ≡ true = kept 6 (is_within 256 i) fourth.1 in grind (arith, nat_tests);
      parent = kept 8 (has_its_parent before i d) first.0;
    }
  where
    not_placed : (o : Option ℕ) → not (is_some o) ≡ true → o ≡ None
    not_placed None e = refl
    not_placed (Some k) e = absurd (let n : false ≡ true = e in cc)

-- the parent is found among the names before as among all
module _ (before more : List (List ℕ)) (i : ℕ) (d : Document) (parent : has_its_parent before i d ≡ true) where
  found : (o : Option Document) → (if i == 0 then not (is_some o) else (is_some o && is_among before (unwrap_or (option_and_then as_text o) []))) ≡ true
      → option_and_then (λ p. place_of p before) (option_and_then as_text o) ≡ option_and_then (λ p. place_of p (before ++ more)) (option_and_then as_text o)
  found None e = refl
  found (Some x) e = text (as_text x) (i == 0) e
    where
      text : (t : Option (List ℕ)) (b : Bool) → (if b then false else (true && is_among before (unwrap_or t []))) ≡ true
          → option_and_then (λ p. place_of p before) t ≡ option_and_then (λ p. place_of p (before ++ more)) t
      text None b e = refl
      text (Some p) true e = absurd cc
      text (Some p) false e = go (place_of p before) refl (sym (among_is before p) ∙ e)
        where
          go : (o : Option ℕ) → place_of p before ≡ o → is_some (place_of p before) ≡ true → place_of p before ≡ place_of p (before ++ more)
          go None is e = absurd (let n : false ≡ true = sym (ap is_some is) ∙ e in cc)
          go (Some k) is e = is ∙ sym (place_stays before more p k is)

  pub same_feature : feature_of before d ≡ feature_of (before ++ more) d
  same_feature =
      let with_parent : Option ℕ → Feature = λ p. record { name = text_at (codes "name") d; parent = p; group = group_of (text_member (codes "kind") d) } in
      ap with_parent (found (member_of (codes "parent") d) parent)

-- ---- a list of features, read as far as an item

pub names_of_features : (all : List (List ℕ)) (ds : List Document) → map (λ f. f.name) (map (feature_of all) ds) ≡ map name_in ds
names_of_features all [] = refl
names_of_features all (d ∷ ds) = ap (λ xs. name_in d ∷ xs) (names_of_features all ds)

module _ (items : List Document) (i : ℕ) where
  pub names_so_far : (fs : List Feature) → fs ≡ map (feature_of (map name_in items)) (take i items) → map (λ f. f.name) fs ≡ take i (map name_in items)
  names_so_far fs e =
      ap (map (λ (f : Feature). f.name)) e ∙ (names_of_features (map name_in items) (take i items) ∙ sym (take-map name_in i items))

  pub count_so_far : (fs : List Feature) → fs ≡ map (feature_of (map name_in items)) (take i items) → i ≤ length items → length fs ≡ i
  count_so_far fs e h = ap length e ∙ (length-map (take i items) (feature_of (map name_in items)) ∙ (let l = length-take i items in omega (arith, l)))

  -- the feature that is read is the one of the definitions
  pub feature_read : (names : List (List ℕ)) (d : Document) (f : Feature) → names ≡ take i (map name_in items) → rules_at names i d ≡ [] → f ≡ feature_of names d
      → f ≡ feature_of (map name_in items) d
  feature_read names d f e none is =
      is ∙ (same_feature names (drop i (map name_in items)) i d (passes names i d none).parent
      ∙ ap (λ all. feature_of all d) (ap (λ ns. ns ++ drop i (map name_in items)) e ∙ take-append-drop i (map name_in items)))

  pub features_next : (fs : List Feature) (d : Document) (f : Feature) → i < length items → d ≡ get_or items i d
      → fs ≡ map (feature_of (map name_in items)) (take i items) → f ≡ feature_of (map name_in items) d
      → fs ++ f ∷ [] ≡ map (feature_of (map name_in items)) (take (i + 1) items)
  features_next fs d f inside is e here =
      ap (λ xs. xs ++ f ∷ []) e ∙ (ap (λ x. map (feature_of (map name_in items)) (take i items) ++ x ∷ []) here
      ∙ (sym (map-append (feature_of (map name_in items)) (take i items) (d ∷ []))
      ∙ ap (map (feature_of (map name_in items))) (sym (take_more items i d inside ∙ ap (λ x. take i items ++ x ∷ []) (sym is)))))
