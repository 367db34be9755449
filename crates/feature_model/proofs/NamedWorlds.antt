-- The world that some names make, with one more name.
use Rattle.std.proofs.Common.{◌≡◌, ◌∙◌, refl, sym, ap, ap₂, subst, ℕ, zero, suc, ◌+◌, ◌<◌, List, [], ◌∷◌, ◌++◌, length, replicate, set, take, drop, get_or, Bool, true, false, Option, Some, None, slice_get, slice_index_or, arith}
use Rattle.std.specs.Prelude.{option_map, option_and_then, unwrap_or, if◌then◌else◌, bytes_eq, ◌||◌, ◌&&◌, is_some}
use Rattle.std.specs.List.{list_any, list_all}
use Rattle.std.proofs.lemmas.List.{map-append, take_more, at_drop_more}
use Rattle.std.proofs.lemmas.List.Folds.{list_any-append}
use Rattle.std.proofs.lemmas.Option.{slice_get-map, get_or_from_slice_get}
use Rattle.std.proofs.lemmas.Slice.Eq.{bytes_eq-Decides}
use Rattle.cond_text.specs.Lists.{AreDistinct}
use Rattle.meaning.specs.Texts.{place_of, with_each}
use Rattle.meaning.specs.Documents.{Document, as_text, texts_in}
use Rattle.meaning.specs.BundlePlaces.{is_text_value}
use Rattle.meaning.specs.Configurations.{contains_text, world_of, first_bad, or_world}
use Rattle.meaning.proofs.GrammarLaw.{map_some}
use Rattle.doc_tree.specs.declared.doc.Doc.{Doc}
use Rattle.doc_tree.specs.View.{document, documents}
use Rattle.feature_model.specs.declared.config.ConfigStop.{ConfigStop}
use Rattle.feature_model.specs.declared.config.ConfigStop.TheVariants.{NotList, UnknownFeature, Repeated, NoMemory}
use Rattle.feature_model.specs.Configs.{TellsStop, IsMarked, StopsMark}
use Rattle.feature_model.proofs.Places.{place_is, among_placed, none_placed}

-- ---- the list of texts

pub texts_told : (ds : List Document) → (if list_all is_text_value ds then Some (texts_in ds) else None) ≡ with_each as_text ds
texts_told [] = refl
texts_told (d ∷ ds) = go (as_text d) (list_all is_text_value ds) (texts_told ds)
  where
    go : (o : Option (List ℕ)) (b : Bool) → (if b then Some (texts_in ds) else None) ≡ with_each as_text ds
        → (if (is_some o && b) then Some (unwrap_or o [] ∷ texts_in ds) else None)
        ≡ option_and_then (λ y. option_map (λ ys. y ∷ ys) (with_each as_text ds)) o
    go None b e = refl
    go (Some s) true e = ap (option_map (λ ys. s ∷ ys)) e
    go (Some s) false e = ap (option_map (λ ys. s ∷ ys)) e

-- ---- worlds

or_false : (a : Bool) → (a || false) ≡ a
or_false true = refl
or_false false = refl

or_true : (a : Bool) → (a || true) ≡ true
or_true true = refl
or_true false = refl

one_more : (s t : List ℕ) (before : List (List ℕ)) → contains_text t (before ++ s ∷ []) ≡ (contains_text t before || bytes_eq t s)
one_more s t before = list_any-append (bytes_eq t) before (s ∷ []) ∙ ap (λ b. contains_text t before || b) (or_false (bytes_eq t s))

pub no_names : (features : List (List ℕ)) → replicate (length features) false ≡ world_of features []
no_names [] = refl
no_names (f ∷ fs) = ap (λ w. false ∷ w) (no_names fs)

-- the value at the place of a name
pub value_named : (features before : List (List ℕ)) (s : List ℕ) (k : ℕ) → place_of s features ≡ Some k
    → slice_get (world_of features before) k ≡ Some (contains_text s before)
value_named features before s k e =
    slice_get-map (λ f. contains_text f before) features k ∙ ap (option_map (λ f. contains_text f before)) (place_is features s k e)

value_was : (features before : List (List ℕ)) (s : List ℕ) (k : ℕ) (b : Bool) → place_of s features ≡ Some k
    → slice_index_or (world_of features before) k false ≡ b → contains_text s before ≡ b
value_was features before s k b e was = sym (get_or_from_slice_get (world_of features before) k (contains_text s before) false (value_named features before s k e)) ∙ was

-- where no feature has the name nothing changes
other_names : (features before : List (List ℕ)) (s : List ℕ) → list_any (bytes_eq s) features ≡ false
    → world_of features before ≡ world_of features (before ++ s ∷ [])
other_names [] before s e = refl
other_names (f ∷ fs) before s e = go (bytes_eq s f) refl e (other_names fs before s)
  where
    turned : bytes_eq s f ≡ false → bytes_eq f s ≡ false
    turned e = is_no (bytes_eq f s) refl
      where
        is_no : (b : Bool) → bytes_eq f s ≡ b → b ≡ false
        is_no false h = refl
        is_no true h =
            let same : f ≡ s = (bytes_eq-Decides f s).0 h in
            let yes : bytes_eq s f ≡ true = (bytes_eq-Decides s f).1 (sym same) in absurd cc

    go : (b : Bool) → bytes_eq s f ≡ b → (b || list_any (bytes_eq s) fs) ≡ false
        → (list_any (bytes_eq s) fs ≡ false → world_of fs before ≡ world_of fs (before ++ s ∷ []))
        → world_of (f ∷ fs) before ≡ world_of (f ∷ fs) (before ++ s ∷ [])
    go true is e later = absurd cc
    go false is e later =
        ap₂ (λ v w. v ∷ w)
        (sym (one_more s f before ∙ ap (λ b. contains_text f before || b) (turned is) ∙ or_false (contains_text f before)))
        (later e)

rest_distinct : (f : List ℕ) (fs : List (List ℕ)) → AreDistinct (f ∷ fs) → AreDistinct fs
rest_distinct f fs distinct at name is = go (bytes_eq name f) refl (distinct (suc at) name is)
  where
    go : (b : Bool) → bytes_eq name f ≡ b → (if b then Some 0 else option_map suc (place_of name fs)) ≡ Some (suc at) → place_of name fs ≡ Some at
    go true is e = absurd cc
    go false is e = let r = map_some suc (place_of name fs) (suc at) e in let n : r.0 ≡ at = (let m : suc r.0 ≡ suc at = r.2 in cc) in subst (λ j. place_of name fs ≡ Some j) n r.1

-- the first name stands at no later place
first_once : (f : List ℕ) (fs : List (List ℕ)) → AreDistinct (f ∷ fs) → list_any (bytes_eq f) fs ≡ false
first_once f fs distinct = go (place_of f fs) refl
  where
    itself : bytes_eq f f ≡ true
    itself = (bytes_eq-Decides f f).1 refl

    go : (o : Option ℕ) → place_of f fs ≡ o → list_any (bytes_eq f) fs ≡ false
    go None e = none_placed fs f e
    go (Some k) e =
        let again : place_of f (f ∷ fs) ≡ Some (suc k) = distinct (suc k) f (place_is fs f k e) in
        let first : place_of f (f ∷ fs) ≡ Some 0 = rw itself refl in absurd cc

-- one more name of a feature makes its value true
pub name_marked : (features before : List (List ℕ)) (s : List ℕ) (k : ℕ) → AreDistinct features → place_of s features ≡ Some k
    → set (world_of features before) k true ≡ world_of features (before ++ s ∷ [])
name_marked [] before s k distinct e = absurd cc
name_marked (f ∷ fs) before s k distinct e = go (bytes_eq s f) refl k e (λ j. name_marked fs before s j (rest_distinct f fs distinct))
  where
    go : (b : Bool) → bytes_eq s f ≡ b → (k : ℕ) → (if b then Some 0 else option_map suc (place_of s fs)) ≡ Some k
        → ((j : ℕ) → place_of s fs ≡ Some j → set (world_of fs before) j true ≡ world_of fs (before ++ s ∷ []))
        → set (world_of (f ∷ fs) before) k true ≡ world_of (f ∷ fs) (before ++ s ∷ [])
    go true is zero e later =
        let same : s ≡ f = (bytes_eq-Decides s f).0 is in
        let yes : bytes_eq f s ≡ true = (bytes_eq-Decides f s).1 (sym same) in
        ap₂ (λ v w. v ∷ w)
        (sym (one_more s f before ∙ ap (λ b. contains_text f before || b) yes ∙ or_true (contains_text f before)))
        (other_names fs before s (subst (λ t. list_any (bytes_eq t) fs ≡ false) (sym same) (first_once f fs distinct)))
    go true is (suc k) e later = absurd cc
    go false is zero e later = let r = map_some suc (place_of s fs) 0 e in absurd (let n : suc r.0 ≡ zero = r.2 in cc)
    go false is (suc k) e later =
        let r = map_some suc (place_of s fs) (suc k) e in
        let n : r.0 ≡ k = (let m : suc r.0 ≡ suc k = r.2 in cc) in
        let differs : bytes_eq f s ≡ false = is_no (bytes_eq f s) refl in
        ap₂ (λ v w. v ∷ w)
        (sym (one_more s f before ∙ ap (λ b. contains_text f before || b) differs ∙ or_false (contains_text f before)))
        (later k (subst (λ j. place_of s fs ≡ Some j) n r.1))
      where
        is_no : (b : Bool) → bytes_eq f s ≡ b → b ≡ false
        is_no false h = refl
        is_no true h =
            let same : f ≡ s = (bytes_eq-Decides f s).0 h in
            let yes : bytes_eq s f ≡ true = (bytes_eq-Decides s f).1 (sym same) in absurd cc

-- ---- one name further

-- a name that was not there goes on
pub next_marked : (features before ss : List (List ℕ)) (s : List ℕ) (at : ℕ) (after : List Bool) → AreDistinct features
    → IsMarked features (world_of features before) s after
    → (after ≡ world_of features (before ++ s ∷ [])) × (first_bad features before at (s ∷ ss) ≡ first_bad features (before ++ s ∷ []) (suc at) ss)
next_marked features before ss s at after distinct m =
    let was : contains_text s before ≡ false = value_was features before s m.no false m.place m.was in
    (m.becomes ∙ name_marked features before s m.no distinct m.place, rw (among_placed features s m.no m.place, was) refl)

-- a name that is unknown or was there stops
pub next_stops : (features named before ss : List (List ℕ)) (s : List ℕ) (at : ℕ) (stop : ConfigStop)
    → StopsMark features (world_of features before) s at stop → TellsStop stop (or_world features named (first_bad features before at (s ∷ ss)))
next_stops features named before ss s at NotList m = absurd m
next_stops features named before ss s at (UnknownFeature told) m = rw (none_placed features s m.1, m.0) refl
next_stops features named before ss s at (Repeated told) m =
    let was : contains_text s before ≡ true = value_was features before s m.1.no true m.1.place m.1.was in
    rw (among_placed features s m.1.no m.1.place, was, m.0) refl
next_stops features named before ss s at NoMemory m = tt

-- ---- one item of a list further

module _ (features : List (List ℕ)) (items : List Doc) (i : ℕ) (item : Doc) (below : i < length items) (is : item ≡ get_or items i item) where
  s : List ℕ
  s = unwrap_or (as_text (document item)) []

  left : texts_in (documents (drop i items)) ≡ s ∷ texts_in (documents (drop (i + 1) items))
  unfolding s
  left = at_drop_more (λ ds. texts_in (documents ds)) items i item below ∙ ap (λ d. unwrap_or (as_text (document d)) [] ∷ texts_in (documents (drop (i + 1) items))) (sym is)

  passed : texts_in (documents (take (i + 1) items)) ≡ texts_in (documents (take i items)) ++ s ∷ []
  unfolding s
  passed =
      ap (λ ds. texts_in (documents ds)) (take_more items i item below ∙ ap (λ d. take i items ++ d ∷ []) (sym is))
      ∙ ap texts_in (map-append document (take i items) (item ∷ []))
      ∙ map-append (λ d. unwrap_or (as_text d) []) (documents (take i items)) (document item ∷ [])

  pub item_marked : (world after : List Bool) → AreDistinct features → world ≡ world_of features (texts_in (documents (take i items)))
      → IsMarked features world (unwrap_or (as_text (document item)) []) after
      → (after ≡ world_of features (texts_in (documents (take (i + 1) items))))
      × (first_bad features (texts_in (documents (take i items))) i (texts_in (documents (drop i items)))
      ≡ first_bad features (texts_in (documents (take (i + 1) items))) (i + 1) (texts_in (documents (drop (i + 1) items))))
  unfolding s
  item_marked world after distinct e m =
      let r = next_marked features (texts_in (documents (take i items))) (texts_in (documents (drop (i + 1) items))) s i after distinct (subst (λ w. IsMarked features w s after) e m) in (
        r.0 ∙ ap (world_of features) (sym passed),
        ap (first_bad features (texts_in (documents (take i items))) i) left ∙ (r.1
            ∙ ap₂ (λ before at. first_bad features before at (texts_in (documents (drop (i + 1) items)))) (sym passed) (let f : suc i ≡ i + 1 = omega arith in f)),
      )

  pub item_stops : (world : List Bool) (stop : ConfigStop) → world ≡ world_of features (texts_in (documents (take i items)))
      → StopsMark features world (unwrap_or (as_text (document item)) []) i stop
      → TellsStop stop (or_world features (texts_in (documents items)) (first_bad features (texts_in (documents (take i items))) i (texts_in (documents (drop i items)))))
  unfolding s
  item_stops world stop e m =
      subst (λ ss. TellsStop stop (or_world features (texts_in (documents items)) (first_bad features (texts_in (documents (take i items))) i ss))) (sym left)
      (next_stops features (texts_in (documents items)) (texts_in (documents (take i items))) (texts_in (documents (drop (i + 1) items))) s i stop
      (subst (λ w. StopsMark features w s i stop) e m))
