-- The first name of a list that is none, or stood before.
use Rattle.std.proofs.Common.{◌≡◌, refl, sym, ap, ◌∙◌, ℕ, ◌+◌, ◌<◌, List, [], ◌∷◌, ◌++◌, map, take, drop, get_or, length, arith, append_assoc, length-append}
use Rattle.std.specs.Prelude.{Bool, true, false, not, ◌||◌, if◌then◌else◌, cond, bytes_eq, filter, unwrap_or, Some, None}
use Rattle.std.specs.List.{list_any, enumerate_from}
use Rattle.std.proofs.Math.Seq.{take-append_seam}
use Rattle.std.proofs.lemmas.List.{take_more, map-append}
use Rattle.meaning.specs.Texts.{first_of_list, is_name}
use Rattle.meaning.specs.Documents.{as_text, texts_in}
use Rattle.meaning.specs.CaseReading.{bad_names}
use Rattle.doc_tree.specs.declared.doc.Doc.{Doc}
use Rattle.doc_tree.specs.View.{document, documents}
use Rattle.doc_tree.proofs.Walks.{documents-drop}
use Rattle.lifted_case.specs.ReadFaults.{first_bad_after}

pub any_mapped : {X Y : Type 0} (p : X → Bool) (h : Y → X) (ys : List Y) → list_any p (map h ys) ≡ list_any (λ y. p (h y)) ys
any_mapped p h [] = refl
any_mapped p h (y ∷ ys) = ap (λ b. p (h y) || b) (any_mapped p h ys)

-- in the list of all names, of which some stand before
module _ (all : List (List ℕ)) where
  first_bad_is : (before : List (List ℕ)) (i : ℕ) (ss : List (List ℕ)) → all ≡ before ++ ss → i ≡ length before
      → first_bad_after before i ss ≡ first_of_list (map (λ x. x.0) (filter (λ x. not (is_name x.1) || list_any (bytes_eq x.1) (take x.0 all)) (enumerate_from i ss)))
  first_bad_is before i [] whole at = refl
  first_bad_is before i (s ∷ ss) whole at =
      rw taken (go (not (is_name s) || list_any (bytes_eq s) before)
      (first_bad_is (before ++ s ∷ []) (i + 1) ss (whole ∙ sym (append_assoc before (s ∷ []) ss)) (let l = length-append before (s ∷ []) in omega (arith, l, at))))
    where
      taken : take i all ≡ before
      taken = rw (at, whole) (take-append_seam before (s ∷ ss))

      go : (b : Bool) → first_bad_after (before ++ s ∷ []) (i + 1) ss ≡ first_of_list (map (λ x. x.0) (filter (λ x. not (is_name x.1) || list_any (bytes_eq x.1) (take x.0 all)) (enumerate_from (i + 1) ss)))
          → (if b then Some i else first_bad_after (before ++ s ∷ []) (i + 1) ss)
          ≡ first_of_list (map (λ x. x.0) (cond b ((i, s) ∷ filter (λ x. not (is_name x.1) || list_any (bytes_eq x.1) (take x.0 all)) (enumerate_from (i + 1) ss))
          (filter (λ x. not (is_name x.1) || list_any (bytes_eq x.1) (take x.0 all)) (enumerate_from (i + 1) ss))))
      go true later = refl
      go false later = later

pub first_bad_name_is : (ss : List (List ℕ)) → first_bad_after [] 0 ss ≡ first_of_list (bad_names ss)
first_bad_name_is ss = first_bad_is ss [] 0 ss refl refl

-- a name that is not bad is none of those before it, and the later ones follow it
pub first_bad_step : (before : List (List ℕ)) (i : ℕ) (s : List ℕ) (ss : List (List ℕ)) → first_bad_after before i (s ∷ ss) ≡ None
    → (list_any (bytes_eq s) before ≡ false) × (first_bad_after (before ++ s ∷ []) (i + 1) ss ≡ None)
first_bad_step before i s ss e = go (is_name s) (list_any (bytes_eq s) before) refl e
  where
    go : (named there : Bool) → list_any (bytes_eq s) before ≡ there
        → (if not named || there then Some i else first_bad_after (before ++ s ∷ []) (i + 1) ss) ≡ None
        → (list_any (bytes_eq s) before ≡ false) × (first_bad_after (before ++ s ∷ []) (i + 1) ss ≡ None)
    go true true is e = cc
    go true false is e = (is, e)
    go false there is e = cc

-- ---- the names of a list of documents

abbrev text_in : Doc → List ℕ
text_in x = unwrap_or (as_text (document x)) []

module _ (items : List Doc) (i : ℕ) (x : Doc) (within : i < length items) (at : x ≡ get_or items i x) where
  -- the next name is none of those before it, where none is bad; and those behind it follow it
  pub next_is_new : (names : List (List ℕ)) → first_bad_after names i (texts_in (documents (drop i items))) ≡ None
      → (list_any (bytes_eq (text_in x)) names ≡ false) × (first_bad_after (names ++ text_in x ∷ []) (i + 1) (texts_in (documents (drop (i + 1) items))) ≡ None)
  next_is_new names none =
      first_bad_step names i (text_in x) (texts_in (documents (drop (i + 1) items)))
      (sym (ap (λ ds. first_bad_after names i (texts_in ds)) (documents-drop items i x within at)) ∙ none)

  pub one_name_more : (names : List (List ℕ)) → names ≡ texts_in (documents (take i items)) → names ++ text_in x ∷ [] ≡ texts_in (documents (take (i + 1) items))
  one_name_more names so_far =
      ap (λ ns. ns ++ text_in x ∷ []) so_far
      ∙ sym (ap (λ xs. texts_in (documents xs)) (take_more items i x within) ∙ ap texts_in (map-append document (take i items) (get_or items i x ∷ []))
      ∙ map-append (λ d. unwrap_or (as_text d) []) (documents (take i items)) (document (get_or items i x) ∷ [])
      ∙ ap (λ y. texts_in (documents (take i items)) ++ text_in y ∷ []) (sym at))
