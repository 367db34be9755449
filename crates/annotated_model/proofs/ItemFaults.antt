-- The first fault of the items of a list, where it is met.
use Rattle.std.proofs.Common.{◌≡◌, ◌∙◌, sym, ap, subst, ℕ, ◌+◌, ◌<◌, List, [], ◌∷◌, ◌++◌, length, get_or, drop}
use Rattle.std.specs.Prelude.{Result, Ok, Err, IfErr, IsErrAnd}
use Rattle.std.specs.List.{enumerate_from}
use Rattle.std.proofs.lemmas.List.{drop_more}
use Rattle.meaning.specs.Texts.{flat}
use Rattle.meaning.specs.Documents.{Document, list_at}
use Rattle.meaning.specs.BundlePlaces.{BundleFault, Part, faults_at, requires, may_have, is_list_value}
use Rattle.doc_tree.specs.declared.doc.Doc.{Doc}
use Rattle.doc_tree.specs.View.{document, documents}
use Rattle.annotated_model.specs.declared.fault.ModelStop.{ModelStop}
use Rattle.annotated_model.specs.Faults.{IsFirst}
use Rattle.annotated_model.proofs.Firsts.{first_in_front}

-- what holds of a stop holds of the result that gives it
pub at_error : {X : Type 0} (result : Result X ModelStop) (stop : ModelStop) (P : ModelStop → Type 0) → P stop → IsErrAnd result (λ s. s ≡ stop) → IfErr result P
at_error (Ok x) stop P holds is = tt
at_error (Err s) stop P holds is = subst P (sym is) holds

-- the first fault of an item is that of the list, where the items before it have none
pub first_at_item : (faults : ℕ × Document → List BundleFault) (items : List Doc) (k : ℕ) (d : Doc) (stop : ModelStop) → k < length items → d ≡ get_or items k d
    → flat faults (enumerate_from k (documents (drop k items))) ≡ flat faults (enumerate_from 0 (documents items))
    → IsFirst (faults (k, document d)) stop → IsFirst (flat faults (enumerate_from 0 (documents items))) stop
first_at_item faults items k d stop inside is before first =
    let rest = flat faults (enumerate_from (k + 1) (documents (drop (k + 1) items))) in
    let here : flat faults (enumerate_from k (documents (drop k items))) ≡ faults (k, document d) ++ rest =
    ap (λ ds. flat faults (enumerate_from k (documents ds))) (drop_more items k d inside ∙ ap (λ x. x ∷ drop (k + 1) items) (sym is)) in
    subst (λ fs. IsFirst fs stop) (sym here ∙ before) (first_in_front (faults (k, document d)) rest stop first)

-- ---- a list that is a member of a table

module _ (part : Part) (k : List ℕ) (d : Document) (faults : List Document → List BundleFault) (all : List BundleFault) (items : List Document)
    (are : all ≡ faults_at part 0 0 (requires 2 (may_have is_list_value k d)) ++ faults (list_at k d)) (is : items ≡ list_at k d) (list : requires 2 (may_have is_list_value k d) ≡ []) where
  those_of_items : all ≡ faults items
  those_of_items = are ∙ (ap (λ bs. faults_at part 0 0 bs ++ faults (list_at k d)) list ∙ ap faults (sym is))

  pub none_in_list : faults items ≡ [] → all ≡ []
  none_in_list none = those_of_items ∙ none

  pub first_in_list : (stop : ModelStop) → IsFirst (faults items) stop → IsFirst all stop
  first_in_list stop first = subst (λ fs. IsFirst fs stop) (sym those_of_items) first

-- ---- any fold over the items

-- the first fault of an item is that of all, where the faults of what is left are those of all and begin with the item's
pub first_of_left : (fold : List Document → List BundleFault) (items : List Doc) (k : ℕ) (d : Doc) (here all : List BundleFault) (after : List Document → List BundleFault) (stop : ModelStop)
    → k < length items → d ≡ get_or items k d → fold (documents (drop k items)) ≡ all → ((ds : List Document) → fold (document d ∷ ds) ≡ here ++ after ds)
    → IsFirst here stop → IsFirst all stop
first_of_left fold items k d here all after stop inside is before begins first =
    let left = documents (drop (k + 1) items) in
    let front : fold (documents (drop k items)) ≡ here ++ after left =
    ap (λ ds. fold (documents ds)) (drop_more items k d inside ∙ ap (λ x. x ∷ drop (k + 1) items) (sym is)) ∙ begins left in
    subst (λ fs. IsFirst fs stop) (sym front ∙ before) (first_in_front here (after left) stop first)
