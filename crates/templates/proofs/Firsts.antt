-- The first of the faults of a list, of two lists, of the rules at a place, and of the items of a list.
use Rattle.std.proofs.Common.{◌≡◌, refl, sym, ap, ◌∙◌, subst, ℕ, ◌+◌, ◌<◌, List, [], ◌∷◌, ◌++◌, length, get_or, drop, Bool, true, false, Some}
use Rattle.std.specs.Prelude.{Result, Ok, Err, IfErr, IsErrAnd}
use Rattle.std.proofs.lemmas.List.{drop_more}
use Rattle.meaning.specs.Texts.{first_of_list}
use Rattle.meaning.specs.Documents.{Document}
use Rattle.meaning.specs.BundlePlaces.{Part, BundleFault, Broken, where_formed, faults_at, or_else}
use Rattle.meaning.proofs.FirstFaults.{first_of_append}
use Rattle.doc_tree.specs.Places.{fault_of}
use Rattle.doc_tree.specs.declared.doc.Doc.{Doc}
use Rattle.doc_tree.specs.View.{document, documents}
use Rattle.annotated_model.proofs.Firsts.{faults_append}
use Rattle.templates.specs.declared.fault.TemplateStop.{TemplateStop}
use Rattle.templates.specs.declared.fault.TemplateStop.TheVariants.{Fault, NoMemory}
use Rattle.templates.specs.Faults.{IsFirst}

-- what holds of a stop holds of the result that gives it
pub at_error : {X : Type 0} (result : Result X TemplateStop) (stop : TemplateStop) (P : TemplateStop → Type 0) → P stop → IsErrAnd result (λ s. s ≡ stop) → IfErr result P
at_error (Ok x) stop P holds is = tt
at_error (Err s) stop P holds is = subst P (sym is) holds

-- the first of two lists is that of the first one, or of the second one where the first one is empty
pub first_in_front : (xs ys : List BundleFault) (stop : TemplateStop) → IsFirst xs stop → IsFirst (xs ++ ys) stop
first_in_front xs ys (Fault f) e = first_of_append xs ys ∙ ap (λ o. or_else o (first_of_list ys)) e
first_in_front xs ys NoMemory e = e

pub first_behind : (xs ys : List BundleFault) (stop : TemplateStop) → xs ≡ [] → IsFirst ys stop → IsFirst (xs ++ ys) stop
first_behind xs ys stop none first = subst (λ zs. IsFirst (zs ++ ys) stop) (sym none) first

-- the same faults
pub same_faults : (xs ys : List BundleFault) (stop : TemplateStop) → xs ≡ ys → IsFirst xs stop → IsFirst ys stop
same_faults xs ys stop same first = subst (λ zs. IsFirst zs stop) same first

-- ---- at a place

-- a rule that is broken in front of others
pub broken_in_front : (part : Part) (item sub : ℕ) (xs ys : List Broken) (stop : TemplateStop)
    → IsFirst (faults_at part item sub xs) stop → IsFirst (faults_at part item sub (xs ++ ys)) stop
broken_in_front part item sub xs ys stop first =
    subst (λ fs. IsFirst fs stop) (sym (faults_append part item sub xs ys))
    (first_in_front (faults_at part item sub xs) (faults_at part item sub ys) stop first)

pub broken_behind : (part : Part) (item sub : ℕ) (xs ys : List Broken) (stop : TemplateStop)
    → xs ≡ [] → IsFirst (faults_at part item sub ys) stop → IsFirst (faults_at part item sub (xs ++ ys)) stop
broken_behind part item sub xs ys stop none first = subst (λ zs. IsFirst (faults_at part item sub (zs ++ ys)) stop) (sym none) first

-- a broken rule of form comes before the other rules, and without one these count
pub broken_form : (part : Part) (item sub : ℕ) (form others : List Broken) (stop : TemplateStop)
    → IsFirst (faults_at part item sub form) stop → IsFirst (faults_at part item sub (where_formed form others)) stop
broken_form part item sub [] others (Fault f) first = absurd cc
broken_form part item sub [] others NoMemory first = first
broken_form part item sub (x ∷ xs) others stop first = first

pub broken_others : (part : Part) (item sub : ℕ) (form others : List Broken) (stop : TemplateStop)
    → form ≡ [] → IsFirst (faults_at part item sub others) stop → IsFirst (faults_at part item sub (where_formed form others)) stop
broken_others part item sub form others stop none first =
    subst (λ zs. IsFirst (faults_at part item sub (where_formed zs others)) stop) (sym none) first

-- ---- any fold over the items

-- the first fault of an item is that of all, where the faults of what is left are those of all and begin with the item's
pub first_of_left : (fold : List Document → List BundleFault) (items : List Doc) (k : ℕ) (d : Doc) (here all : List BundleFault) (after : List Document → List BundleFault) (stop : TemplateStop)
    → k < length items → d ≡ get_or items k d → fold (documents (drop k items)) ≡ all → ((ds : List Document) → fold (document d ∷ ds) ≡ here ++ after ds)
    → IsFirst here stop → IsFirst all stop
first_of_left fold items k d here all after stop inside is before begins first =
    let left = documents (drop (k + 1) items) in
    let front : fold (documents (drop k items)) ≡ here ++ after left =
    ap (λ ds. fold (documents ds)) (drop_more items k d inside ∙ ap (λ x. x ∷ drop (k + 1) items) (sym is)) ∙ begins left in
    subst (λ fs. IsFirst fs stop) (sym front ∙ before) (first_in_front here (after left) stop first)

-- and where the item has none, the faults of what is left behind it are those of all
pub left_behind : (fold : List Document → List BundleFault) (items : List Doc) (k : ℕ) (d : Doc) (here all : List BundleFault) (after : List Document → List BundleFault)
    → k < length items → d ≡ get_or items k d → fold (documents (drop k items)) ≡ all → ((ds : List Document) → fold (document d ∷ ds) ≡ here ++ after ds)
    → here ≡ [] → after (documents (drop (k + 1) items)) ≡ all
left_behind fold items k d here all after inside is before begins none =
    let left = documents (drop (k + 1) items) in
    let front : fold (documents (drop k items)) ≡ here ++ after left =
    ap (λ ds. fold (documents ds)) (drop_more items k d inside ∙ ap (λ x. x ∷ drop (k + 1) items) (sym is)) ∙ begins left in
    sym (front ∙ ap (λ fs. fs ++ after left) none) ∙ before
