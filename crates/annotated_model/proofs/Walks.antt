-- How the items of a list are gone through, each read over the names that the items before it give.
use Rattle.std.proofs.Common.{◌≡◌, sym, ap, ◌∙◌, subst, ℕ, suc, ◌+◌, ◌<◌, List, [], ◌∷◌, ◌++◌, length, drop, get_or, drop-cons, add-one}
use Rattle.meaning.specs.Documents.{Document}
use Rattle.meaning.specs.BundlePlaces.{Part, BundleFault, Broken, faults_at}
use Rattle.doc_tree.specs.declared.doc.Doc.{Doc}
use Rattle.doc_tree.specs.View.{document, documents}
use Rattle.annotated_model.specs.declared.fault.ModelStop.{ModelStop}
use Rattle.annotated_model.specs.Faults.{IsFirst}
use Rattle.annotated_model.specs.Items.{faults_after}
use Rattle.annotated_model.proofs.Firsts.{first_in_front}

module _ (part : Part) (name : Document → List ℕ) (rules : List (List ℕ) → ℕ → Document → List Broken) where
  -- what is left begins with the item at the place
  left_is : (before : List (List ℕ)) (i : ℕ) (items : List Doc) (item : Doc) → i < length items → item ≡ get_or items i item
      → faults_after part name rules before i (documents (drop i items))
      ≡ faults_at part i 0 (rules before i (document item)) ++ faults_after part name rules (before ++ name (document item) ∷ []) (i + 1) (documents (drop (i + 1) items))
  left_is before i items item inside is =
      let front : drop i items ≡ item ∷ drop (i + 1) items = rw (add-one, drop-cons items i item) (ap (λ d. d ∷ drop (suc i) items) (sym is)) in
      ap (λ ds. faults_after part name rules before i (documents ds)) front

  -- the item breaks no rule
  pub goes_on : (before after : List (List ℕ)) (i : ℕ) (items : List Doc) (item : Doc) (all : List BundleFault) → i < length items → item ≡ get_or items i item
      → after ≡ before ++ name (document item) ∷ [] → rules before i (document item) ≡ [] → faults_after part name rules before i (documents (drop i items)) ≡ all
      → faults_after part name rules after (i + 1) (documents (drop (i + 1) items)) ≡ all
  goes_on before after i items item all inside is longer none so_far =
      rw longer (sym (left_is before i items item inside is
      ∙ ap (λ broken. faults_at part i 0 broken ++ faults_after part name rules (before ++ name (document item) ∷ []) (i + 1) (documents (drop (i + 1) items))) none) ∙ so_far)

  -- the first rule that the item breaks is the first of all
  pub stops : (before : List (List ℕ)) (i : ℕ) (items : List Doc) (item : Doc) (all : List BundleFault) (stop : ModelStop) → i < length items → item ≡ get_or items i item
      → faults_after part name rules before i (documents (drop i items)) ≡ all → IsFirst (faults_at part i 0 (rules before i (document item))) stop
      → IsFirst all stop
  stops before i items item all stop inside is so_far first =
      subst (λ fs. IsFirst fs stop) (sym (left_is before i items item inside is) ∙ so_far)
      (first_in_front (faults_at part i 0 (rules before i (document item)))
      (faults_after part name rules (before ++ name (document item) ∷ []) (i + 1) (documents (drop (i + 1) items))) stop first)
