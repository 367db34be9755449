-- How types are gone through, each after the types before it.
use Rattle.std.proofs.Common.{◌≡◌, sym, ap, ◌∙◌, subst, ℕ, suc, ◌+◌, ◌<◌, List, [], ◌∷◌, ◌++◌, length, drop, get_or, drop-cons, add-one}
use Rattle.meaning.specs.Models.{TypeDef, type_of}
use Rattle.meaning.specs.BundlePlaces.{Types, BundleFault, faults_at, name_in}
use Rattle.doc_tree.specs.declared.doc.Doc.{Doc}
use Rattle.doc_tree.specs.View.{document, documents}
use Rattle.annotated_model.specs.declared.fault.ModelStop.{ModelStop}
use Rattle.annotated_model.specs.Faults.{IsFirst}
use Rattle.annotated_model.specs.Items.{type_broken, types_broken_after}
use Rattle.annotated_model.proofs.Firsts.{first_in_front}

-- the first rule that the type breaks is the first of all
pub type_stops : (names : List (List ℕ)) (before : List TypeDef) (i : ℕ) (items : List Doc) (item : Doc) (all : List BundleFault) (stop : ModelStop)
    → i < length items → item ≡ get_or items i item → types_broken_after names before i (documents (drop i items)) ≡ all
    → IsFirst (faults_at Types i 0 (type_broken names before i (document item))) stop → IsFirst all stop
type_stops names before i items item all stop inside is so_far first =
    let front : drop i items ≡ item ∷ drop (i + 1) items = rw (add-one, drop-cons items i item) (ap (λ d. d ∷ drop (suc i) items) (sym is)) in
    subst (λ fs. IsFirst fs stop) (sym (ap (λ ds. types_broken_after names before i (documents ds)) front) ∙ so_far)
    (first_in_front (faults_at Types i 0 (type_broken names before i (document item)))
    (types_broken_after (names ++ name_in (document item) ∷ []) (before ++ type_of names before (document item) ∷ []) (i + 1) (documents (drop (i + 1) items))) stop first)
