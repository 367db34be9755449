-- What a loop over the items of a list or the entries of a table knows of the documents that they are.
use Rattle.std.proofs.Common.{◌≡◌, ℕ, zero, suc, ◌+◌, ◌<◌, List, [], ◌∷◌, length, get_or, drop, drop-cons, add-one, Some, refl, sym, ap, ◌∙◌, arith}
use Rattle.std.specs.Prelude.{slice_get}
use Rattle.doc_tree.specs.declared.doc.Doc.{Doc}
use Rattle.doc_tree.specs.View.{document, documents, members}

pub length-documents : (docs : List Doc) → length (documents docs) ≡ length docs
length-documents [] = refl
length-documents (d ∷ docs) = ap suc (length-documents docs)

pub length-members : (es : List (List ℕ × Doc)) → length (members es) ≡ length es
length-members [] = refl
length-members (e ∷ es) = ap suc (length-members es)

-- the item at an index is the document at that index
pub documents-at : (docs : List Doc) (i : ℕ) (x : Doc) → i < length docs → x ≡ get_or docs i x → slice_get (documents docs) i ≡ Some (document x)
documents-at [] i x within at = absurd (omega arith)
documents-at (d ∷ docs) zero x within at = ap (λ y. Some (document y)) (sym at)
documents-at (d ∷ docs) (suc i) x within at = documents-at docs i x (omega arith) at

-- the entry at an index is the member at that index
pub members-at : (es : List (List ℕ × Doc)) (i : ℕ) (x : List ℕ × Doc) → i < length es → x ≡ get_or es i x → slice_get (members es) i ≡ Some (x.0, document x.1)
members-at [] i x within at = absurd (omega arith)
members-at (e ∷ es) zero x within at = ap (λ y. Some (y.0, document y.1)) (sym at)
members-at (e ∷ es) (suc i) x within at = members-at es i x (omega arith) at

-- the documents from an index on are the document there and those after it
pub documents-drop : (docs : List Doc) (i : ℕ) (x : Doc) → i < length docs → x ≡ get_or docs i x
    → documents (drop i docs) ≡ document x ∷ documents (drop (i + 1) docs)
documents-drop docs i x within at =
    ap documents (drop-cons docs i x within) ∙ rw add-one (ap (λ y. document y ∷ documents (drop (suc i) docs)) (sym at))

pub members-drop : (es : List (List ℕ × Doc)) (i : ℕ) (x : List ℕ × Doc) → i < length es → x ≡ get_or es i x
    → members (drop i es) ≡ (x.0, document x.1) ∷ members (drop (i + 1) es)
members-drop es i x within at =
    ap members (drop-cons es i x within) ∙ rw add-one (ap (λ y. (y.0, document y.1) ∷ members (drop (suc i) es)) (sym at))
