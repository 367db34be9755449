-- The bytes of a document that is the one of a case.
use Rattle.std.proofs.Common.{◌≡◌, ◌≤◌, ℕ, List, [], ◌∷◌, ◌++◌, true, Some, sym, ap, ◌∙◌, subst}
use Rattle.meaning.specs.Cases.{newline}
use Rattle.meaning.specs.CaseFiles.{CaseDocument}
use Rattle.meaning.specs.CaseBytes.{case_bytes, case_data}
use Rattle.meaning.specs.Documents.{Document, Json, document_of, of_json}
use Rattle.doc_tree.specs.Order.{has_no_other, is_in_order, nesting, most_nesting}
use Rattle.doc_tree.specs.Written.{data_of, json_text}
use Rattle.doc_tree.proofs.Texts.{json_text-data}
use Rattle.lifted_case.specs.Written.{IsWritten}
use Rattle.lifted_case.proofs.Plain.{data_of-of_json, has_no_other-of_json}
use Rattle.lifted_case.proofs.CaseShape.{case_in_order, case_nests}

module _ (k : CaseDocument) (d : Document) (h : IsWritten d (case_data k)) where
  pub has_no_other-case : has_no_other d ≡ true
  has_no_other-case = ap has_no_other h.read ∙ has_no_other-of_json (case_data k) h.plain

  pub is_in_order-case : is_in_order d ≡ true
  is_in_order-case = ap is_in_order h.read ∙ case_in_order k

  pub nesting-case : nesting d ≤ most_nesting
  nesting-case = subst (λ x. nesting x ≤ most_nesting) (sym h.read) (case_nests k)

  pub bytes-case : (text bytes : List ℕ) → text ≡ json_text d → bytes ≡ text ++ 10 ∷ [] → bytes ≡ case_bytes k
  unfolding case_bytes
  bytes-case text bytes e more =
      more ∙ ap (λ t. t ++ 10 ∷ []) (e ∙ json_text-data d (case_data k) (ap data_of h.read ∙ data_of-of_json (case_data k) h.plain))

  pub document_of-case : (text bytes : List ℕ) → document_of Json (text ++ newline) ≡ Some d → bytes ≡ text ++ 10 ∷ [] → document_of Json bytes ≡ Some (of_json (case_data k))
  document_of-case text bytes e more = ap (document_of Json) more ∙ e ∙ ap Some h.read
