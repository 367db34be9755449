-- Documents that are written as values, put together from their parts.
use Rattle.std.proofs.Common.{◌≡◌, ◌<◌, ◌+◌, ℕ, List, [], ◌∷◌, ◌++◌, map, length, take, get_or, Bool, true, ◌&&◌, refl, sym, ap, ap₂, ◌∙◌, subst}
use Rattle.std.proofs.lemmas.List.{take_more}
use Rattle.serde_json.specs.Data.{Data, array, object}
use Rattle.meaning.specs.CaseBytes.{items_of, members_of}
use Rattle.meaning.specs.Documents.{Document, of_json, items_of_json, members_of_json, or_left_out}
use Rattle.meaning.specs.Documents as meaning
use Rattle.doc_tree.specs.declared.doc.Doc.{Doc}
use Rattle.doc_tree.specs.declared.doc.Doc.TheVariants as doc
use Rattle.doc_tree.specs.View.{document, documents, documents_of, members}
use Rattle.doc_tree.specs.View as view
use Rattle.doc_tree.proofs.Levels.{document-List, document-Table}
use Rattle.doc_tree.proofs.Writing.{both_true, map-more}
use Rattle.lifted_case.specs.Written.{is_plain, items_are_plain, members_are_plain, IsWritten, AreWritten, MembersWritten}
use Rattle.lifted_case.proofs.Plain.{or_left_out-plain}

-- ---- lists

documents_of-map : (vs : List Data) → documents_of (map of_json vs) ≡ items_of_json (items_of vs)
documents_of-map [] = refl
documents_of-map (v ∷ vs) = ap (meaning.document (of_json v)) (documents_of-map vs)

pub IsWritten-list : (d : Doc) (docs items : List Doc) (vs : List Data) → d ≡ doc.List docs → docs ≡ items → AreWritten (documents items) vs
    → IsWritten (document d) (array (items_of vs))
IsWritten-list d docs items vs e same all = record {
  read = ap document e ∙ document-List docs ∙ ap (λ xs. meaning.list (documents_of (documents xs))) same
      ∙ ap (λ ds. meaning.list (documents_of ds)) all.read ∙ ap meaning.list (documents_of-map vs);
  plain = all.plain;
}

and_true : (a b : Bool) → a ≡ true → b ≡ true → (a && b) ≡ true
and_true a b p q = ap₂ (λ x y. x && y) p q

plain-more : (vs : List Data) (v : Data) → items_are_plain (items_of vs) ≡ true → is_plain v ≡ true → items_are_plain (items_of (vs ++ v ∷ [])) ≡ true
plain-more [] v h p = and_true (is_plain v) true p refl
plain-more (x ∷ vs) v h p =
    let parts = both_true (is_plain x) (items_are_plain (items_of vs)) h in
    and_true (is_plain x) (items_are_plain (items_of (vs ++ v ∷ []))) parts.0 (plain-more vs v parts.1 p)

pub AreWritten-none : AreWritten [] []
AreWritten-none = record { read = refl; plain = refl }

pub AreWritten-empty : (docs : List Doc) → docs ≡ [] → AreWritten (documents docs) []
AreWritten-empty docs e = subst (λ xs. AreWritten (documents xs) []) (sym e) AreWritten-none

-- one more item
pub AreWritten-more : (docs more : List Doc) (vs : List Data) (d : Doc) (v : Data) → more ≡ docs ++ d ∷ [] → AreWritten (documents docs) vs
    → IsWritten (document d) v → AreWritten (documents more) (vs ++ v ∷ [])
AreWritten-more docs more vs d v e all one = record {
  read = ap documents e ∙ map-more document docs d ∙ ap (λ ds. ds ++ document d ∷ []) all.read ∙ ap (λ x. map of_json vs ++ x ∷ []) one.read
      ∙ sym (map-more of_json vs v);
  plain = plain-more vs v all.plain one.plain;
}

pub AreWritten-as : (ds : List Document) (vs ws : List Data) → vs ≡ ws → AreWritten ds vs → AreWritten ds ws
AreWritten-as ds vs ws same all = record { read = all.read ∙ ap (map of_json) same; plain = sym (ap (λ xs. items_are_plain (items_of xs)) same) ∙ all.plain }

pub IsWritten-as : (d : Document) (v w : Data) → v ≡ w → IsWritten d v → IsWritten d w
IsWritten-as d v w same one = record { read = one.read ∙ ap of_json same; plain = sym (ap is_plain same) ∙ one.plain }

map-next : {A B : Type 0} (f : A → B) (xs : List A) (i : ℕ) (e : A) → i < length xs → map f (take (i + 1) xs) ≡ map f (take i xs) ++ f (get_or xs i e) ∷ []
map-next f xs i e within = ap (map f) (take_more xs i e within) ∙ map-more f (take i xs) (get_or xs i e)

-- one more of the items that some things are written as
pub AreWritten-next : {A : Type 0} (f : A → Data) (xs : List A) (i : ℕ) (e : A) (docs more : List Doc) (d : Doc) (v : Data) → i < length xs → v ≡ f (get_or xs i e)
    → more ≡ docs ++ d ∷ [] → AreWritten (documents docs) (map f (take i xs)) → IsWritten (document d) v → AreWritten (documents more) (map f (take (i + 1) xs))
AreWritten-next f xs i e docs more d v within is step all one =
    AreWritten-as (documents more) (map f (take i xs) ++ v ∷ []) (map f (take (i + 1) xs))
    (ap (λ x. map f (take i xs) ++ x ∷ []) is ∙ sym (map-next f xs i e within))
    (AreWritten-more docs more (map f (take i xs)) d v step all one)

-- the same of what some things stand for
pub AreWritten-next-of : {A B : Type 0} (f : B → Data) (g : A → B) (xs : List A) (i : ℕ) (e : A) (docs more : List Doc) (d : Doc) (v : Data) → i < length xs
    → v ≡ f (g (get_or xs i e)) → more ≡ docs ++ d ∷ [] → AreWritten (documents docs) (map f (map g (take i xs))) → IsWritten (document d) v
    → AreWritten (documents more) (map f (map g (take (i + 1) xs)))
AreWritten-next-of f g xs i e docs more d v within is step all one =
    AreWritten-as (documents more) (map f (map g (take i xs)) ++ v ∷ []) (map f (map g (take (i + 1) xs)))
    (ap (λ x. map f (map g (take i xs)) ++ x ∷ []) is ∙ sym (map-more f (map g (take i xs)) (g (get_or xs i e))) ∙ sym (ap (map f) (map-next g xs i e within)))
    (AreWritten-more docs more (map f (map g (take i xs))) d v step all one)

-- ---- tables

members_of-written : (es : List (List ℕ × Document)) (ms : List (List ℕ × Data)) → MembersWritten es ms → view.members_of es ≡ members_of_json (members_of ms)
members_of-written [] [] h = refl
members_of-written [] (m ∷ ms) h = absurd h
members_of-written (e ∷ es) [] h = absurd h
members_of-written (e ∷ es) (m ∷ ms) h =
    ap₂ (λ k d. meaning.member k d (view.members_of es)) h.0 h.1.0.read
    ∙ ap (meaning.member m.0 (of_json m.1)) (members_of-written es ms h.1.1)
    ∙ sym (or_left_out-plain m.0 m.1 (of_json m.1) (members_of_json (members_of ms)) h.1.0.plain)

members-plain : (es : List (List ℕ × Document)) (ms : List (List ℕ × Data)) → MembersWritten es ms → members_are_plain (members_of ms) ≡ true
members-plain [] [] h = refl
members-plain [] (m ∷ ms) h = absurd h
members-plain (e ∷ es) [] h = absurd h
members-plain (e ∷ es) (m ∷ ms) h = and_true (is_plain m.1) (members_are_plain (members_of ms)) h.1.0.plain (members-plain es ms h.1.1)

pub IsWritten-table : (d : Doc) (entries items : List (List ℕ × Doc)) (ms : List (List ℕ × Data)) → d ≡ doc.Table entries → entries ≡ items
    → MembersWritten (members items) ms → IsWritten (document d) (object (members_of ms))
IsWritten-table d entries items ms e same all = record {
  read = ap document e ∙ document-Table entries ∙ ap (λ xs. meaning.table (view.members_of (members xs))) same
      ∙ ap meaning.table (members_of-written (members items) ms all);
  plain = members-plain (members items) ms all;
}

both_written : (es fs : List (List ℕ × Document)) (ms ns : List (List ℕ × Data)) → MembersWritten es ms → MembersWritten fs ns → MembersWritten (es ++ fs) (ms ++ ns)
both_written [] fs [] ns h g = g
both_written [] fs (m ∷ ms) ns h g = absurd h
both_written (e ∷ es) fs [] ns h g = absurd h
both_written (e ∷ es) fs (m ∷ ms) ns h g = (h.0, (h.1.0, both_written es fs ms ns h.1.1 g))

-- one more member
pub MembersWritten-more : (old new : List (List ℕ × Doc)) (ms : List (List ℕ × Data)) (k : List ℕ) (d : Doc) (v : Data) → new ≡ old ++ (k, d) ∷ []
    → MembersWritten (members old) ms → IsWritten (document d) v → MembersWritten (members new) (ms ++ (k, v) ∷ [])
MembersWritten-more old new ms k d v e all one =
    let last : MembersWritten ((k, document d) ∷ []) ((k, v) ∷ []) = (refl, (one, tt)) in
    subst (λ es. MembersWritten es (ms ++ (k, v) ∷ [])) (sym (ap members e ∙ map-more (λ x. (x.0, document x.1)) old (k, d)))
    (both_written (members old) ((k, document d) ∷ []) ms ((k, v) ∷ []) all last)

pub MembersWritten-none : (es : List (List ℕ × Doc)) → es ≡ [] → MembersWritten (members es) []
MembersWritten-none es e = subst (λ xs. MembersWritten (members xs) []) (sym e) tt
