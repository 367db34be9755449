-- Members that are added to those of a table, one after another, and the items of short lists.
use Rattle.std.proofs.Common.{◌≡◌, ℕ, List, [], ◌∷◌, ◌++◌, refl, sym, ap, subst, append-nil, append_assoc, map, length, false}
use Rattle.std.specs.Prelude.{codes, ◌==◌}
use Rattle.serde_json.specs.Data.{Data, string}
use Rattle.meaning.specs.CaseBytes.{natural_data, list_data, branch_members}
use Rattle.meaning.specs.Documents.{Document}
use Rattle.doc_tree.specs.declared.doc.Doc.{Doc}
use Rattle.doc_tree.specs.View.{document, documents, members}
use Rattle.lifted_case.specs.Written.{IsWritten, AreWritten, MembersWritten}
use Rattle.lifted_case.specs.CaseWritten.{AddsMembers}
use Rattle.lifted_case.proofs.Writing.{MembersWritten-more, MembersWritten-none, AreWritten-none, AreWritten-more, IsWritten-as}

pub AddsMembers-none : (es : List (List ℕ × Doc)) → AddsMembers es es []
AddsMembers-none es = record { follow = λ ms h. subst (λ xs. MembersWritten (members es) xs) (sym (append-nil ms)) h }

pub AddsMembers-one : (old new : List (List ℕ × Doc)) (k : List ℕ) (d : Doc) (v : Data) → new ≡ old ++ (k, d) ∷ [] → IsWritten (document d) v → AddsMembers old new ((k, v) ∷ [])
AddsMembers-one old new k d v e one = record { follow = λ ms h. MembersWritten-more old new ms k d v e h one }

pub AddsMembers-then : {a b c : List (List ℕ × Doc)} {xs ys : List (List ℕ × Data)} → AddsMembers a b xs → AddsMembers b c ys → AddsMembers a c (xs ++ ys)
AddsMembers-then {a} {b} {c} {xs} {ys} first second =
    record { follow = λ ms h. subst (λ zs. MembersWritten (members c) zs) (append_assoc ms xs ys) (second.follow (ms ++ xs) (first.follow ms h)) }

pub AddsMembers-as : {a b : List (List ℕ × Doc)} {xs ys : List (List ℕ × Data)} → xs ≡ ys → AddsMembers a b xs → AddsMembers a b ys
AddsMembers-as {a} {b} {xs} {ys} same adds = record { follow = λ ms h. subst (λ zs. MembersWritten (members b) (ms ++ zs)) same (adds.follow ms h) }

-- all members of a table
pub AddsMembers-all : {none all : List (List ℕ × Doc)} {ms : List (List ℕ × Data)} → none ≡ [] → AddsMembers none all ms → MembersWritten (members all) ms
AddsMembers-all {none} {all} {ms} e adds = adds.follow [] (MembersWritten-none none e)

-- the key, the kind and the text of a node, after its other members
pub three_more : (xs : List (List ℕ × Data)) (k d t : List ℕ × Data) → ((xs ++ k ∷ []) ++ d ∷ []) ++ t ∷ [] ≡ xs ++ k ∷ d ∷ t ∷ []
three_more [] k d t = refl
three_more (x ∷ xs) k d t = ap (λ ys. x ∷ ys) (three_more xs k d t)

-- ---- short lists

pub AreWritten-two : (docs : List Doc) (a b : Doc) (v w : Data) → docs ≡ a ∷ b ∷ [] → IsWritten (document a) v → IsWritten (document b) w → AreWritten (documents docs) (v ∷ w ∷ [])
AreWritten-two docs a b v w e p q =
    subst (λ xs. AreWritten (documents xs) (v ∷ w ∷ [])) (sym e)
    (AreWritten-more (a ∷ []) (a ∷ b ∷ []) (v ∷ []) b w refl (AreWritten-more [] (a ∷ []) [] a v refl AreWritten-none p) q)

pub AreWritten-three : (docs : List Doc) (a b c : Doc) (u v w : Data) → docs ≡ a ∷ b ∷ c ∷ [] → IsWritten (document a) u → IsWritten (document b) v → IsWritten (document c) w
    → AreWritten (documents docs) (u ∷ v ∷ w ∷ [])
AreWritten-three docs a b c u v w e p q r =
    subst (λ xs. AreWritten (documents xs) (u ∷ v ∷ w ∷ [])) (sym e)
    (AreWritten-more (a ∷ b ∷ []) (a ∷ b ∷ c ∷ []) (u ∷ v ∷ []) c w refl (AreWritten-two (a ∷ b ∷ []) a b u v refl p q) r)

-- ---- values under an equation

pub IsWritten-natural : {d : Document} {n m : ℕ} → n ≡ m → IsWritten d (natural_data n) → IsWritten d (natural_data m)
IsWritten-natural {d} {n} {m} e one = IsWritten-as d (natural_data n) (natural_data m) (ap natural_data e) one

pub IsWritten-text : {d : Document} {s t : List ℕ} → s ≡ t → IsWritten d (string s) → IsWritten d (string t)
IsWritten-text {d} {s} {t} e one = IsWritten-as d (string s) (string t) (ap string e) one

-- ---- branches

pub some_branches : {C : Type 0} (id : C → ℕ) (bs : List C) → (length bs == 0) ≡ false → (codes "branches", list_data natural_data (map id bs)) ∷ [] ≡ branch_members (map id bs)
some_branches id [] some = cc
some_branches id (b ∷ bs) some = refl
