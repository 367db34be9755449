-- The faults of a case stand in order, so that the one that is told is the least by its number, its part and its item.
use Rattle.std.specs.Prelude.{◌≡◌, refl, ℕ, zero, suc, ◌+◌, ◌≤◌, ⊤, List, [], ◌∷◌, ◌++◌, map, filter, length, Bool, true, false, not, ◌||◌, ◌&&◌, nat_lt, ◌==◌, cond, if◌then◌else◌, Option, Some, None, is_none, is_some, codes, bytes_eq, take, Contains}
use Rattle.std.specs.List.{AllByRecursion, list_any, list_all, enumerate_from}
use Rattle.std.proofs.Common.{inl, inr, ap, subst}
use Rattle.std.proofs.lemmas.Bool.{le-ltb}
use Rattle.std.proofs.lemmas.List.Elements.{All-contains, All-from_recursion}
use native.Mathlib.Omega.{arith}
use Rattle.meaning.specs.Counts.{capped}
use Rattle.meaning.specs.Texts.{first_of_list, is_name, is_text}
use Rattle.meaning.specs.Documents.{Document, Json, document_of, as_table, list_at, text_at, natural_at}
use Rattle.meaning.specs.CaseFiles.{CaseRelation, CaseDocument}
use Rattle.meaning.specs.BundlePlaces.{Part, part_number}
use Rattle.meaning.specs.CaseReading.{Document', Features, Systems, Nodes, Valid, Table, Relations, CaseFault, CaseReading, Broken, Is, no_case, faults_at, failing, unless, past, past_in_all, least_of, first_alone, bad_names, unless_broken, read_table_document, read_document, read_case, case_document_of}
use Rattle.meaning.specs.CaseReading as reading
use Rattle.meaning.specs.CaseFaultOrder.{stands_before, faults_in_document, faults_if_read, case_faults, FirstCaseFaultIsTold, CasesBreakNoRule}
use Rattle.meaning.proofs.FirstIsLeast.{Then, then_map, then_trans, not_before_by}
use Rattle.meaning.proofs.FirstFaults.{first_is_contained}

-- ---- places in order

abbrev Key : Type 0
Key = ℕ × ℕ × ℕ

abbrev key_of : CaseFault → Key
key_of f = (f.fault, part_number f.part, f.item)

abbrev UpTo : Key → Key → Type 0
UpTo k l = Then k.0 l.0 (Then k.1 l.1 (k.2 ≤ l.2))

up_to_trans : (k l m : Key) → UpTo k l → UpTo l m → UpTo k m
up_to_trans k l m = then_trans k.0 l.0 m.0 (then_trans k.1 l.1 m.1 (λ (a : k.2 ≤ l.2) (b : l.2 ≤ m.2). omega arith))

not_before : (f g : CaseFault) → UpTo (key_of f) (key_of g) → stands_before g f ≡ false
not_before f g h = not_before_by _ _ _ (then_map _ _ (λ i. not_before_by _ _ _ (then_map _ _ (λ j. le-ltb _ _ j) i)) h)

same_key : (k : Key) → UpTo k k
same_key k = inr (refl, inr (refl, omega arith))

-- each fault of the list is at or past the one before it; all stand between two places
Ascends : Key → Key → List CaseFault → Type 0
Ascends lo hi [] = UpTo lo hi
Ascends lo hi (f ∷ fs) = UpTo lo (key_of f) × Ascends (key_of f) hi fs

ascends_from : (k lo hi : Key) (fs : List CaseFault) → UpTo k lo → Ascends lo hi fs → Ascends k hi fs
unfolding Ascends
ascends_from k lo hi [] a b = up_to_trans k lo hi a b
ascends_from k lo hi (f ∷ fs) a b = (up_to_trans k lo (key_of f) a b.0, b.1)

ascends_to : (lo hi k : Key) (fs : List CaseFault) → Ascends lo hi fs → UpTo hi k → Ascends lo k fs
unfolding Ascends
ascends_to lo hi k [] a b = up_to_trans lo hi k a b
ascends_to lo hi k (f ∷ fs) a b = (a.0, ascends_to (key_of f) hi k fs a.1 b)

ascends_append : (lo mid hi : Key) (fs gs : List CaseFault) → Ascends lo mid fs → Ascends mid hi gs → Ascends lo hi (fs ++ gs)
unfolding Ascends
ascends_append lo mid hi [] gs a b = ascends_from lo mid hi gs a b
ascends_append lo mid hi (f ∷ fs) gs a b = (a.0, ascends_append (key_of f) mid hi fs gs a.1 b)

none_before : (f : CaseFault) (hi : Key) (fs : List CaseFault) → Ascends (key_of f) hi fs → AllByRecursion (λ g. stands_before g f ≡ false) fs
unfolding Ascends
none_before f hi [] a = tt
none_before f hi (g ∷ gs) a = (not_before f g a.0, none_before f hi gs (ascends_from (key_of f) (key_of g) hi gs a.0 a.1))

-- no fault of the list stands before its first
least : (lo hi : Key) (fs : List CaseFault) (f : CaseFault) → Ascends lo hi fs → first_of_list fs ≡ Some f → (g : CaseFault) → Contains fs g → stands_before g f ≡ false
unfolding Ascends
least lo hi [] f a e g c = absurd cc
least lo hi (x ∷ xs) f a e g c =
    let same : x ≡ f = cc in
    subst (λ y. stands_before g y ≡ false) same
    (All-contains (λ y. stands_before y x ≡ false) (x ∷ xs) g
    (All-from_recursion (λ y. stands_before y x ≡ false) (x ∷ xs) (not_before x x (same_key (key_of x)), none_before x hi xs a.1)) c)

-- ---- numbers of items that rise

Rises : ℕ → List ℕ → Type 0
Rises lo [] = ⊤
Rises lo (i ∷ is) = (lo ≤ i) × Rises i is

-- the numbers of the items that pass a test
rises_kept : {A : Type 0} (test : ℕ × A → Bool) (lo k : ℕ) (xs : List A) → lo ≤ k → Rises lo (map (λ x. x.0) (filter test (enumerate_from k xs)))
unfolding Rises
rises_kept test lo k [] at = tt
rises_kept test lo k (x ∷ xs) at = go (test (k, x)) (rises_kept test k (k + 1) xs (omega arith)) (rises_kept test lo (k + 1) xs (omega arith))
  where
    go : (b : Bool) → Rises k (map (λ y. y.0) (filter test (enumerate_from (k + 1) xs))) → Rises lo (map (λ y. y.0) (filter test (enumerate_from (k + 1) xs)))
        → Rises lo (map (λ y. y.0) (cond b ((k, x) ∷ filter test (enumerate_from (k + 1) xs)) (filter test (enumerate_from (k + 1) xs))))
    go true taken left = (at, taken)
    go false taken left = left

rises_failing : {A : Type 0} (test : A → Bool) (xs : List A) → Rises 0 (failing test xs)
rises_failing test xs = rises_kept (λ x. not (test x.1)) 0 0 xs (omega arith)

rises_alone : (i : ℕ) → Rises 0 (i ∷ [])
unfolding Rises
rises_alone i = (omega arith, tt)

rises_unless : (b : Bool) → Rises 0 (unless b)
unfolding Rises
rises_unless true = tt
rises_unless false = rises_alone 0

rises_past : (limit size : ℕ) → Rises 0 (past limit size)
unfolding Rises
rises_past limit size = go (nat_lt limit size)
  where
    go : (b : Bool) → Rises 0 (if b then limit ∷ [] else [])
    go true = rises_alone limit
    go false = tt

rises_first : (ns : List ℕ) → Rises 0 (first_alone ns)
unfolding Rises
rises_first [] = tt
rises_first (n ∷ ns) = rises_alone (least_of n ns)

-- ---- faults of one number in one part, and behind others

in_part : (fault : ℕ) (part : Part) (lo : ℕ) (items : List ℕ) → Rises lo items → Ascends (fault, part_number part, capped lo) (fault, part_number part + 1, 0) (faults_at fault part items)
unfolding Ascends Rises
in_part fault part lo [] h = inr (refl, inl (omega arith))
in_part fault part lo (i ∷ is) h = (inr (refl, inr (refl, let l = h.0 in omega arith)), in_part fault part i is h.1)

-- a place of a part is at or past one of the same or an earlier part
up_to_part : (p q : ℕ) → p ≤ q → Then p q (0 ≤ 0)
up_to_part p zero at = inr (omega arith, omega arith)
up_to_part zero (suc q) at = inl (omega arith)
up_to_part (suc p) (suc q) at = then_suc (up_to_part p q (omega arith))
  where
    then_suc : Then p q (0 ≤ 0) → Then (suc p) (suc q) (0 ≤ 0)
    then_suc (inl l) = inl (omega arith)
    then_suc (inr e) = inr (ap suc e.0, e.1)

first_part : (fault : ℕ) (part : Part) (items : List ℕ) → Rises 0 items → Ascends (fault, 0, 0) (fault, part_number part + 1, 0) (faults_at fault part items)
first_part fault part items h =
    ascends_from (fault, 0, 0) (fault, part_number part, 0) (fault, part_number part + 1, 0) (faults_at fault part items)
    (inr (refl, up_to_part 0 (part_number part) (omega arith))) (in_part fault part 0 items h)

-- behind those of earlier parts
next_part : (lo : Key) (fault p : ℕ) (part : Part) (fs : List CaseFault) (items : List ℕ) → p ≤ part_number part → Ascends lo (fault, p, 0) fs → Rises 0 items
    → Ascends lo (fault, part_number part + 1, 0) (fs ++ faults_at fault part items)
next_part lo fault p part fs items at a h =
    ascends_append lo (fault, p, 0) (fault, part_number part + 1, 0) fs (faults_at fault part items) a
    (ascends_from (fault, p, 0) (fault, part_number part, 0) (fault, part_number part + 1, 0) (faults_at fault part items)
    (inr (refl, up_to_part p (part_number part) at)) (in_part fault part 0 items h))

-- before those of the next number
next_fault : (lo : Key) (fault p : ℕ) (fs : List CaseFault) → Ascends lo (fault, p, 0) fs → Ascends lo (fault + 1, 0, 0) fs
next_fault lo fault p fs a = ascends_to lo (fault, p, 0) (fault + 1, 0, 0) fs a (inl (omega arith))

-- ---- the faults of each number, over lists of places that rise

-- of four parts
four_parts : (fault : ℕ) (p q r s : Part) (ps qs rs ss : List ℕ) → part_number p + 1 ≤ part_number q → part_number q + 1 ≤ part_number r → part_number r + 1 ≤ part_number s
    → Rises 0 ps → Rises 0 qs → Rises 0 rs → Rises 0 ss
    → Ascends (fault, 0, 0) (fault, part_number s + 1, 0) (faults_at fault p ps ++ faults_at fault q qs ++ faults_at fault r rs ++ faults_at fault s ss)
four_parts fault p q r s ps qs rs ss a b c hp hq hr hs =
    next_part (fault, 0, 0) fault (part_number r + 1) s (faults_at fault p ps ++ faults_at fault q qs ++ faults_at fault r rs) ss c
    (next_part (fault, 0, 0) fault (part_number q + 1) r (faults_at fault p ps ++ faults_at fault q qs) rs b
    (next_part (fault, 0, 0) fault (part_number p + 1) q (faults_at fault p ps) qs a (first_part fault p ps hp) hq) hr) hs

form_ascends : (d : Document) → Ascends (2, 0, 0) (3, 0, 0) (reading.form_faults d)
form_ascends d =
    let at = λ (k : List ℕ). list_at k d in
    let four = faults_at 2 Document' (unless (reading.top_is_formed d)) ++ faults_at 2 Features (failing reading.is_text_value (at (codes "features")))
    ++ faults_at 2 Systems (failing reading.is_system (at (codes "systems"))) ++ faults_at 2 Nodes (failing reading.is_node (at (codes "nodes"))) in
    next_fault (2, 0, 0) 2 20 (reading.form_faults d)
    (next_part (2, 0, 0) 2 18 Relations (four ++ faults_at 2 Valid (unless (reading.has_natural (codes "valid") d))) (failing reading.is_relation (at (codes "relations"))) (omega arith)
    (next_part (2, 0, 0) 2 16 Valid four (unless (reading.has_natural (codes "valid") d)) (omega arith)
    (four_parts 2 Document' Features Systems Nodes _ _ _ _ (omega arith) (omega arith) (omega arith)
    (rises_unless (reading.top_is_formed d)) (rises_failing reading.is_text_value (at (codes "features"))) (rises_failing reading.is_system (at (codes "systems")))
    (rises_failing reading.is_node (at (codes "nodes"))))
    (rises_unless (reading.has_natural (codes "valid") d))) (rises_failing reading.is_relation (at (codes "relations"))))

text_ascends : (d : Document) (k : CaseDocument) → Ascends (4, 0, 0) (5, 0, 0) (reading.text_faults d k)
text_ascends d k =
    next_fault (4, 0, 0) 4 16 (reading.text_faults d k)
    (four_parts 4 Document' Features Systems Nodes _ _ _ _ (omega arith) (omega arith) (omega arith)
    (rises_unless (is_text k.title)) (rises_kept (λ x. not (is_name x.1) || list_any (bytes_eq x.1) (take x.0 k.features)) 0 0 k.features (omega arith))
    (rises_failing reading.system_is_text k.systems) (rises_failing reading.node_document_is_text (list_at (codes "nodes") d)))

table_ascends : (d : Document) (k : CaseDocument) → Ascends (5, 0, 0) (6, 0, 0) (reading.table_faults d k)
table_ascends d k =
    next_fault (5, 0, 0) 5 19 (reading.table_faults d k)
    (first_part 5 Table _ (rises_kept (λ r. not (reading.row_document_fits k r)) 0 0 (list_at (codes "table") d) (omega arith)))

id_ascends : (k : CaseDocument) → Ascends (6, 0, 0) (7, 0, 0) (reading.id_faults k)
id_ascends k =
    next_fault (6, 0, 0) 6 20 (reading.id_faults k)
    (four_parts 6 Systems Nodes Valid Relations _ _ _ _ (omega arith) (omega arith) (omega arith)
    (rises_failing (λ s. list_all (reading.is_id k) s.reached && list_all (reading.is_id k) s.parents) k.systems)
    (rises_failing (λ n. reading.is_id k n.presence && list_all (reading.is_id k) n.branches && list_all (reading.is_id k) (reading.finding_ids n.finding)) k.nodes)
    (rises_unless (reading.is_id k k.valid)) (rises_failing (λ r. reading.is_id k r.presence) k.relations))

word_ascends : (d : Document) → Ascends (7, 0, 0) (8, 0, 0) (reading.word_faults d)
word_ascends d =
    let nodes = failing (λ n. is_some (reading.kind_named (text_at (codes "kind") n)) && reading.check_word_known n) (list_at (codes "nodes") d) in
    let relations = failing (λ r. is_some (reading.relation_named (text_at (codes "kind") r))) (list_at (codes "relations") d) in
    next_fault (7, 0, 0) 7 20 (reading.word_faults d)
    (next_part (7, 0, 0) 7 16 Relations (faults_at 7 Nodes nodes) relations (omega arith)
    (first_part 7 Nodes nodes (rises_failing (λ n. is_some (reading.kind_named (text_at (codes "kind") n)) && reading.check_word_known n) (list_at (codes "nodes") d)))
    (rises_failing (λ r. is_some (reading.relation_named (text_at (codes "kind") r))) (list_at (codes "relations") d)))

limit_ascends : (k : CaseDocument) → Ascends (11, 0, 0) (12, 0, 0) (reading.limit_faults k)
limit_ascends k =
    next_fault (11, 0, 0) 11 20 (reading.limit_faults k)
    (four_parts 11 Features Systems Nodes Relations _ _ _ _ (omega arith) (omega arith) (omega arith)
    (rises_past 256 (length k.features)) (rises_first (past 256 (length k.systems)
    ++ past_in_all 0 4096 (map (λ s. length s.states) k.systems) ++ past_in_all 0 16384 (map (λ s. length s.transitions) k.systems)))
    (rises_past 32768 (length k.nodes)) (rises_past 65536 (length k.relations)))

-- ---- all faults of a document, and of bytes

-- behind those of smaller numbers
and_more : (fault : ℕ) (fs gs : List CaseFault) → Ascends (2, 0, 0) (fault, 0, 0) fs → Ascends (fault, 0, 0) (fault + 1, 0, 0) gs → Ascends (2, 0, 0) (fault + 1, 0, 0) (fs ++ gs)
and_more fault fs gs a b = ascends_append (2, 0, 0) (fault, 0, 0) (fault + 1, 0, 0) fs gs a b

-- of one part alone
one_part : (fault : ℕ) (part : Part) (items : List ℕ) → Rises 0 items → Ascends (fault, 0, 0) (fault + 1, 0, 0) (faults_at fault part items)
one_part fault part items h = next_fault (fault, 0, 0) fault (part_number part + 1) (faults_at fault part items) (first_part fault part items h)

within_ascends : (d : Document) (k : CaseDocument) → Ascends (3, 0, 0) (12, 0, 0) (reading.faults_within d k)
within_ascends d k =
    let version = faults_at 3 Document' (unless (natural_at (codes "case") d == 1)) in
    let to_table = version ++ reading.text_faults d k ++ reading.table_faults d k in
    let to_ends = to_table ++ reading.id_faults k ++ reading.word_faults d ++ reading.end_faults k in
    let systems = faults_at 9 Systems (failing reading.system_fits k.systems) in
    let nodes = faults_at 10 Nodes (failing (reading.node_fits k) (list_at (codes "nodes") d)) in
    let ends = λ (r : CaseRelation). nat_lt r.source (length k.nodes) && nat_lt r.target (length k.nodes) in
    ascends_append (3, 0, 0) (11, 0, 0) (12, 0, 0) (to_ends ++ systems ++ nodes) (reading.limit_faults k)
    (ascends_append (3, 0, 0) (10, 0, 0) (11, 0, 0) (to_ends ++ systems) nodes
    (ascends_append (3, 0, 0) (9, 0, 0) (10, 0, 0) to_ends systems
    (ascends_append (3, 0, 0) (8, 0, 0) (9, 0, 0) (to_table ++ reading.id_faults k ++ reading.word_faults d) (reading.end_faults k)
    (ascends_append (3, 0, 0) (7, 0, 0) (8, 0, 0) (to_table ++ reading.id_faults k) (reading.word_faults d)
    (ascends_append (3, 0, 0) (6, 0, 0) (7, 0, 0) to_table (reading.id_faults k)
    (ascends_append (3, 0, 0) (5, 0, 0) (6, 0, 0) (version ++ reading.text_faults d k) (reading.table_faults d k)
    (ascends_append (3, 0, 0) (4, 0, 0) (5, 0, 0) version (reading.text_faults d k)
    (one_part 3 Document' (unless (natural_at (codes "case") d == 1)) (rises_unless (natural_at (codes "case") d == 1))) (text_ascends d k)) (table_ascends d k)) (id_ascends k))
    (word_ascends d)) (one_part 8 Relations (failing ends k.relations) (rises_failing ends k.relations)))
    (one_part 9 Systems (failing reading.system_fits k.systems) (rises_failing reading.system_fits k.systems)))
    (one_part 10 Nodes (failing (reading.node_fits k) (list_at (codes "nodes") d)) (rises_failing (reading.node_fits k) (list_at (codes "nodes") d)))) (limit_ascends k)

document_ascends : (d : Document) → Ascends (0, 0, 0) (12, 0, 0) (faults_in_document d)
document_ascends d =
    ascends_from (0, 0, 0) (2, 0, 0) (12, 0, 0) (faults_in_document d) (inl (omega arith))
    (ascends_append (2, 0, 0) (3, 0, 0) (12, 0, 0) (reading.form_faults d) (reading.faults_within d (case_document_of d)) (form_ascends d) (within_ascends d (case_document_of d)))

no_case_ascends : Ascends (0, 0, 0) (12, 0, 0) (no_case ∷ [])
unfolding Ascends
no_case_ascends = (inl (omega arith), inl (omega arith))

read_ascends : (o : Option Document) → Ascends (0, 0, 0) (12, 0, 0) (faults_if_read o)
read_ascends None = no_case_ascends
read_ascends (Some d) = go (is_none (as_table d))
  where
    go : (b : Bool) → Ascends (0, 0, 0) (12, 0, 0) (if b then no_case ∷ [] else faults_in_document d)
    go true = no_case_ascends
    go false = document_ascends d

-- ---- what is told is the first of the list

told_first : (fs : List CaseFault) (k : CaseDocument) (f : CaseFault) → unless_broken (first_of_list fs) (Is k) ≡ Broken f → first_of_list fs ≡ Some f
told_first [] k f e = absurd cc
told_first (x ∷ xs) k f e = let same : x ≡ f = cc in ap Some same

told_none : (fs : List CaseFault) (k l : CaseDocument) → unless_broken (first_of_list fs) (Is k) ≡ Is l → fs ≡ []
told_none [] k l e = refl
told_none (x ∷ xs) k l e = absurd cc

read_first : (o : Option Document) (f : CaseFault) → read_document o ≡ Broken f → first_of_list (faults_if_read o) ≡ Some f
read_first None f e = let same : no_case ≡ f = cc in ap Some same
read_first (Some d) f e = go (is_none (as_table d)) e
  where
    go : (b : Bool) → (if b then Broken no_case else read_table_document d) ≡ Broken f → first_of_list (if b then no_case ∷ [] else faults_in_document d) ≡ Some f
    go true e = let same : no_case ≡ f = cc in ap Some same
    go false e = told_first (faults_in_document d) (case_document_of d) f e

read_none : (o : Option Document) (k : CaseDocument) → read_document o ≡ Is k → faults_if_read o ≡ []
read_none None k e = absurd cc
read_none (Some d) k e = go (is_none (as_table d)) e
  where
    go : (b : Bool) → (if b then Broken no_case else read_table_document d) ≡ Is k → (if b then no_case ∷ [] else faults_in_document d) ≡ []
    go true e = absurd cc
    go false e = told_none (faults_in_document d) (case_document_of d) k e

-- the fault that is told of bytes is broken, and the least by its number, its part and its item
pub first_case_fault_is_told : FirstCaseFaultIsTold
unfolding read_case case_faults
first_case_fault_is_told bytes f e =
    let fs = faults_if_read (document_of Json bytes) in
    let first = read_first (document_of Json bytes) f e in
    record {
      is_broken = first_is_contained fs f first;
      is_least = least (0, 0, 0) (12, 0, 0) fs f (read_ascends (document_of Json bytes)) first;
    }

-- bytes that are a case break no rule
pub cases_break_no_rule : CasesBreakNoRule
unfolding read_case case_faults
cases_break_no_rule bytes k e = read_none (document_of Json bytes) k e
