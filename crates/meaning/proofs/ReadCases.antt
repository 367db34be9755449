-- What a case that reads without a fault keeps: its table is reduced, its identifiers and the ends of its relations are there.
use Rattle.std.proofs.Common.{◌≡◌, ℕ, zero, suc, ◌+◌, ◌<◌, ◌≤◌, List, [], ◌∷◌, ◌++◌, map, length, Bool, true, false, not, ◌&&◌, ◌||◌, ◌==◌, Some, None, Option, refl, sym, ap, ◌∙◌, subst, arith, ◌⊎◌, inl, inr}
use Rattle.std.specs.Prelude.{cond, filter, take, nat_lt, codes, is_none}
use Rattle.std.specs.List.{slice_get, list_all, list_any, enumerate_from}
use Rattle.std.proofs.lemmas.Bool.{cases_lt}
use Rattle.std.proofs.lemmas.Bool.Decides.{nat_tests}
use Rattle.meaning.specs.Texts.{flat, first_of_list}
use Rattle.meaning.specs.Documents.{Document, Json, document_of, as_table, list_at}
use Rattle.meaning.specs.CaseFiles.{Row, CaseNode, CaseSystem, Finding, CaseDocument}
use Rattle.meaning.specs.CaseReading.{CaseFault, Part, Table, Systems, Nodes, Valid, Relations, Broken, Is, read_case, read_document, read_table_document, unless_broken, form_faults, faults_within, case_document_of, row_of, same_row, row_fits, row_document_fits, is_triple, table_faults, id_faults, end_faults, word_faults, limit_faults, faults_at, failing, system_fits, node_fits, is_id, finding_ids, unless, variable_after, no_case}
use Rattle.meaning.specs.TableOrder.{conditions_of, conditions_of_finding}
use Rattle.meaning.proofs.CutTrees.{Each}
use Rattle.meaning.proofs.EmptyLists.{both_true}
use Rattle.meaning.proofs.EachMembers.{each_by}
use Rattle.meaning.proofs.Lists.{each_append, map_nothing}
use Rattle.meaning.proofs.Pairs.{each_of_map, each_of_flat}
use Rattle.meaning.proofs.EqualityTests.{same_number, none_is_some, some_is, not_both}
use Rattle.meaning.proofs.ReducedTables.{IsReduced, Fits, IsWithin}

-- ---- lists without a fault

pub nothing_left : {A : Type 0} (xs ys : List A) → xs ++ ys ≡ [] → (xs ≡ []) × (ys ≡ [])
nothing_left [] ys e = (refl, e)
nothing_left (x ∷ xs) ys e = cc

pub no_first : {A : Type 0} (xs : List A) → first_of_list xs ≡ None → xs ≡ []
no_first [] e = refl
no_first (x ∷ xs) e = cc

-- no item of a list that keeps none but those that fail a test fails it
none_fails : {A : Type 0} (test : ℕ × A → Bool) (xs : List (ℕ × A)) → map (λ x. x.0) (filter (λ x. not (test x)) xs) ≡ [] → Each (λ x. test x ≡ true) xs
none_fails test [] e = tt
none_fails {A = A} test (x ∷ xs) e = go (test x) refl e (none_fails test xs)
  where
    no_item : {a : ℕ} {rest : List ℕ} → a ∷ rest ≡ [] → ⊥
    no_item f = cc

    go : (b : Bool) → test x ≡ b → map (λ x. x.0) (cond (not b) (x ∷ filter (λ x. not (test x)) xs) (filter (λ x. not (test x)) xs)) ≡ []
        → (map (λ x. x.0) (filter (λ x. not (test x)) xs) ≡ [] → Each (λ x. test x ≡ true) xs) → Each (λ x. test x ≡ true) (x ∷ xs)
    go true f g later = (f, later g)
    go false f g later = elim (no_item g) [ ]

pub each_numbered : {A : Type 0} (P : A → Type 0) (k : ℕ) (xs : List A) → Each (λ x. P x.1) (enumerate_from k xs) → Each P xs
each_numbered P k [] h = tt
each_numbered P k (x ∷ xs) h = (h.0, each_numbered P (k + 1) xs h.1)

none_failing : {A : Type 0} (test : A → Bool) (xs : List A) → failing test xs ≡ [] → Each (λ x. test x ≡ true) xs
none_failing test xs e = each_numbered (λ x. test x ≡ true) 0 xs (none_fails (λ x. test x.1) (enumerate_from 0 xs) e)

no_faults : (n : ℕ) (part : Part) (items : List ℕ) → faults_at n part items ≡ [] → items ≡ []
no_faults n part items e = map_nothing _ items e

each_all : {A : Type 0} (test : A → Bool) (xs : List A) → list_all test xs ≡ true → Each (λ x. test x ≡ true) xs
each_all test [] e = tt
each_all test (x ∷ xs) e = let both : (test x ≡ true) × (list_all test xs ≡ true) = both_true (test x) (list_all test xs) e in (both.0, each_all test xs both.1)

below : (a b : ℕ) → nat_lt a b ≡ true → a < b
below a b e = grind (arith, nat_tests)

-- ---- the conditions of a node and of a system

abbrev pub conditions_of_node : CaseNode → List ℕ
conditions_of_node n = n.presence ∷ (n.branches ++ conditions_of_finding n.finding)

abbrev pub conditions_of_system : CaseSystem → List ℕ
conditions_of_system s = s.reached ++ s.parents

-- ---- the document that a case is read from

pub record IsRead (k : CaseDocument) : Type 0 where
  pub source : Document
  pub is : case_document_of source ≡ k
  pub faults : faults_within source k ≡ []

pub case_is_read : (bytes : List ℕ) (k : CaseDocument) → read_case bytes ≡ Is k → IsRead k
unfolding read_case
case_is_read bytes k e = from (document_of Json bytes) e
  where
    broken_is : (f : CaseFault) → Broken f ≡ Is k → ⊥
    broken_is f g = cc

    is_is : (j : CaseDocument) → Is j ≡ Is k → j ≡ k
    is_is j g = cc

    read_back : (d : Document) (o : Option CaseFault) → first_of_list (form_faults d ++ faults_within d (case_document_of d)) ≡ o
        → unless_broken o (Is (case_document_of d)) ≡ Is k → IsRead k
    read_back d (Some f) g h = elim (broken_is f h) [ ]
    read_back d None g h = record {
      source = d;
      is = is_is (case_document_of d) h;
      faults = subst (λ j. faults_within d j ≡ []) (is_is (case_document_of d) h) (nothing_left (form_faults d) _ (no_first _ g)).1;
    }

    of_table : (d : Document) (b : Bool) → cond b (Broken no_case) (read_table_document d) ≡ Is k → IsRead k
    of_table d true g = elim (broken_is no_case g) [ ]
    of_table d false g = read_back d _ refl g

    from : (o : Option Document) → read_document o ≡ Is k → IsRead k
    from None g = elim (broken_is no_case g) [ ]
    from (Some d) g = of_table d (is_none (as_table d)) g

module _ (k : CaseDocument) (h : IsRead k) where
  record NoFaults : Type 0 where
    table : table_faults h.source k ≡ []
    identifiers : id_faults k ≡ []
    ends : end_faults k ≡ []

  no_fault : NoFaults
  no_fault =
      let all_but_limits = (nothing_left _ (limit_faults k) h.faults).0 in
      let to_systems = (nothing_left _ (faults_at 10 Nodes (failing (node_fits k) (list_at (codes "nodes") h.source))) all_but_limits).0 in
      let to_ends = nothing_left _ (end_faults k) (nothing_left _ (faults_at 9 Systems (failing system_fits k.systems)) to_systems).0 in
      let to_identifiers = nothing_left _ (id_faults k) (nothing_left _ (word_faults h.source) to_ends.0).0 in
      let to_table = nothing_left _ (table_faults h.source k) to_identifiers.0 in
      record { table = to_table.1; identifiers = to_identifiers.1; ends = to_ends.1 }

  -- ---- rows

  -- what the tests of a row say
  record Tested (r : ℕ) (row : Row) : Type 0 where
    variable : row.variable < length k.features
    low : row.low < r + 2
    high : row.high < r + 2
    low_later : row.variable < variable_after k.table (length k.features) row.low
    high_later : row.variable < variable_after k.table (length k.features) row.high
    differ : (row.low == row.high) ≡ false
    new : list_any (same_row row) (take r k.table) ≡ false

  tested : (r : ℕ) (row : Row) → row_fits k.table (length k.features) (r, row) ≡ true → Tested r row
  tested r row e =
      let f = both_true _ _ e in
      let g = both_true _ _ f.0 in
      let i = both_true _ _ g.0 in
      let j = both_true _ _ i.0 in
      let l = both_true _ _ j.0 in
      let m = both_true _ _ l.0 in
      record {
        variable = below _ _ m.0;
        low = below _ _ m.1;
        high = below _ _ l.1;
        low_later = below _ _ j.1;
        high_later = below _ _ i.1;
        differ = is_false _ g.1;
        new = is_false _ f.1;
      }
    where
      is_false : (b : Bool) → not b ≡ true → b ≡ false
      is_false false g = refl
      is_false true g = cc

  rows_of : k.table ≡ map row_of (list_at (codes "table") h.source)
  unfolding case_document_of
  rows_of = sym (ap (λ j. j.table) h.is)

  each_row_fits : Each (λ r. row_document_fits k r ≡ true) (enumerate_from 0 (list_at (codes "table") h.source))
  each_row_fits = none_fails (row_document_fits k) (enumerate_from 0 (list_at (codes "table") h.source)) (no_faults 5 Table _ no_fault.table)

  row_at : (from : ℕ) (ds : List Document) → Each (λ r. row_document_fits k r ≡ true) (enumerate_from from ds)
      → (r : ℕ) (row : Row) → slice_get (map row_of ds) r ≡ Some row → row_fits k.table (length k.features) (from + r, row) ≡ true
  row_at from [] e r row g = elim (none_is_some row g) [ ]
  row_at from (d ∷ ds) e zero row g =
      subst (λ x. row_fits k.table (length k.features) (from + 0, x) ≡ true) (some_is (row_of d) row g)
      (subst (λ n. row_fits k.table (length k.features) (n, row_of d) ≡ true) (omega arith) (both_true (is_triple d) _ e.0).1)
  row_at from (d ∷ ds) e (suc r) row g =
      subst (λ n. row_fits k.table (length k.features) (n, row) ≡ true) (omega arith) (row_at (from + 1) ds e.1 r row g)

  row_tested : (r : ℕ) (row : Row) → slice_get k.table r ≡ Some row → Tested r row
  row_tested r row e =
      tested r row
      (subst (λ n. row_fits k.table (length k.features) (n, row) ≡ true) (omega arith)
      (row_at 0 (list_at (codes "table") h.source) each_row_fits r row (subst (λ rows. slice_get rows r ≡ Some row) rows_of e)))

  same_itself : (row : Row) → same_row row row ≡ true
  same_itself row = rw (same_number row.variable row.variable refl, same_number row.low row.low refl, same_number row.high row.high refl) refl

  taken_before : (rows : List Row) (s r : ℕ) (row : Row) → s < r → slice_get rows s ≡ Some row → list_any (same_row row) (take r rows) ≡ true
  taken_before [] s r row l e = elim (none_is_some row e) [ ]
  taken_before (x ∷ rows) zero zero row l e = absurd (omega (arith, l))
  taken_before (x ∷ rows) zero (suc r) row l e = rw (ap (same_row row) (some_is x row e), same_itself row) refl
  taken_before (x ∷ rows) (suc s) zero row l e = absurd (omega (arith, l))
  taken_before (x ∷ rows) (suc s) (suc r) row l e = or_true (same_row row x) (taken_before rows s r row (omega (arith, l)) e)
    where
      or_true : (a : Bool) {b : Bool} → b ≡ true → (a || b) ≡ true
      or_true true g = refl
      or_true false g = g

  not_twice : (s r : ℕ) (row : Row) → s < r → slice_get k.table s ≡ Some row → slice_get k.table r ≡ Some row → ⊥
  not_twice s r row l e f = no_false (sym (taken_before k.table s r row l e) ∙ (row_tested r row f).new)
    where
      no_false : true ≡ false → ⊥
      no_false g = cc

  -- the table is reduced
  pub table_is_reduced : IsReduced (length k.features) k.table
  table_is_reduced = record { fits = fits; once = once }
    where
      fits : (r : ℕ) (row : Row) → slice_get k.table r ≡ Some row → Fits (length k.features) k.table r row
      fits r row e = record {
        variable = (row_tested r row e).variable;
        low = (row_tested r row e).low;
        high = (row_tested r row e).high;
        low_later = (row_tested r row e).low_later;
        high_later = (row_tested r row e).high_later;
        differ = λ g. not_both (row.low == row.high) (same_number row.low row.high g) (row_tested r row e).differ;
      }

      go : (r s : ℕ) (row : Row) → slice_get k.table r ≡ Some row → slice_get k.table s ≡ Some row → (r < s) ⊎ (s ≤ r) → (s < r) ⊎ (r ≤ s) → r ≡ s
      go r s row e f (inl l) _ = elim (not_twice r s row l e f) [ ]
      go r s row e f (inr l) (inl g) = elim (not_twice s r row g f e) [ ]
      go r s row e f (inr l) (inr g) = omega (arith, l, g)

      once : (r s : ℕ) (row : Row) → slice_get k.table r ≡ Some row → slice_get k.table s ≡ Some row → r ≡ s
      once r s row e f = go r s row e f (cases_lt r s) (cases_lt s r)

  -- ---- identifiers

  all_within : (ids : List ℕ) → list_all (is_id k) ids ≡ true → Each (IsWithin k.table) ids
  all_within ids e = each_by (λ id. is_id k id ≡ true) (IsWithin k.table) (λ id f. below id (length k.table + 2) f) ids (each_all (is_id k) ids e)

  record Identifiers : Type 0 where
    systems : Each (λ s. Each (IsWithin k.table) (conditions_of_system s)) k.systems
    nodes : Each (λ n. Each (IsWithin k.table) (conditions_of_node n)) k.nodes
    valid : IsWithin k.table k.valid
    relations : Each (λ r. IsWithin k.table r.presence) k.relations

  same_ids : (o : Option Finding) → finding_ids o ≡ conditions_of_finding o
  same_ids None = refl
  same_ids (Some f) = refl

  identifiers : Identifiers
  identifiers =
      let to_relations = nothing_left _ (faults_at 6 Relations (failing (λ r. is_id k r.presence) k.relations)) no_fault.identifiers in
      let to_valid = nothing_left _ (faults_at 6 Valid (unless (is_id k k.valid))) to_relations.0 in
      let to_nodes = nothing_left _ (faults_at 6 Nodes (failing (λ n. is_id k n.presence && list_all (is_id k) n.branches && list_all (is_id k) (finding_ids n.finding)) k.nodes)) to_valid.0 in
      record {
        systems = each_by _ _ system (k.systems) (none_failing _ k.systems (no_faults 6 Systems _ to_nodes.0));
        nodes = each_by _ _ node k.nodes (none_failing _ k.nodes (no_faults 6 Nodes _ to_nodes.1));
        valid = valid_within (is_id k k.valid) refl (no_faults 6 Valid _ to_valid.1);
        relations = each_by _ _ (λ r e. below r.presence (length k.table + 2) e) k.relations (none_failing (λ r. is_id k r.presence) k.relations (no_faults 6 Relations _ to_relations.1));
      }
    where
      system : (s : CaseSystem) → (list_all (is_id k) s.reached && list_all (is_id k) s.parents) ≡ true → Each (IsWithin k.table) (s.reached ++ s.parents)
      system s e = let both = both_true (list_all (is_id k) s.reached) (list_all (is_id k) s.parents) e in each_append _ s.reached s.parents (all_within s.reached both.0) (all_within s.parents both.1)

      node : (n : CaseNode) → (is_id k n.presence && list_all (is_id k) n.branches && list_all (is_id k) (finding_ids n.finding)) ≡ true
          → Each (IsWithin k.table) (n.presence ∷ (n.branches ++ conditions_of_finding n.finding))
      node n e =
          let both = both_true _ (list_all (is_id k) (finding_ids n.finding)) e in
          let first = both_true (is_id k n.presence) (list_all (is_id k) n.branches) both.0 in (
            below n.presence (length k.table + 2) first.0,
            each_append _ n.branches (conditions_of_finding n.finding) (all_within n.branches first.1)
                (subst (Each (IsWithin k.table)) (same_ids n.finding) (all_within (finding_ids n.finding) both.1)),
          )

      valid_within : (b : Bool) → is_id k k.valid ≡ b → unless b ≡ [] → IsWithin k.table k.valid
      valid_within true e f = below k.valid (length k.table + 2) e
      valid_within false e f = cc

  pub valid_is_there : IsWithin k.table k.valid
  valid_is_there = identifiers.valid

  pub conditions_are_there : Each (IsWithin k.table) (conditions_of k)
  conditions_are_there =
      each_append there (flat conditions_of_node k.nodes ++ map (λ r. r.presence) k.relations) (flat conditions_of_system k.systems)
      (each_append there (flat conditions_of_node k.nodes) (map (λ r. r.presence) k.relations)
      (each_of_flat there conditions_of_node k.nodes identifiers.nodes) (each_of_map there (λ r. r.presence) k.relations identifiers.relations))
      (each_of_flat there conditions_of_system k.systems identifiers.systems)
    where
      there : ℕ → Type 0
      there id = IsWithin k.table id

  -- ---- ends of relations

  pub ends_are_there : Each (λ r. (r.source < length k.nodes) × (r.target < length k.nodes)) k.relations
  ends_are_there =
      each_by _ _ (λ r e. (below r.source (length k.nodes) (both_true _ _ e).0, below r.target (length k.nodes) (both_true _ _ e).1)) k.relations
      (none_failing (λ r. nat_lt r.source (length k.nodes) && nat_lt r.target (length k.nodes)) k.relations (no_faults 8 Relations _ no_fault.ends))
