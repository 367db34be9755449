-- A case that was read from a document without faults keeps the rules of cases.
use Rattle.std.proofs.Common.{◌≡◌, refl, sym, subst, ◌∙◌, ℕ, ◌+◌, ◌<◌, ◌≤◌, List, [], ◌∷◌, ◌++◌, map, length, get_or, arith}
use Rattle.std.specs.Prelude.{Bool, true, false, not, ◌&&◌, ◌==◌, cond, nat_lt, if◌then◌else◌, filter, Option, Some, None, option_map}
use Rattle.std.specs.List.{All, list_all, enumerate_from}
use Rattle.std.proofs.lemmas.Bool.Decides.{nat_tests}
use Rattle.std.proofs.lemmas.List.{length-map}
use Rattle.std.proofs.lemmas.List.Folds.{list_all-append}
use Rattle.std.proofs.lemmas.List.Elements.{All-nil, All-cons}
use Rattle.meaning.specs.BundlePlaces.{Part, Features, Systems, Nodes, Valid, Relations}
use Rattle.meaning.specs.CaseFiles.{CaseNode, CaseRelation, CaseSystem, CaseDocument}
use Rattle.meaning.specs.CaseReading.{faults_at, failing, unless, past, past_in_all, first_alone, is_id, finding_ids, id_faults, end_faults, system_fits, limit_faults}
use Rattle.lifted_case.specs.declared.lifted.LNode.{LNode}
use Rattle.lifted_case.specs.declared.lifted.LSystem.{LSystem}
use Rattle.lifted_case.specs.declared.lifted.LFinding.{LFinding}
use Rattle.lifted_case.specs.declared.lifted.ReadCase.{ReadCase}
use Rattle.conditions.specs.Tables.{case_row}
use Rattle.lifted_case.specs.CaseView.{case_document_of_read, case_node_of, case_relation_of, case_system_of, finding_of}
use Rattle.lifted_case.specs.CaseRules.{IsId, MayFit, NodeFits, KeepsCaseRules}

-- ---- lists of faults that are empty

pub append_none : {A : Type 0} (xs ys : List A) → xs ++ ys ≡ [] → (xs ≡ []) × (ys ≡ [])
append_none [] ys e = (refl, e)
append_none (x ∷ xs) ys e = cc

pub four_none : {A : Type 0} (a b c d : List A) → a ++ b ++ c ++ d ≡ [] → (a ≡ []) × (b ≡ []) × (c ≡ []) × (d ≡ [])
four_none a b c d e =
    let three = append_none (a ++ b ++ c) d e in
    let two = append_none (a ++ b) c three.0 in
    let one = append_none a b two.0 in
    (one.0, one.1, two.1, three.1)

pub items_none : (fault : ℕ) (part : Part) (items : List ℕ) → faults_at fault part items ≡ [] → items ≡ []
items_none fault part [] e = refl
items_none fault part (i ∷ is) e = cc

pub both_hold : (a b : Bool) → (a && b) ≡ true → (a ≡ true) × (b ≡ true)
both_hold true b e = (refl, e)
both_hold false b e = cc

none_fail_from : {A : Type 0} (test : A → Bool) (k : ℕ) (xs : List A) → map (λ x. x.0) (filter (λ x. not (test x.1)) (enumerate_from k xs)) ≡ [] → list_all test xs ≡ true
none_fail_from test k [] e = refl
none_fail_from test k (x ∷ xs) e = go (test x) refl (none_fail_from test (k + 1) xs) e
  where
    go : (b : Bool) → test x ≡ b → (map (λ y. y.0) (filter (λ y. not (test y.1)) (enumerate_from (k + 1) xs)) ≡ [] → list_all test xs ≡ true)
        → map (λ y. y.0) (cond (not b) ((k, x) ∷ filter (λ y. not (test y.1)) (enumerate_from (k + 1) xs)) (filter (λ y. not (test y.1)) (enumerate_from (k + 1) xs))) ≡ []
        → list_all test (x ∷ xs) ≡ true
    go true is later none = rw is (later none)
    go false is later none = cc

pub none_fails : {A : Type 0} (fault : ℕ) (part : Part) (test : A → Bool) (xs : List A) → faults_at fault part (failing test xs) ≡ [] → list_all test xs ≡ true
none_fails fault part test xs e = none_fail_from test 0 xs (items_none fault part (failing test xs) e)

pub within : (fault : ℕ) (part : Part) (limit n : ℕ) → faults_at fault part (past limit n) ≡ [] → n ≤ limit
within fault part limit n e = go (nat_lt limit n) refl (items_none fault part (past limit n) e)
  where
    go : (b : Bool) → nat_lt limit n ≡ b → (if b then limit ∷ [] else []) ≡ [] → n ≤ limit
    go true is none = cc
    go false is none = grind (arith, nat_tests)

pub holds_alone : (fault : ℕ) (part : Part) (b : Bool) → faults_at fault part (unless b) ≡ [] → b ≡ true
holds_alone fault part true e = refl
holds_alone fault part false e = cc

all_of : {A B : Type 0} (test : A → Bool) (P : B → Type 0) (view : B → A) → ((x : B) → test (view x) ≡ true → P x) → (xs : List B) → list_all test (map view xs) ≡ true → All P xs
all_of test P view holds [] e = All-nil P
all_of test P view holds (x ∷ xs) e =
    let parts = both_hold (test (view x)) (list_all test (map view xs)) e in
    All-cons P x xs (holds x parts.0) (all_of test P view holds xs parts.1)

pub all_held : {A : Type 0} (test : A → Bool) (P : A → Type 0) → ((x : A) → test x ≡ true → P x) → (xs : List A) → list_all test xs ≡ true → All P xs
all_held test P holds [] e = All-nil P
all_held test P holds (x ∷ xs) e =
    let parts = both_hold (test x) (list_all test xs) e in All-cons P x xs (holds x parts.0) (all_held test P holds xs parts.1)

pub less : (n m : ℕ) → nat_lt n m ≡ true → n < m
less n m e = grind (arith, nat_tests)

-- ---- the rules, where the table has so many rows

module _ (k : CaseDocument) (rows : ℕ) (many : length k.table ≡ rows) where
  id_of : (id : ℕ) → is_id k id ≡ true → IsId rows id
  id_of id e = subst (λ n. id < n + 2) many (less id (length k.table + 2) e)

  ids_of : (ids : List ℕ) → list_all (is_id k) ids ≡ true → All (IsId rows) ids
  ids_of ids e = all_held (is_id k) (IsId rows) id_of ids e

  finding_of_node : (f : Option (LFinding ℕ)) → list_all (is_id k) (finding_ids (option_map finding_of f)) ≡ true → MayFit rows f
  finding_of_node None e = tt
  finding_of_node (Some f) e =
      let parts = both_hold (is_id k f.refuted) (list_all (is_id k) (map (λ t. t.1) f.targets ++ map (λ x. x.1) f.witnesses)) e in
      let lists = both_hold (list_all (is_id k) (map (λ t. t.1) f.targets)) (list_all (is_id k) (map (λ x. x.1) f.witnesses))
      (sym (list_all-append (is_id k) (map (λ t. t.1) f.targets) (map (λ x. x.1) f.witnesses)) ∙ parts.1) in
      record {
        refuted = id_of f.refuted parts.0;
        targets = all_of (is_id k) (λ t. IsId rows t.1) (λ t. t.1) (λ t. id_of t.1) f.targets lists.0;
        witnesses = all_of (is_id k) (λ x. IsId rows x.1) (λ x. x.1) (λ x. id_of x.1) f.witnesses lists.1;
      }

  node_of_case : (n : LNode ℕ)
      → (is_id k (case_node_of n).presence && list_all (is_id k) (case_node_of n).branches && list_all (is_id k) (finding_ids (case_node_of n).finding)) ≡ true → NodeFits rows n
  node_of_case n e =
      let own = both_hold (is_id k n.when && list_all (is_id k) n.branches) (list_all (is_id k) (finding_ids (option_map finding_of n.finding))) e in
      let parts = both_hold (is_id k n.when) (list_all (is_id k) n.branches) own.0 in
      record { presence = id_of n.when parts.0; branches = ids_of n.branches parts.1; finding = finding_of_node n.finding own.1 }

record SystemIds (rows : ℕ) (s : LSystem ℕ) : Type 0 where
  reached : All (IsId rows) s.reached
  parents : All (IsId rows) s.parents

record SystemLists (s : LSystem ℕ) : Type 0 where
  each_state : length s.reached ≡ length s.states
  each_transition : length s.parents ≡ length s.transitions
  ends : All (λ t. (t.0 < length s.states) × (t.1 < length s.states)) s.transitions

equal_from : (n m : ℕ) → (n == m) ≡ true → n ≡ m
equal_from n m e = grind (arith, nat_tests)

lists_of : (s : LSystem ℕ) → system_fits (case_system_of s) ≡ true → SystemLists s
lists_of s e =
    let n = length s.states in
    let test = λ (t : ℕ × ℕ × List ℕ). nat_lt t.0 n && nat_lt t.1 n in
    let outer = both_hold ((length s.reached == n) && (length s.parents == length s.transitions)) (list_all test s.transitions) e in
    let inner = both_hold (length s.reached == n) (length s.parents == length s.transitions) outer.0 in
    record {
      each_state = equal_from (length s.reached) n inner.0;
      each_transition = equal_from (length s.parents) (length s.transitions) inner.1;
      ends = all_held test (λ t. (t.0 < n) × (t.1 < n)) (λ t h. let p = both_hold (nat_lt t.0 n) (nat_lt t.1 n) h in (less t.0 n p.0, less t.1 n p.1)) s.transitions outer.1;
    }

pub keeps_rules : (c : ReadCase) → id_faults (case_document_of_read c) ≡ [] → end_faults (case_document_of_read c) ≡ []
    → faults_at 9 Systems (failing system_fits (case_document_of_read c).systems) ≡ [] → limit_faults (case_document_of_read c) ≡ []
    → c.table.features ≡ length c.lifted.features → KeepsCaseRules c
keeps_rules c ids ends lists limits features =
    let k = case_document_of_read c in
    let rows = length c.table.rows in
    let many : length k.table ≡ rows = length-map c.table.rows case_row in
    let as_many_nodes : length k.nodes ≡ length c.lifted.nodes = length-map c.lifted.nodes case_node_of in
    let system_test = λ (s : CaseSystem). list_all (is_id k) s.reached && list_all (is_id k) s.parents in
    let node_test = λ (n : CaseNode). is_id k n.presence && list_all (is_id k) n.branches && list_all (is_id k) (finding_ids n.finding) in
    let relation_test = λ (r : CaseRelation). is_id k r.presence in
    let end_test = λ (r : CaseRelation). nat_lt r.source (length k.nodes) && nat_lt r.target (length k.nodes) in
    let no_ids = four_none (faults_at 6 Systems (failing system_test k.systems)) (faults_at 6 Nodes (failing node_test k.nodes))
    (faults_at 6 Valid (unless (is_id k k.valid))) (faults_at 6 Relations (failing relation_test k.relations)) ids in
    let no_limits = four_none (faults_at 11 Features (past 256 (length k.features)))
    (faults_at 11 Systems (first_alone (past 256 (length k.systems) ++ past_in_all 0 4096 (map (λ s. length s.states) k.systems)
    ++ past_in_all 0 16384 (map (λ s. length s.transitions) k.systems))))
    (faults_at 11 Nodes (past 32768 (length k.nodes))) (faults_at 11 Relations (past 65536 (length k.relations))) limits in
    let system_ids : All (SystemIds rows) c.lifted.systems
    = all_of system_test (SystemIds rows) case_system_of
    (λ s h. let p = both_hold (list_all (is_id k) s.reached) (list_all (is_id k) s.parents) h in record { reached = ids_of k rows many s.reached p.0; parents = ids_of k rows many s.parents p.1 })
    c.lifted.systems (none_fails 6 Systems system_test k.systems no_ids.0) in
    let system_lists : All SystemLists c.lifted.systems
    = all_of system_fits SystemLists case_system_of lists_of c.lifted.systems (none_fails 9 Systems system_fits k.systems lists) in
    let relation_ids : All (λ r. IsId rows r.when) c.lifted.relations
    = all_of relation_test (λ r. IsId rows r.when) case_relation_of (λ r. id_of k rows many r.when) c.lifted.relations (none_fails 6 Relations relation_test k.relations no_ids.3) in
    let relation_ends : All (λ r. (r.from < length k.nodes) × (r.to < length k.nodes)) c.lifted.relations
    = all_of end_test (λ r. (r.from < length k.nodes) × (r.to < length k.nodes)) case_relation_of
    (λ r h. let p = both_hold (nat_lt r.from (length k.nodes)) (nat_lt r.to (length k.nodes)) h in (less r.from (length k.nodes) p.0, less r.to (length k.nodes) p.1))
    c.lifted.relations (none_fails 8 Relations end_test k.relations ends) in
    record {
      few_features = within 11 Features 256 (length k.features) no_limits.0;
      table_features = features;
      few_nodes = subst (λ n. n ≤ 32768) as_many_nodes (within 11 Nodes 32768 (length k.nodes) no_limits.2);
      few_relations = subst (λ n. n ≤ 65536) (length-map c.lifted.relations case_relation_of) (within 11 Relations 65536 (length k.relations) no_limits.3);
      valid = id_of k rows many c.lifted.valid (holds_alone 6 Valid (is_id k k.valid) no_ids.2);
      nodes = all_of node_test (NodeFits rows) case_node_of (node_of_case k rows many) c.lifted.nodes (none_fails 6 Nodes node_test k.nodes no_ids.1);
      relations = λ i d l. record {
        presence = relation_ids i d l;
        source = subst (λ n. (get_or c.lifted.relations i d).from < n) as_many_nodes (relation_ends i d l).0;
        target = subst (λ n. (get_or c.lifted.relations i d).to < n) as_many_nodes (relation_ends i d l).1;
      };
      systems = λ i d l. record {
        reached = (system_ids i d l).reached;
        parents = (system_ids i d l).parents;
        each_state = (system_lists i d l).each_state;
        each_transition = (system_lists i d l).each_transition;
        ends = (system_lists i d l).ends;
      };
    }
