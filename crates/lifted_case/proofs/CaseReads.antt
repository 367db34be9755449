-- The JSON of a case document that keeps its rules reads back as the document.
use Rattle.std.proofs.Common.{◌≡◌, refl, ap, ◌∙◌, ℕ, suc, ◌+◌, ◌-◌, ◌≤◌, List, [], ◌∷◌, map, length, Bool, true, not, ◌&&◌, Some, arith}
use Rattle.std.specs.Prelude.{codes, nat_lt, is_some, if◌then◌else◌}
use Rattle.std.specs.List.{list_all, enumerate_from, filter, sum_by}
use Rattle.std.proofs.lemmas.Bool.{le-ltb}
use Rattle.std.proofs.lemmas.List.Sums.{sum_by-cons}
use Rattle.serde_json.specs.Data.{string}
use Rattle.meaning.specs.Texts.{numbered, is_text}
use Rattle.meaning.specs.Documents.{Document, of_json, list_at, text_at}
use Rattle.meaning.specs.CaseFiles.{Row, CaseNode, CaseRelation, CaseSystem, CaseDocument}
use Rattle.meaning.specs.CaseBytes.{row_data, node_data, relation_data, system_data, case_data}
use Rattle.meaning.specs.CaseReading.{row_of, node_of, relation_of, system_of, kind_named, relation_named, case_document_of, failing, is_text_value, is_node, is_relation, is_system, form_faults, bad_names, node_document_is_text, system_is_text, row_fits, row_document_fits, is_id, check_word_known, finding_ids, node_fits, system_fits, past, past_in_all, faults_at, Systems, Nodes, Table, Relations, text_faults, table_faults, id_faults, word_faults, end_faults, limit_faults, faults_within, read_document, Is}
use Rattle.meaning.proofs.EmptyLists.{both_true, all_true}
use Rattle.meaning.proofs.CutTrees.{Each}
use Rattle.meaning.proofs.CaseReadsBack.{listed_items, each_back, each_passes, each_for, none_fails, natural_back, texts_back, texts_are_texts}
use Rattle.lifted_case.proofs.FindingReads.{IsSmall, IsSmallSystem, IsSmallRelation, IsSmallRow, system_back, system_form, relation_back, relation_form, relation_word_back, row_back, row_form}
use Rattle.lifted_case.proofs.NodeReads.{IsSmallNode, NodeIsText, NodeFits, node_back, node_form, node_words, node_texts, node_fits-back}

-- ---- what a document needs to read back

pub record IsReadableNode (k : CaseDocument) (n : CaseNode) : Type 0 where
  pub small : IsSmallNode n
  pub text : NodeIsText n
  pub fits : NodeFits k n
  pub presence : is_id k n.presence ≡ true
  pub branches : list_all (is_id k) n.branches ≡ true
  pub finding : list_all (is_id k) (finding_ids n.finding) ≡ true

pub record IsReadableRelation (k : CaseDocument) (r : CaseRelation) : Type 0 where
  pub small : IsSmallRelation r
  pub source : nat_lt r.source (length k.nodes) ≡ true
  pub target : nat_lt r.target (length k.nodes) ≡ true
  pub presence : is_id k r.presence ≡ true

pub record IsReadableSystem (k : CaseDocument) (s : CaseSystem) : Type 0 where
  pub small : IsSmallSystem s
  pub text : system_is_text s ≡ true
  pub fits : system_fits s ≡ true
  pub reached : list_all (is_id k) s.reached ≡ true
  pub parents : list_all (is_id k) s.parents ≡ true

pub record IsReadable (k : CaseDocument) : Type 0 where
  pub title : is_text k.title ≡ true
  pub names : bad_names k.features ≡ []
  pub few_features : length k.features ≤ 256
  pub few_systems : length k.systems ≤ 256
  pub few_states : sum_by (λ s. length s.states) k.systems ≤ 4096
  pub few_transitions : sum_by (λ s. length s.transitions) k.systems ≤ 16384
  pub few_nodes : length k.nodes ≤ 32768
  pub few_relations : length k.relations ≤ 65536
  pub small_valid : IsSmall k.valid
  pub valid : is_id k k.valid ≡ true
  pub nodes : Each (IsReadableNode k) k.nodes
  pub relations : Each (IsReadableRelation k) k.relations
  pub systems : Each (IsReadableSystem k) k.systems
  pub small_rows : Each IsSmallRow k.table
  pub rows : list_all (row_fits k.table (length k.features)) (numbered k.table) ≡ true

-- ---- limits

not_past : (limit n : ℕ) → n ≤ limit → past limit n ≡ []
not_past limit n l = ap (λ b. if b then limit ∷ [] else []) (le-ltb limit n l)

not_past_in_all : {A : Type 0} (size : A → ℕ) (at room : ℕ) (xs : List A) → sum_by size xs ≤ room → past_in_all at room (map size xs) ≡ []
not_past_in_all size at room [] l = refl
not_past_in_all size at room (x ∷ xs) l =
    let all : sum_by size (x ∷ xs) ≡ size x + sum_by size xs = sum_by-cons size x xs in
    rw (le-ltb room (size x) (omega arith)) (not_past_in_all size (suc at) (room - size x) xs (omega arith))

-- ---- tests of all items

each_all : {A : Type 0} (test : A → Bool) (xs : List A) → Each (λ x. test x ≡ true) xs → list_all test xs ≡ true
each_all test [] h = refl
each_all test (x ∷ xs) h = rw (h.0, each_all test xs h.1) refl

none_fail_of : {A : Type 0} (test : ℕ × A → Bool) (xs : List (ℕ × A)) → list_all test xs ≡ true → map (λ x. x.0) (filter (λ x. not (test x)) xs) ≡ []
none_fail_of test [] e = refl
none_fail_of test (x ∷ xs) e =
    let parts = both_true (test x) (list_all test xs) e in rw parts.0 (none_fail_of test xs parts.1)

-- ---- the document

module _ (k : CaseDocument) (good : IsReadable k) where
  abbrev json : Document
  json = of_json (case_data k)

  -- it is read as the case
  document_is : case_document_of json ≡ k
  unfolding case_document_of
  document_is =
      rw (
        listed_items string k.features,
        texts_back k.features,
        natural_back k.valid good.small_valid,
        listed_items node_data k.nodes,
        each_back (λ n. of_json (node_data n)) node_of k.nodes (each_for _ _ (λ n h. node_back n h.small) k.nodes good.nodes),
        listed_items relation_data k.relations,
        each_back (λ r. of_json (relation_data r)) relation_of k.relations (each_for _ _ (λ r h. relation_back r h.small) k.relations good.relations),
        listed_items system_data k.systems,
        each_back (λ s. of_json (system_data s)) system_of k.systems (each_for _ _ (λ s h. system_back s h.small) k.systems good.systems),
        listed_items row_data k.table,
        each_back (λ r. of_json (row_data r)) row_of k.table (each_for _ _ row_back k.table good.small_rows),
      ) refl

  formed : form_faults json ≡ []
  formed =
      rw (
        listed_items string k.features,
        none_fails is_text_value (map (λ s. of_json (string s)) k.features) (texts_are_texts k.features),
        listed_items system_data k.systems,
        none_fails is_system (map (λ s. of_json (system_data s)) k.systems)
            (each_passes (λ s. of_json (system_data s)) is_system k.systems (each_for _ _ (λ s h. system_form s h.small) k.systems good.systems)),
        listed_items node_data k.nodes,
        none_fails is_node (map (λ n. of_json (node_data n)) k.nodes)
            (each_passes (λ n. of_json (node_data n)) is_node k.nodes (each_for _ _ (λ n h. node_form n h.small) k.nodes good.nodes)),
        natural_back k.valid good.small_valid,
        listed_items relation_data k.relations,
        none_fails is_relation (map (λ r. of_json (relation_data r)) k.relations)
            (each_passes (λ r. of_json (relation_data r)) is_relation k.relations (each_for _ _ (λ r h. relation_form r h.small) k.relations good.relations)),
      ) refl

  texts_are : text_faults json k ≡ []
  texts_are =
      rw (
        good.title,
        good.names,
        none_fails system_is_text k.systems (each_all system_is_text k.systems (each_for _ _ (λ s h. h.text) k.systems good.systems)),
        listed_items node_data k.nodes,
        none_fails node_document_is_text (map (λ n. of_json (node_data n)) k.nodes)
            (each_passes (λ n. of_json (node_data n)) node_document_is_text k.nodes (each_for _ _ (λ n h. node_texts n h.small h.text) k.nodes good.nodes)),
      ) refl

  rows_fit : (i : ℕ) (rows : List Row) → Each IsSmallRow rows → list_all (row_fits k.table (length k.features)) (enumerate_from i rows) ≡ true
      → list_all (row_document_fits k) (enumerate_from i (map (λ r. of_json (row_data r)) rows)) ≡ true
  rows_fit i [] s e = refl
  rows_fit i (r ∷ rs) s e =
      let parts = both_true (row_fits k.table (length k.features) (i, r)) (list_all (row_fits k.table (length k.features)) (enumerate_from (i + 1) rs)) e in
      let here : row_document_fits k (i, of_json (row_data r)) ≡ true
      = ap (λ b. b && row_fits k.table (length k.features) (i, row_of (of_json (row_data r)))) (row_form r s.0)
      ∙ ap (λ x. row_fits k.table (length k.features) (i, x)) (row_back r s.0) ∙ parts.0 in
      all_true _ _ here (rows_fit (i + 1) rs s.1 parts.1)

  table_is : table_faults json k ≡ []
  table_is =
      ap (λ ds. faults_at 5 Table (map (λ r. r.0) (filter (λ r. not (row_document_fits k r)) (numbered ds)))) (listed_items row_data k.table)
      ∙ ap (faults_at 5 Table) (none_fail_of (row_document_fits k) (numbered (map (λ r. of_json (row_data r)) k.table)) (rows_fit 0 k.table good.small_rows good.rows))

  ids_are : id_faults k ≡ []
  ids_are =
      rw (
        none_fails (λ s. list_all (is_id k) s.reached && list_all (is_id k) s.parents) k.systems
            (each_all (λ s. list_all (is_id k) s.reached && list_all (is_id k) s.parents) k.systems (each_for _ _ system_ids k.systems good.systems)),
        none_fails (λ n. is_id k n.presence && list_all (is_id k) n.branches && list_all (is_id k) (finding_ids n.finding)) k.nodes
            (each_all (λ n. is_id k n.presence && list_all (is_id k) n.branches && list_all (is_id k) (finding_ids n.finding)) k.nodes (each_for _ _ node_ids k.nodes good.nodes)),
        good.valid,
        none_fails (λ r. is_id k r.presence) k.relations (each_all (λ r. is_id k r.presence) k.relations (each_for _ _ (λ r h. h.presence) k.relations good.relations)),
      ) refl
    where
      node_ids : (n : CaseNode) → IsReadableNode k n → (is_id k n.presence && list_all (is_id k) n.branches && list_all (is_id k) (finding_ids n.finding)) ≡ true
      node_ids n h = rw (h.presence, h.branches, h.finding) refl

      system_ids : (s : CaseSystem) → IsReadableSystem k s → (list_all (is_id k) s.reached && list_all (is_id k) s.parents) ≡ true
      system_ids s h = rw (h.reached, h.parents) refl

  words_are : word_faults json ≡ []
  words_are =
      rw (
        listed_items node_data k.nodes,
        none_fails (λ n. is_some (kind_named (text_at (codes "kind") n)) && check_word_known n) (map (λ n. of_json (node_data n)) k.nodes)
            (each_passes (λ n. of_json (node_data n)) (λ n. is_some (kind_named (text_at (codes "kind") n)) && check_word_known n) k.nodes (each_for _ _ (λ n h. node_words n h.small) k.nodes good.nodes)),
        listed_items relation_data k.relations,
        none_fails (λ r. is_some (relation_named (text_at (codes "kind") r))) (map (λ r. of_json (relation_data r)) k.relations)
            (each_passes (λ r. of_json (relation_data r)) (λ r. is_some (relation_named (text_at (codes "kind") r))) k.relations (each_for _ _ (λ r h. known r) k.relations good.relations)),
      ) refl
    where
      known : (r : CaseRelation) → is_some (relation_named (text_at (codes "kind") (of_json (relation_data r)))) ≡ true
      known r = ap is_some (relation_word_back r.kind)

  ends_are : end_faults k ≡ []
  ends_are =
      ap (faults_at 8 Relations) (none_fails (λ r. nat_lt r.source (length k.nodes) && nat_lt r.target (length k.nodes)) k.relations
      (each_all (λ r. nat_lt r.source (length k.nodes) && nat_lt r.target (length k.nodes)) k.relations
      (each_for _ _ (λ r h. all_true (nat_lt r.source (length k.nodes)) (nat_lt r.target (length k.nodes)) h.source h.target) k.relations good.relations)))

  systems_fit : faults_at 9 Systems (failing system_fits k.systems) ≡ []
  systems_fit = ap (faults_at 9 Systems) (none_fails system_fits k.systems (each_all system_fits k.systems (each_for _ _ (λ s h. h.fits) k.systems good.systems)))

  nodes_fit : faults_at 10 Nodes (failing (node_fits k) (list_at (codes "nodes") json)) ≡ []
  nodes_fit =
      ap (λ ds. faults_at 10 Nodes (failing (node_fits k) ds)) (listed_items node_data k.nodes)
      ∙ ap (faults_at 10 Nodes) (none_fails (node_fits k) (map (λ n. of_json (node_data n)) k.nodes)
      (each_passes (λ n. of_json (node_data n)) (node_fits k) k.nodes (each_for _ _ (λ n h. node_fits-back k n h.small h.fits) k.nodes good.nodes)))

  limits_are : limit_faults k ≡ []
  limits_are =
      rw (
        not_past 256 (length k.features) good.few_features,
        not_past 256 (length k.systems) good.few_systems,
        not_past_in_all (λ s. length s.states) 0 4096 k.systems good.few_states,
        not_past_in_all (λ s. length s.transitions) 0 16384 k.systems good.few_transitions,
        not_past 32768 (length k.nodes) good.few_nodes,
        not_past 65536 (length k.relations) good.few_relations,
      ) refl

  unbroken : faults_within json k ≡ []
  unbroken = rw (texts_are, table_is, ids_are, words_are, ends_are, systems_fit, nodes_fit, limits_are) refl

  pub case_reads : read_document (Some (of_json (case_data k))) ≡ Is k
  case_reads = rw (formed, document_is, unbroken) refl
