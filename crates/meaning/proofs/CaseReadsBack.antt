-- A case document without findings and systems that keeps its limits: its JSON reads back as the document.
use Rattle.std.proofs.Common.{◌≡◌, refl, sym, ap, ◌∙◌, subst, ℕ, suc, ◌+◌, ◌<◌, ◌≤◌, ◌^◌, List, [], ◌∷◌, map, length, Bool, true, false, not, ◌&&◌, ◌||◌, Option, Some, None, arith}
use Rattle.std.specs.Prelude.{codes, nat_lt, is_some, option_map, unwrap_or, if◌then◌else◌}
use Rattle.std.specs.List.{list_all, enumerate_from, filter}
use Rattle.std.proofs.lemmas.Bool.Decides.{nat_tests}
use Rattle.serde_json.specs.Data.{Data, string}
use Rattle.meaning.specs.Texts.{numbered, is_text}
use Rattle.meaning.specs.Documents.{Document, listed, items_of_json, of_json, as_natural, texts_in, list_at, member_of, text_at}
use Rattle.meaning.specs.Cases.{NodeKind, Goal, Strategy, Solution, Context, Assumption, Justification, RelationKind, SupportedBy, InContextOf, kind_word, argues, is_solution}
use Rattle.meaning.specs.CaseFiles.{Row, CasePart, words, count, CaseNode, CaseRelation, CaseSystem, CaseDocument, Finding}
use Rattle.meaning.specs.CaseBytes.{items_of, natural_data, part_data, row_data, node_data, relation_data, relation_word, case_data}
use Rattle.meaning.specs.CaseReading.{part_of, row_of, node_of, relation_of, kind_named, relation_named, naturals_in, case_document_of, failing, is_text_value, is_natural_value, is_zero_value, is_node, is_relation, is_triple, form_faults, bad_names, part_is_text, node_is_text, node_document_is_text, row_fits, row_document_fits, is_id, check_word_known, is_strategy, no_branches, expression_in, finding_fits, node_fits, past, finding_ids, faults_at, Nodes, Table, Relations, text_faults, table_faults, id_faults, word_faults, end_faults, limit_faults, faults_within, read_document, Is}
use Rattle.meaning.proofs.EmptyLists.{both_true, all_true}
use Rattle.meaning.proofs.CutTrees.{Each}

-- ---- lists

pub listed_items : {A : Type 0} (f : A → Data) (xs : List A) → listed (items_of_json (items_of (map f xs))) ≡ map (λ x. of_json (f x)) xs
listed_items f [] = refl
listed_items f (x ∷ xs) = ap (λ ds. of_json (f x) ∷ ds) (listed_items f xs)

-- what is read of each item is the item
pub each_back : {A B : Type 0} (f : A → B) (g : B → A) (xs : List A) → Each (λ x. g (f x) ≡ x) xs → map g (map f xs) ≡ xs
each_back f g [] h = refl
each_back f g (x ∷ xs) h = rw (h.0, each_back f g xs h.1) refl

pub each_passes : {A B : Type 0} (f : A → B) (test : B → Bool) (xs : List A) → Each (λ x. test (f x) ≡ true) xs → list_all test (map f xs) ≡ true
each_passes f test [] h = refl
each_passes f test (x ∷ xs) h = rw (h.0, each_passes f test xs h.1) refl

pub each_for : {A : Type 0} (P Q : A → Type 0) → ((x : A) → P x → Q x) → (xs : List A) → Each P xs → Each Q xs
each_for P Q f [] h = tt
each_for P Q f (x ∷ xs) h = (f x h.0, each_for P Q f xs h.1)

none_fails_from : {A : Type 0} (test : A → Bool) (k : ℕ) (xs : List A) → list_all test xs ≡ true
    → map (λ x. x.0) (filter (λ x. not (test x.1)) (enumerate_from k xs)) ≡ []
none_fails_from test k [] e = refl
none_fails_from test k (x ∷ xs) e =
    let parts = both_true (test x) (list_all test xs) e in rw parts.0 (none_fails_from test (k + 1) xs parts.1)

pub none_fails : {A : Type 0} (test : A → Bool) (xs : List A) → list_all test xs ≡ true → failing test xs ≡ []
none_fails test xs e = none_fails_from test 0 xs e

-- ---- numbers

below_32 : (n : ℕ) → n < 2 ^ 32 → nat_lt n (2 ^ 32) ≡ true
below_32 n l = grind (arith, nat_tests)

below_63 : (n : ℕ) → n < 2 ^ 32 → nat_lt n (2 ^ 63) ≡ true
below_63 n l = let m : n < 2 ^ 63 = omega (arith, l) in grind (arith, nat_tests)

pub natural_back : (n : ℕ) → n < 2 ^ 32 → as_natural (of_json (natural_data n)) ≡ Some n
natural_back n l = rw (below_63 n l, below_32 n l) refl

pub naturals_back : (ns : List ℕ) → Each (λ n. n < 2 ^ 32) ns → naturals_in (map (λ n. of_json (natural_data n)) ns) ≡ ns
naturals_back [] h = refl
naturals_back (n ∷ ns) h = rw (natural_back n h.0, naturals_back ns h.1) refl

-- ---- texts

pub texts_back : (ss : List (List ℕ)) → texts_in (map (λ s. of_json (string s)) ss) ≡ ss
texts_back [] = refl
texts_back (s ∷ ss) = ap (λ xs. s ∷ xs) (texts_back ss)

pub texts_are_texts : (ss : List (List ℕ)) → list_all is_text_value (map (λ s. of_json (string s)) ss) ≡ true
texts_are_texts [] = refl
texts_are_texts (s ∷ ss) = texts_are_texts ss

-- ---- a node

kind_back : (k : NodeKind) → kind_named (kind_word k) ≡ Some k
kind_back Goal = refl
kind_back Strategy = refl
kind_back Solution = refl
kind_back Context = refl
kind_back Assumption = refl
kind_back Justification = refl

parts_back : (ps : List CasePart) → map part_of (map (λ p. of_json (part_data p)) ps) ≡ ps
parts_back [] = refl
parts_back (words s ∷ ps) = ap (λ xs. words s ∷ xs) (parts_back ps)
parts_back (count ∷ ps) = ap (λ xs. count ∷ xs) (parts_back ps)

parts_have_form : (ps : List CasePart) → list_all (λ p. is_text_value p || is_zero_value p) (map (λ p. of_json (part_data p)) ps) ≡ true
parts_have_form [] = refl
parts_have_form (words s ∷ ps) = parts_have_form ps
parts_have_form (count ∷ ps) = parts_have_form ps

naturals_have_form : (ns : List ℕ) → Each (λ n. n < 2 ^ 32) ns → list_all is_natural_value (map (λ n. of_json (natural_data n)) ns) ≡ true
naturals_have_form [] h = refl
naturals_have_form (n ∷ ns) h = rw (natural_back n h.0, naturals_have_form ns h.1) refl

-- a node without a finding
abbrev plain_node : List ℕ → NodeKind → List CasePart → ℕ → Bool → List ℕ → CaseNode
plain_node key kind parts presence undeveloped branches =
    record { key = key; kind = kind; parts = parts; presence = presence; undeveloped = undeveloped; branches = branches; finding = None }

node_with_back : (key : List ℕ) (kind : NodeKind) (parts : List CasePart) (presence : ℕ) (undeveloped : Bool) (branches : List ℕ)
    → presence < 2 ^ 32 → Each (λ n. n < 2 ^ 32) branches
    → node_of (of_json (node_data (plain_node key kind parts presence undeveloped branches))) ≡ plain_node key kind parts presence undeveloped branches
node_with_back key kind parts presence true [] l h =
    rw (listed_items part_data parts, parts_back parts, kind_back kind, natural_back presence l) refl
node_with_back key kind parts presence false [] l h =
    rw (listed_items part_data parts, parts_back parts, kind_back kind, natural_back presence l) refl
node_with_back key kind parts presence true (b ∷ bs) l h =
    rw (listed_items part_data parts, parts_back parts, kind_back kind, natural_back presence l, listed_items natural_data bs, natural_back b h.0, naturals_back bs h.1) refl
node_with_back key kind parts presence false (b ∷ bs) l h =
    rw (listed_items part_data parts, parts_back parts, kind_back kind, natural_back presence l, listed_items natural_data bs, natural_back b h.0, naturals_back bs h.1) refl

node_with_form : (key : List ℕ) (kind : NodeKind) (parts : List CasePart) (presence : ℕ) (undeveloped : Bool) (branches : List ℕ)
    → presence < 2 ^ 32 → Each (λ n. n < 2 ^ 32) branches
    → is_node (of_json (node_data (plain_node key kind parts presence undeveloped branches))) ≡ true
node_with_form key kind parts presence true [] l h =
    rw (listed_items part_data parts, parts_have_form parts, natural_back presence l) refl
node_with_form key kind parts presence false [] l h =
    rw (listed_items part_data parts, parts_have_form parts, natural_back presence l) refl
node_with_form key kind parts presence true (b ∷ bs) l h =
    rw (listed_items part_data parts, parts_have_form parts, natural_back presence l, listed_items natural_data bs, natural_back b h.0, naturals_have_form bs h.1) refl
node_with_form key kind parts presence false (b ∷ bs) l h =
    rw (listed_items part_data parts, parts_have_form parts, natural_back presence l, listed_items natural_data bs, natural_back b h.0, naturals_have_form bs h.1) refl

-- ---- a relation and a row

relation_word_back : (k : RelationKind) → relation_named (relation_word k) ≡ Some k
relation_word_back SupportedBy = refl
relation_word_back InContextOf = refl

relation_back : (r : CaseRelation) → r.source < 2 ^ 32 → r.target < 2 ^ 32 → r.presence < 2 ^ 32 → relation_of (of_json (relation_data r)) ≡ r
relation_back r s t p = rw (natural_back r.source s, natural_back r.target t, natural_back r.presence p, relation_word_back r.kind) refl

relation_form : (r : CaseRelation) → r.source < 2 ^ 32 → r.target < 2 ^ 32 → r.presence < 2 ^ 32 → is_relation (of_json (relation_data r)) ≡ true
relation_form r s t p = rw (natural_back r.source s, natural_back r.target t, natural_back r.presence p) refl

row_back : (r : Row) → r.variable < 2 ^ 32 → r.low < 2 ^ 32 → r.high < 2 ^ 32 → row_of (of_json (row_data r)) ≡ r
row_back r s t p = rw (natural_back r.variable s, natural_back r.low t, natural_back r.high p) refl

row_form : (r : Row) → r.variable < 2 ^ 32 → r.low < 2 ^ 32 → r.high < 2 ^ 32 → is_triple (of_json (row_data r)) ≡ true
row_form r s t p = rw (natural_back r.variable s, natural_back r.low t, natural_back r.high p) refl

-- ---- what a document needs to read back

pub record IsReadableNode (k : CaseDocument) (n : CaseNode) : Type 0 where
  pub finding : n.finding ≡ None
  pub key : is_text n.key ≡ true
  pub parts : list_all part_is_text n.parts ≡ true
  pub presence : is_id k n.presence ≡ true
  pub branches : list_all (is_id k) n.branches ≡ true
  pub no_solution : is_solution n.kind ≡ false
  pub branching : (is_strategy n.kind || no_branches n.branches) ≡ true
  pub arguing : (argues n.kind || not n.undeveloped) ≡ true

pub record IsReadableRelation (k : CaseDocument) (r : CaseRelation) : Type 0 where
  pub source : nat_lt r.source (length k.nodes) ≡ true
  pub target : nat_lt r.target (length k.nodes) ≡ true
  pub presence : is_id k r.presence ≡ true

pub record IsReadable (k : CaseDocument) : Type 0 where
  pub systems : k.systems ≡ []
  pub title : is_text k.title ≡ true
  pub names : bad_names k.features ≡ []
  pub few_features : length k.features ≤ 256
  pub few_nodes : length k.nodes ≤ 32768
  pub few_relations : length k.relations ≤ 65536
  pub few_rows : length k.table + 2 ≤ 2 ^ 32
  pub valid : is_id k k.valid ≡ true
  pub nodes : Each (IsReadableNode k) k.nodes
  pub relations : Each (IsReadableRelation k) k.relations
  pub rows : list_all (row_fits k.table (length k.features)) (numbered k.table) ≡ true

-- a node without a finding, and what its JSON says of that and of its kind
without_finding : (n : CaseNode) → n.finding ≡ None → n ≡ plain_node n.key n.kind n.parts n.presence n.undeveloped n.branches
without_finding n e = ap (λ f. record { key = n.key; kind = n.kind; parts = n.parts; presence = n.presence; undeveloped = n.undeveloped; branches = n.branches; finding = f }) e

no_finding : (key : List ℕ) (kind : NodeKind) (parts : List CasePart) (presence : ℕ) (undeveloped : Bool) (branches : List ℕ)
    → (member_of (codes "finding") (of_json (node_data (plain_node key kind parts presence undeveloped branches))) ≡ None)
    × (text_at (codes "kind") (of_json (node_data (plain_node key kind parts presence undeveloped branches))) ≡ kind_word kind)
no_finding key kind parts presence true [] = (refl, refl)
no_finding key kind parts presence false [] = (refl, refl)
no_finding key kind parts presence true (b ∷ bs) = (refl, refl)
no_finding key kind parts presence false (b ∷ bs) = (refl, refl)

each_all : {A : Type 0} (test : A → Bool) (xs : List A) → Each (λ x. test x ≡ true) xs → list_all test xs ≡ true
each_all test [] h = refl
each_all test (x ∷ xs) h = rw (h.0, each_all test xs h.1) refl

none_fail_of : {A : Type 0} (test : ℕ × A → Bool) (xs : List (ℕ × A)) → list_all test xs ≡ true → map (λ x. x.0) (filter (λ x. not (test x)) xs) ≡ []
none_fail_of test [] e = refl
none_fail_of test (x ∷ xs) e =
    let parts = both_true (test x) (list_all test xs) e in rw parts.0 (none_fail_of test xs parts.1)

not_past : (limit n : ℕ) → n ≤ limit → past limit n ≡ []
not_past limit n l = ap (λ b. if b then limit ∷ [] else []) (not_less limit n l)
  where
    not_less : (limit n : ℕ) → n ≤ limit → nat_lt limit n ≡ false
    not_less limit n l = grind (arith, nat_tests)

-- ---- its numbers are small

lt_from : (n m : ℕ) → nat_lt n m ≡ true → n < m
lt_from n m e = grind (arith, nat_tests)

module _ (k : CaseDocument) (few : length k.table + 2 ≤ 2 ^ 32) where
  small_id : (n : ℕ) → is_id k n ≡ true → n < 2 ^ 32
  small_id n e = let l : n < length k.table + 2 = lt_from n (length k.table + 2) e in omega (arith, l, few)

  small_ids : (ns : List ℕ) → list_all (is_id k) ns ≡ true → Each (λ n. n < 2 ^ 32) ns
  small_ids [] e = tt
  small_ids (n ∷ ns) e = let parts = both_true (is_id k n) (list_all (is_id k) ns) e in (small_id n parts.0, small_ids ns parts.1)

abbrev IsSmallRow : Row → Type 0
IsSmallRow r = (r.variable < 2 ^ 32) × (r.low < 2 ^ 32) × (r.high < 2 ^ 32)

three_parts : (a b c d e f g : Bool) → (a && b && c && d && e && f && g) ≡ true → (a ≡ true) × (b ≡ true) × (c ≡ true)
three_parts true true true d e f g h = (refl, refl, refl)
three_parts true true false d e f g h = absurd (let n : false ≡ true = h in cc)
three_parts true false c d e f g h = absurd (let n : false ≡ true = h in cc)
three_parts false b c d e f g h = absurd (let n : false ≡ true = h in cc)

small_rows : (table : List Row) (features n i : ℕ) (rows : List Row) → features ≤ 256 → n + 2 ≤ 2 ^ 32 → i + length rows ≤ n
    → list_all (row_fits table features) (enumerate_from i rows) ≡ true → Each IsSmallRow rows
small_rows table features n i [] f m l e = tt
small_rows table features n i (r ∷ rs) f m l e =
    let parts = both_true (row_fits table features (i, r)) (list_all (row_fits table features) (enumerate_from (i + 1) rs)) e in
    let here = three_parts _ _ _ _ _ _ _ parts.0 in
    let v : r.variable < features = lt_from r.variable features here.0 in
    let low : r.low < i + 2 = lt_from r.low (i + 2) here.1 in
    let high : r.high < i + 2 = lt_from r.high (i + 2) here.2 in
    let at : i + suc (length rs) ≤ n = l in
    ((omega (arith, v, f), omega (arith, low, m, at), omega (arith, high, m, at)), small_rows table features n (i + 1) rs f m (omega (arith, at)) parts.1)

-- ---- the document

-- a case document without systems
abbrev plain_case : List ℕ → List (List ℕ) → ℕ → List CaseNode → List CaseRelation → List Row → CaseDocument
plain_case title features valid nodes relations table =
    record { title = title; features = features; valid = valid; nodes = nodes; relations = relations; systems = []; table = table }

module _ (title : List ℕ) (features : List (List ℕ)) (valid : ℕ) (nodes : List CaseNode) (relations : List CaseRelation) (table : List Row)
    (good : IsReadable (plain_case title features valid nodes relations table)) where
  abbrev case : CaseDocument
  case = plain_case title features valid nodes relations table

  abbrev json : Document
  json = of_json (case_data case)

  small_valid : valid < 2 ^ 32
  small_valid = small_id case good.few_rows valid good.valid

  -- of each node
  node_back : (n : CaseNode) → IsReadableNode case n → node_of (of_json (node_data n)) ≡ n
  node_back n h =
      ap (λ f. node_of (of_json (node_data (with_finding f)))) h.finding
      ∙ node_with_back n.key n.kind n.parts n.presence n.undeveloped n.branches (small_id case good.few_rows n.presence h.presence) (small_ids case good.few_rows n.branches h.branches)
      ∙ ap with_finding (sym h.finding)
    where
      with_finding : Option Finding → CaseNode
      with_finding f = record { key = n.key; kind = n.kind; parts = n.parts; presence = n.presence; undeveloped = n.undeveloped; branches = n.branches; finding = f }

  node_form : (n : CaseNode) → IsReadableNode case n → is_node (of_json (node_data n)) ≡ true
  node_form n h =
      ap (λ f. is_node (of_json (node_data (with_finding f)))) h.finding
      ∙ node_with_form n.key n.kind n.parts n.presence n.undeveloped n.branches (small_id case good.few_rows n.presence h.presence) (small_ids case good.few_rows n.branches h.branches)
    where
      with_finding : Option Finding → CaseNode
      with_finding f = record { key = n.key; kind = n.kind; parts = n.parts; presence = n.presence; undeveloped = n.undeveloped; branches = n.branches; finding = f }

  small_number : (n : ℕ) → nat_lt n (length nodes) ≡ true → n < 2 ^ 32
  small_number n e = let l : n < length nodes = lt_from n (length nodes) e in let f : length nodes ≤ 32768 = good.few_nodes in omega (arith, l, f)

  of_relation : (r : CaseRelation) → IsReadableRelation case r → (relation_of (of_json (relation_data r)) ≡ r) × (is_relation (of_json (relation_data r)) ≡ true)
  of_relation r h =
      let s = small_number r.source h.source in
      let t = small_number r.target h.target in
      let p = small_id case good.few_rows r.presence h.presence in
      (relation_back r s t p, relation_form r s t p)

  rows_small : Each IsSmallRow table
  rows_small = small_rows table (length features) (length table) 0 table good.few_features good.few_rows (omega arith) good.rows

  -- it is read as the case
  document_is : case_document_of json ≡ case
  unfolding case_document_of
  document_is =
      rw (
        listed_items string features,
        texts_back features,
        natural_back valid small_valid,
        listed_items node_data nodes,
        each_back (λ n. of_json (node_data n)) node_of nodes (each_for _ _ node_back nodes good.nodes),
        listed_items relation_data relations,
        each_back (λ r. of_json (relation_data r)) relation_of relations (each_for _ _ (λ r h. (of_relation r h).0) relations good.relations),
        listed_items row_data table,
        each_back (λ r. of_json (row_data r)) row_of table (each_for _ _ (λ r h. row_back r h.0 h.1 h.2) table rows_small),
      ) refl

  formed : form_faults json ≡ []
  formed =
      rw (
        listed_items string features,
        none_fails is_text_value (map (λ s. of_json (string s)) features) (texts_are_texts features),
        listed_items node_data nodes,
        none_fails is_node (map (λ n. of_json (node_data n)) nodes) (each_passes (λ n. of_json (node_data n)) is_node nodes (each_for _ _ node_form nodes good.nodes)),
        natural_back valid small_valid,
        listed_items relation_data relations,
        none_fails is_relation (map (λ r. of_json (relation_data r)) relations)
            (each_passes (λ r. of_json (relation_data r)) is_relation relations (each_for _ _ (λ r h. (of_relation r h).1) relations good.relations)),
      ) refl

  -- ---- no fault of its own

  word_of : (n : CaseNode) → IsReadableNode case n → (member_of (codes "finding") (of_json (node_data n)) ≡ None) × (text_at (codes "kind") (of_json (node_data n)) ≡ kind_word n.kind)
  word_of n h =
      subst (λ x. (member_of (codes "finding") (of_json (node_data x)) ≡ None) × (text_at (codes "kind") (of_json (node_data x)) ≡ kind_word x.kind))
      (sym (without_finding n h.finding)) (no_finding n.key n.kind n.parts n.presence n.undeveloped n.branches)

  node_is_right : (n : CaseNode) → IsReadableNode case n
      → (node_document_is_text (of_json (node_data n)) ≡ true) × (node_fits case (of_json (node_data n)) ≡ true)
      × ((is_some (kind_named (text_at (codes "kind") (of_json (node_data n)))) && check_word_known (of_json (node_data n))) ≡ true)
  node_is_right n h =
      let w = word_of n h in
      let b = node_back n h in (
        ap (λ x. node_is_text x && is_text (expression_in (of_json (node_data n)))) b
            ∙ ap (λ o. node_is_text n && is_text (unwrap_or (option_map (text_at (codes "expr")) o) [])) w.0
            ∙ rw (h.key, h.parts, h.finding) refl,
        ap (λ x. finding_fits case x.kind (member_of (codes "finding") (of_json (node_data n))) && (is_strategy x.kind || no_branches x.branches) && (argues x.kind || not x.undeveloped)) b
            ∙ ap (λ o. finding_fits case n.kind o && (is_strategy n.kind || no_branches n.branches) && (argues n.kind || not n.undeveloped)) w.0
            ∙ rw (h.no_solution, h.branching, h.arguing) refl,
        rw (w.1, kind_back n.kind, w.0) refl,
      )

  texts_are : text_faults json case ≡ []
  texts_are =
      rw (
        good.title,
        good.names,
        listed_items node_data nodes,
        none_fails node_document_is_text (map (λ n. of_json (node_data n)) nodes)
            (each_passes (λ n. of_json (node_data n)) node_document_is_text nodes (each_for _ _ (λ n h. (node_is_right n h).0) nodes good.nodes)),
      ) refl

  rows_fit : (i : ℕ) (rows : List Row) → Each IsSmallRow rows → list_all (row_fits table (length features)) (enumerate_from i rows) ≡ true
      → list_all (row_document_fits case) (enumerate_from i (map (λ r. of_json (row_data r)) rows)) ≡ true
  rows_fit i [] s e = refl
  rows_fit i (r ∷ rs) s e =
      let parts = both_true (row_fits table (length features) (i, r)) (list_all (row_fits table (length features)) (enumerate_from (i + 1) rs)) e in
      let here : row_document_fits case (i, of_json (row_data r)) ≡ true
      = ap (λ b. b && row_fits table (length features) (i, row_of (of_json (row_data r)))) (row_form r s.0.0 s.0.1 s.0.2)
      ∙ ap (λ x. row_fits table (length features) (i, x)) (row_back r s.0.0 s.0.1 s.0.2) ∙ parts.0 in
      all_true _ _ here (rows_fit (i + 1) rs s.1 parts.1)

  table_is : table_faults json case ≡ []
  table_is =
      ap (λ ds. faults_at 5 Table (map (λ r. r.0) (filter (λ r. not (row_document_fits case r)) (numbered ds)))) (listed_items row_data table)
      ∙ ap (faults_at 5 Table) (none_fail_of (row_document_fits case) (numbered (map (λ r. of_json (row_data r)) table)) (rows_fit 0 table rows_small good.rows))

  ids_are : id_faults case ≡ []
  ids_are =
      rw (
        none_fails (λ n. is_id case n.presence && list_all (is_id case) n.branches && list_all (is_id case) (finding_ids n.finding)) nodes
            (each_all (λ n. is_id case n.presence && list_all (is_id case) n.branches && list_all (is_id case) (finding_ids n.finding)) nodes (each_for _ _ node_ids nodes good.nodes)),
        good.valid,
        none_fails (λ r. is_id case r.presence) relations (each_all (λ r. is_id case r.presence) relations (each_for _ _ (λ r h. h.presence) relations good.relations)),
      ) refl
    where
      node_ids : (n : CaseNode) → IsReadableNode case n → (is_id case n.presence && list_all (is_id case) n.branches && list_all (is_id case) (finding_ids n.finding)) ≡ true
      node_ids n h = rw (h.presence, h.branches, h.finding) refl

  words_are : word_faults json ≡ []
  words_are =
      rw (
        listed_items node_data nodes,
        none_fails (λ n. is_some (kind_named (text_at (codes "kind") n)) && check_word_known n) (map (λ n. of_json (node_data n)) nodes)
            (each_passes (λ n. of_json (node_data n)) (λ n. is_some (kind_named (text_at (codes "kind") n)) && check_word_known n) nodes (each_for _ _ (λ n h. (node_is_right n h).2) nodes good.nodes)),
        listed_items relation_data relations,
        none_fails (λ r. is_some (relation_named (text_at (codes "kind") r))) (map (λ r. of_json (relation_data r)) relations)
            (each_passes (λ r. of_json (relation_data r)) (λ r. is_some (relation_named (text_at (codes "kind") r))) relations (each_for _ _ (λ r h. known r) relations good.relations)),
      ) refl
    where
      known : (r : CaseRelation) → is_some (relation_named (text_at (codes "kind") (of_json (relation_data r)))) ≡ true
      known r = ap is_some (relation_word_back r.kind)

  ends_are : end_faults case ≡ []
  ends_are =
      ap (faults_at 8 Relations) (none_fails (λ r. nat_lt r.source (length nodes) && nat_lt r.target (length nodes)) relations
      (each_all (λ r. nat_lt r.source (length nodes) && nat_lt r.target (length nodes)) relations
      (each_for _ _ (λ r h. all_true (nat_lt r.source (length nodes)) (nat_lt r.target (length nodes)) h.source h.target) relations good.relations)))

  nodes_fit : faults_at 10 Nodes (failing (node_fits case) (list_at (codes "nodes") json)) ≡ []
  nodes_fit =
      ap (λ ds. faults_at 10 Nodes (failing (node_fits case) ds)) (listed_items node_data nodes)
      ∙ ap (faults_at 10 Nodes) (none_fails (node_fits case) (map (λ n. of_json (node_data n)) nodes)
      (each_passes (λ n. of_json (node_data n)) (node_fits case) nodes (each_for _ _ (λ n h. (node_is_right n h).1) nodes good.nodes)))

  limits_are : limit_faults case ≡ []
  limits_are = rw (not_past 256 (length features) good.few_features, not_past 32768 (length nodes) good.few_nodes, not_past 65536 (length relations) good.few_relations) refl

  unbroken : faults_within json case ≡ []
  unbroken = rw (texts_are, table_is, ids_are, words_are, ends_are, nodes_fit, limits_are) refl

  plain_case_reads : read_document (Some (of_json (case_data case))) ≡ Is case
  plain_case_reads = rw (formed, document_is, unbroken) refl

-- the same of any case document
pub case_reads_back : (k : CaseDocument) → IsReadable k → read_document (Some (of_json (case_data k))) ≡ Is k
case_reads_back k good =
    let e : k ≡ plain_case k.title k.features k.valid k.nodes k.relations k.table = ap with_systems good.systems in
    subst (λ x. read_document (Some (of_json (case_data x))) ≡ Is x) (sym e)
    (plain_case_reads k.title k.features k.valid k.nodes k.relations k.table (subst IsReadable e good))
  where
    with_systems : List CaseSystem → CaseDocument
    with_systems s = record { title = k.title; features = k.features; valid = k.valid; nodes = k.nodes; relations = k.relations; systems = s; table = k.table }
