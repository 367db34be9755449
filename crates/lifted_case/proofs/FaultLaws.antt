-- The faults of a document, told over its own items as the code does, are those of the definitions.
use Rattle.std.proofs.Common.{◌≡◌, refl, sym, ap, ap₂, ◌∙◌, ℕ, suc, ◌+◌, List, [], ◌∷◌, ◌++◌, map, length, arith}
use Rattle.std.specs.Prelude.{Bool, true, false, not, ◌&&◌, ◌||◌, ◌==◌, cond, nat_lt, if◌then◌else◌, filter, bytes_eq, codes, Option, Some, None, option_map, option_and_then, unwrap_or, is_some, is_none}
use Rattle.std.specs.List.{list_all, enumerate_from, slice_get}
use Rattle.std.proofs.lemmas.Bool.Decides.{nat_tests}
use Rattle.std.proofs.lemmas.List.{length-map}
use Rattle.std.proofs.lemmas.List.Folds.{list_all-map, list_all-append}
use Rattle.std.proofs.lemmas.Option.{slice_get-map}
use Rattle.meaning.specs.Texts.{is_text}
use Rattle.meaning.specs.Documents.{Document, as_text, as_list, as_natural, member_of, text_at, list_at, natural_at, truth_at}
use Rattle.meaning.specs.BundlePlaces.{Document', Systems, Nodes, Valid, Table, Relations}
use Rattle.meaning.specs.Cases.{NodeKind, argues, is_solution}
use Rattle.meaning.specs.CaseFiles.{CaseCheck, Never, NoDeadlock, NoAnswer, SomeAnswer, CaseDocument}
use Rattle.meaning.specs.CaseReading as reading
use Rattle.meaning.specs.CaseReading.{faults_at, failing, unless, past, past_in_all, first_alone, case_document_of}
use Rattle.conditions.specs.TableRows.{bad_rows}
use Rattle.lifted_case.specs.ReadFaults.{witness_texts, system_texts, finding_texts, node_texts, name_faults_in, text_faults_in, id_below, finding_ids_below, node_ids_below, system_ids_below, id_faults_of, id_faults_in, ends_below, end_faults_in, lists_fit, system_faults_in, size_at, states_at, targets_fit, finding_members_fit, finding_of_kind_fits, kind_at, node_members_fit, finding_faults_in, limit_faults_in, version_faults_in, table_faults_in, faults_in}

-- ---- lists

failing_from : {A B : Type 0} (p : B → Bool) (f : A → B) (q : A → Bool) → ((x : A) → p (f x) ≡ q x) → (k : ℕ) (xs : List A)
    → map (λ x. x.0) (filter (λ x. not (p x.1)) (enumerate_from k (map f xs))) ≡ map (λ x. x.0) (filter (λ x. not (q x.1)) (enumerate_from k xs))
failing_from p f q same k [] = refl
failing_from p f q same k (x ∷ xs) = rw (same x) (go (q x) (failing_from p f q same (k + 1) xs))
  where
    go : (b : Bool) → map (λ y. y.0) (filter (λ y. not (p y.1)) (enumerate_from (k + 1) (map f xs))) ≡ map (λ y. y.0) (filter (λ y. not (q y.1)) (enumerate_from (k + 1) xs))
        → map (λ y. y.0) (cond (not b) ((k, f x) ∷ filter (λ y. not (p y.1)) (enumerate_from (k + 1) (map f xs))) (filter (λ y. not (p y.1)) (enumerate_from (k + 1) (map f xs))))
        ≡ map (λ y. y.0) (cond (not b) ((k, x) ∷ filter (λ y. not (q y.1)) (enumerate_from (k + 1) xs)) (filter (λ y. not (q y.1)) (enumerate_from (k + 1) xs)))
    go true later = later
    go false later = ap (λ ks. k ∷ ks) later

failing_mapped : {A B : Type 0} (p : B → Bool) (f : A → B) (q : A → Bool) → ((x : A) → p (f x) ≡ q x) → (xs : List A) → failing p (map f xs) ≡ failing q xs
failing_mapped p f q same xs = failing_from p f q same 0 xs

map_same : {A : Type 0} (xs : List A) → map (λ x. x) xs ≡ xs
map_same [] = refl
map_same (x ∷ xs) = ap (λ ys. x ∷ ys) (map_same xs)

failing_same : {A : Type 0} (p q : A → Bool) → ((x : A) → p x ≡ q x) → (xs : List A) → failing p xs ≡ failing q xs
failing_same p q same xs = sym (ap (failing p) (map_same xs)) ∙ failing_mapped p (λ x. x) q same xs

map_mapped : {A B C : Type 0} (f : B → C) (h : A → B) (g : A → C) → ((x : A) → f (h x) ≡ g x) → (xs : List A) → map f (map h xs) ≡ map g xs
map_mapped f h g same [] = refl
map_mapped f h g same (x ∷ xs) = ap₂ (λ y ys. y ∷ ys) (same x) (map_mapped f h g same xs)

and_assoc : (a b c : Bool) → (a && (b && c)) ≡ (a && b && c)
and_assoc true b c = refl
and_assoc false b c = refl

and_true : (a : Bool) → (a && true) ≡ a
and_true true = refl
and_true false = refl

-- ---- texts

system_texts_are : (d : Document) → reading.system_is_text (reading.system_of d) ≡ system_texts d
system_texts_are d =
    ap₂ (λ a b. is_text (text_at (codes "element") d) && a && b)
    (list_all-map is_text (λ x. unwrap_or (as_text x) []) (list_at (codes "states") d))
    (list_all-map (λ t. is_text t.2) reading.transition_of (list_at (codes "transitions") d))

witness_texts_are : (d : Document) → list_all is_text (reading.witness_of d).0 ≡ witness_texts d
witness_texts_are d = list_all-map is_text (λ x. unwrap_or (as_text x) []) (unwrap_or (option_and_then as_list (reading.nth 0 d)) [])

all_same : {A : Type 0} (p q : A → Bool) → ((x : A) → p x ≡ q x) → (xs : List A) → list_all p xs ≡ list_all q xs
all_same p q same [] = refl
all_same p q same (x ∷ xs) = ap₂ (λ a b. a && b) (same x) (all_same p q same xs)

witnesses_are : (d : Document) → reading.witnesses_are_texts (reading.finding_of d) ≡ list_all witness_texts (list_at (codes "witnesses") d)
witnesses_are d =
    list_all-map (λ x. list_all is_text x.0) reading.witness_of (list_at (codes "witnesses") d)
    ∙ all_same (λ x. list_all is_text (reading.witness_of x).0) witness_texts witness_texts_are (list_at (codes "witnesses") d)

node_texts_of : (own : Bool) (finding : Option Document)
    → (own && reading.finding_passes reading.witnesses_are_texts (option_map reading.finding_of finding) && is_text (unwrap_or (option_map (text_at (codes "expr")) finding) []))
    ≡ (own && reading.absent_or finding_texts finding)
node_texts_of own None = and_true (own && true)
node_texts_of own (Some f) =
    ap (λ b. own && b && is_text (text_at (codes "expr") f)) (witnesses_are f)
    ∙ sym (and_assoc own (list_all witness_texts (list_at (codes "witnesses") f)) (is_text (text_at (codes "expr") f)))

node_texts_are : (d : Document) → reading.node_document_is_text d ≡ node_texts d
node_texts_are d =
    ap (λ b. is_text (text_at (codes "key") d) && b && reading.finding_passes reading.witnesses_are_texts (option_map reading.finding_of (member_of (codes "finding") d)) && is_text (reading.expression_in d))
    (list_all-map reading.part_is_text reading.part_of (list_at (codes "text") d))
    ∙ node_texts_of (is_text (text_at (codes "key") d) && list_all (λ p. reading.part_is_text (reading.part_of p)) (list_at (codes "text") d)) (member_of (codes "finding") d)

text_faults_are : (d : Document) → reading.text_faults d (case_document_of d) ≡ text_faults_in d
unfolding case_document_of
text_faults_are d =
    ap₂ (λ s n. faults_at 4 Document' (unless (is_text (text_at (codes "title") d))) ++ name_faults_in d ++ faults_at 4 Systems s ++ faults_at 4 Nodes n)
    (failing_mapped reading.system_is_text reading.system_of system_texts system_texts_are (list_at (codes "systems") d))
    (failing_same reading.node_document_is_text node_texts node_texts_are (list_at (codes "nodes") d))

-- ---- the table

table_faults_are : (d : Document) → reading.table_faults d (case_document_of d) ≡ table_faults_in d
unfolding case_document_of
table_faults_are d =
    ap (λ n. faults_at 5 Table (bad_rows n (list_at (codes "table") d))) (length-map (list_at (codes "features") d) (λ x. unwrap_or (as_text x) []))

-- ---- identifiers, of which there are so many

module _ (ids : ℕ) where
  abbrev is_below : ℕ → Bool
  is_below id = nat_lt id ids

  below_in : (ds : List Document) → list_all is_below (reading.naturals_in ds) ≡ list_all (id_below ids) ds
  below_in ds = list_all-map is_below (λ x. unwrap_or (as_natural x) 0) ds

  system_ids_are : (d : Document)
      → (list_all is_below (reading.system_of d).reached && list_all is_below (reading.system_of d).parents) ≡ system_ids_below ids d
  system_ids_are d = ap₂ (λ a b. a && b) (below_in (list_at (codes "reached") d)) (below_in (list_at (codes "parents") d))

  second_below : {A : Type 0} (f : Document → A × ℕ) (ds : List Document)
      → list_all is_below (map (λ t. t.1) (map f ds)) ≡ list_all (λ t. nat_lt (f t).1 ids) ds
  second_below f ds = list_all-map is_below (λ t. t.1) (map f ds) ∙ list_all-map (λ t. nat_lt t.1 ids) f ds

  finding_ids_are : (finding : Option Document)
      → list_all is_below (reading.finding_ids (option_map reading.finding_of finding)) ≡ reading.absent_or (finding_ids_below ids) finding
  finding_ids_are None = refl
  finding_ids_are (Some f) =
      ap (λ b. is_below (natural_at (codes "refuted") f) && b)
      (list_all-append is_below (map (λ t. t.1) (map reading.target_of (list_at (codes "targets") f))) (map (λ x. x.1) (map reading.witness_of (list_at (codes "witnesses") f)))
      ∙ ap₂ (λ a b. a && b) (second_below reading.target_of (list_at (codes "targets") f)) (second_below reading.witness_of (list_at (codes "witnesses") f)))
      ∙ and_assoc (is_below (natural_at (codes "refuted") f)) (list_all (λ t. nat_lt (reading.target_of t).1 ids) (list_at (codes "targets") f))
      (list_all (λ x. nat_lt (reading.witness_of x).1 ids) (list_at (codes "witnesses") f))

  node_ids_are : (d : Document)
      → (is_below (reading.node_of d).presence && list_all is_below (reading.node_of d).branches && list_all is_below (reading.finding_ids (reading.node_of d).finding)) ≡ node_ids_below ids d
  node_ids_are d =
      ap₂ (λ a b. is_below (natural_at (codes "when") d) && a && b) (below_in (list_at (codes "branches") d)) (finding_ids_are (member_of (codes "finding") d))

  id_faults_of_are : (d : Document)
      → faults_at 6 Systems (failing (λ s. list_all is_below s.reached && list_all is_below s.parents) (map reading.system_of (list_at (codes "systems") d)))
      ++ faults_at 6 Nodes (failing (λ n. is_below n.presence && list_all is_below n.branches && list_all is_below (reading.finding_ids n.finding)) (map reading.node_of (list_at (codes "nodes") d)))
      ++ faults_at 6 Valid (unless (is_below (natural_at (codes "valid") d)))
      ++ faults_at 6 Relations (failing (λ r. is_below r.presence) (map reading.relation_of (list_at (codes "relations") d)))
      ≡ id_faults_of ids d
  id_faults_of_are d =
      rw (
        failing_mapped (λ s. list_all is_below s.reached && list_all is_below s.parents) reading.system_of (system_ids_below ids) system_ids_are (list_at (codes "systems") d),
        failing_mapped (λ n. is_below n.presence && list_all is_below n.branches && list_all is_below (reading.finding_ids n.finding)) reading.node_of (node_ids_below ids) node_ids_are
            (list_at (codes "nodes") d),
        failing_mapped (λ r. is_below r.presence) reading.relation_of (λ r. nat_lt (natural_at (codes "when") r) ids) (λ r. refl) (list_at (codes "relations") d),
      ) refl

pub id_faults_are : (d : Document) → reading.id_faults (case_document_of d) ≡ id_faults_in d
unfolding case_document_of
id_faults_are d =
    id_faults_of_are (length (map reading.row_of (list_at (codes "table") d)) + 2) d
    ∙ ap (λ n. id_faults_of (n + 2) d) (length-map (list_at (codes "table") d) reading.row_of)

-- ---- ends and systems

pub end_faults_are : (d : Document) → reading.end_faults (case_document_of d) ≡ end_faults_in d
unfolding case_document_of
end_faults_are d =
    let nodes = length (map reading.node_of (list_at (codes "nodes") d)) in
    ap (faults_at 8 Relations)
    (failing_mapped (λ r. nat_lt r.source nodes && nat_lt r.target nodes) reading.relation_of (ends_below nodes) (λ r. refl) (list_at (codes "relations") d))
    ∙ ap (λ n. faults_at 8 Relations (failing (ends_below n) (list_at (codes "relations") d))) (length-map (list_at (codes "nodes") d) reading.node_of)

lists_are : (d : Document) → reading.system_fits (reading.system_of d) ≡ lists_fit d
lists_are d =
    rw (
      length-map (list_at (codes "reached") d) (λ x. unwrap_or (as_natural x) 0),
      length-map (list_at (codes "states") d) (λ x. unwrap_or (as_text x) []),
      length-map (list_at (codes "parents") d) (λ x. unwrap_or (as_natural x) 0),
      length-map (list_at (codes "transitions") d) reading.transition_of,
      list_all-map (λ t. nat_lt t.0 (size_at (codes "states") d) && nat_lt t.1 (size_at (codes "states") d)) reading.transition_of (list_at (codes "transitions") d),
    ) refl

pub system_faults_are : (d : Document) → faults_at 9 Systems (failing reading.system_fits (case_document_of d).systems) ≡ system_faults_in d
unfolding case_document_of
system_faults_are d = ap (faults_at 9 Systems) (failing_mapped reading.system_fits reading.system_of lists_fit lists_are (list_at (codes "systems") d))

-- ---- findings

states_are_at : (systems : List Document) (s : ℕ)
    → unwrap_or (option_map (λ x. length x.states) (slice_get (map reading.system_of systems) s)) 0 ≡ states_at (map (size_at (codes "states")) systems) s
states_are_at systems s =
    ap (λ o. unwrap_or (option_map (λ x. length x.states) o) 0) (slice_get-map reading.system_of systems s) ∙ of_system (slice_get systems s)
    ∙ sym (ap (λ o. unwrap_or o 0) (slice_get-map (size_at (codes "states")) systems s))
  where
    of_system : (o : Option Document)
        → unwrap_or (option_map (λ x. length x.states) (option_map reading.system_of o)) 0 ≡ unwrap_or (option_map (size_at (codes "states")) o) 0
    of_system None = refl
    of_system (Some x) = length-map (list_at (codes "states") x) (λ y. unwrap_or (as_text y) [])

and_all : (a b c d e f : Bool) → (a && b && c && d && e && f) ≡ (a && (b && c && d && e && f))
and_all true b c d e f = refl
and_all false b c d e f = refl

no_branches_is : (ds : List Document) → reading.no_branches (reading.naturals_in ds) ≡ (length ds == 0)
no_branches_is [] = refl
no_branches_is (d ∷ ds) = let differs : (suc (length ds) == 0) ≡ false = grind (arith, nat_tests) in sym differs

module _ (k : CaseDocument) (systems : List Document) (same : k.systems ≡ map reading.system_of systems) where
  abbrev counts : List ℕ
  counts = map (size_at (codes "states")) systems

  as_many : length k.systems ≡ length counts
  as_many = ap length same ∙ (length-map systems reading.system_of ∙ sym (length-map systems (size_at (codes "states"))))

  states_are : (s : ℕ) → reading.states_of k s ≡ states_at counts s
  states_are s = ap (λ ss. unwrap_or (option_map (λ x. length x.states) (slice_get ss s)) 0) same ∙ states_are_at systems s

  -- the members about a system, behind whether there is an expression as the check wants it
  about_system : (expression : Bool) (f : Document)
      → (expression && is_some (member_of (codes "system") f) && is_some (member_of (codes "targets") f) && is_none (member_of (codes "witnesses") f)
      && nat_lt (natural_at (codes "system") f) (length k.systems)
      && list_all (λ t. nat_lt (reading.target_of t).0 (reading.states_of k (natural_at (codes "system") f))) (list_at (codes "targets") f))
      ≡ (expression && targets_fit counts f)
  about_system expression f =
      ap₂ (λ n m. expression && is_some (member_of (codes "system") f) && is_some (member_of (codes "targets") f) && is_none (member_of (codes "witnesses") f)
      && nat_lt (natural_at (codes "system") f) n && list_all (λ t. nat_lt (reading.target_of t).0 m) (list_at (codes "targets") f))
      as_many (states_are (natural_at (codes "system") f))
      ∙ and_all expression (is_some (member_of (codes "system") f)) (is_some (member_of (codes "targets") f)) (is_none (member_of (codes "witnesses") f))
      (nat_lt (natural_at (codes "system") f) (length counts))
      (list_all (λ t. nat_lt (reading.target_of t).0 (states_at counts (natural_at (codes "system") f))) (list_at (codes "targets") f))

  abbrev check_of : Document → List ℕ → Bool → Bool → Bool → Bool → CaseCheck
  check_of f e never deadlock none some =
      unwrap_or (if never then Some (Never (natural_at (codes "system") f) e) else (if deadlock then Some (NoDeadlock (natural_at (codes "system") f))
      else (if none then Some NoAnswer else (if some then Some SomeAnswer else None)))) NoAnswer

  members_of_check : (f : Document) (e : List ℕ) (never deadlock none some : Bool)
      → reading.members_fit k f (check_of f e never deadlock none some) ≡ finding_members_fit counts f (check_of f e never deadlock none some)
  members_of_check f e true deadlock none some = about_system (is_some (member_of (codes "expr") f)) f
  members_of_check f e false true none some = about_system (is_none (member_of (codes "expr") f)) f
  members_of_check f e false false true some = refl
  members_of_check f e false false false true = refl
  members_of_check f e false false false false = refl

  members_are : (f : Document) → reading.members_fit k f (reading.finding_of f).check ≡ finding_members_fit counts f (reading.finding_of f).check
  members_are f =
      let word = text_at (codes "check") f in
      members_of_check f (text_at (codes "expr") f) (bytes_eq word (codes "never")) (bytes_eq word (codes "deadlock")) (bytes_eq word (codes "none")) (bytes_eq word (codes "some"))

  finding_is : (kind : NodeKind) (finding : Option Document) → reading.finding_fits k kind finding ≡ finding_of_kind_fits counts kind finding
  finding_is kind None = refl
  finding_is kind (Some f) = ap (λ b. is_solution kind && b) (members_are f)

  node_members_are : (d : Document) → reading.node_fits k d ≡ node_members_fit counts d
  node_members_are d =
      ap₂ (λ a b. a && (reading.is_strategy (kind_at d) || b) && (argues (kind_at d) || not (truth_at (codes "undeveloped") d)))
      (finding_is (kind_at d) (member_of (codes "finding") d)) (no_branches_is (list_at (codes "branches") d))

systems_of : (d : Document) → (case_document_of d).systems ≡ map reading.system_of (list_at (codes "systems") d)
unfolding case_document_of
systems_of d = refl

finding_faults_are : (d : Document) → faults_at 10 Nodes (failing (reading.node_fits (case_document_of d)) (list_at (codes "nodes") d)) ≡ finding_faults_in d
finding_faults_are d =
    ap (faults_at 10 Nodes)
    (failing_same (reading.node_fits (case_document_of d)) (node_members_fit (map (size_at (codes "states")) (list_at (codes "systems") d)))
    (node_members_are (case_document_of d) (list_at (codes "systems") d) (systems_of d)) (list_at (codes "nodes") d))

-- ---- limits

pub limit_faults_are : (d : Document) → reading.limit_faults (case_document_of d) ≡ limit_faults_in d
unfolding case_document_of
limit_faults_are d =
    rw (
      length-map (list_at (codes "features") d) (λ x. unwrap_or (as_text x) []),
      length-map (list_at (codes "systems") d) reading.system_of,
      map_mapped (λ s. length s.states) reading.system_of (size_at (codes "states")) (λ s. length-map (list_at (codes "states") s) (λ x. unwrap_or (as_text x) [])) (list_at (codes "systems") d),
      map_mapped (λ s. length s.transitions) reading.system_of (size_at (codes "transitions")) (λ s. length-map (list_at (codes "transitions") s) reading.transition_of) (list_at (codes "systems") d),
      length-map (list_at (codes "nodes") d) reading.node_of,
      length-map (list_at (codes "relations") d) reading.relation_of,
    ) refl

-- ---- all

joined : (form version words : List reading.CaseFault) (a b c d e f g a' b' c' d' e' f' g' : List reading.CaseFault)
    → a ≡ a' → b ≡ b' → c ≡ c' → d ≡ d' → e ≡ e' → f ≡ f' → g ≡ g'
    → form ++ (version ++ a ++ b ++ c ++ words ++ d ++ e ++ f ++ g) ≡ form ++ (version ++ a' ++ b' ++ c' ++ words ++ d' ++ e' ++ f' ++ g')
joined form version words a b c d e f g a' b' c' d' e' f' g' ha hb hc hd he hf hg = cc

pub faults_are : (d : Document) → reading.form_faults d ++ reading.faults_within d (case_document_of d) ≡ faults_in d
faults_are d =
    joined (reading.form_faults d) (version_faults_in d) (reading.word_faults d) _ _ _ _ _ _ _ _ _ _ _ _ _ _
    (text_faults_are d) (table_faults_are d) (id_faults_are d) (end_faults_are d) (system_faults_are d) (finding_faults_are d) (limit_faults_are d)
