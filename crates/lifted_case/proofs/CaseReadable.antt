-- The document of a case whose contents break no rule is readable.
use Rattle.std.proofs.Common.{◌≡◌, refl, sym, ap, ◌∙◌, subst, ℕ, zero, suc, ◌+◌, ◌<◌, ◌≤◌, List, [], ◌∷◌, ◌++◌, map, length, get_or, Bool, true, ◌&&◌, ◌||◌, Option, Some, None, option_map, arith}
use Rattle.std.specs.Prelude.{nat_lt, unwrap_or}
use Rattle.std.specs.List.{All, list_all, slice_get, sum_by}
use Rattle.std.proofs.lemmas.Bool.{lt-ltb, eq-eqb}
use Rattle.std.proofs.lemmas.List.{length-map}
use Rattle.std.proofs.lemmas.List.Elements.{All-head, All-tail}
use Rattle.std.proofs.lemmas.List.Sums.{sum_by-cons}
use Rattle.meaning.specs.Texts.{flat, numbered, is_text}
use Rattle.meaning.specs.Queries.{is_empty}
use Rattle.meaning.specs.Cases.{NodeKind}
use Rattle.meaning.specs.CaseFiles.{Row, CaseDocument}
use Rattle.meaning.specs.CaseReading.{is_id, finding_ids, states_of, is_strategy, no_branches, witnesses_are_texts, row_fits, read_document, read_case, Is}
use Rattle.meaning.specs.CaseBytes.{case_data, case_bytes}
use Rattle.meaning.specs.Documents.{Json, document_of, of_json}
use Rattle.meaning.proofs.EmptyLists.{both_true}
use Rattle.meaning.proofs.CutTrees.{Each}
use Rattle.meaning.proofs.CaseReadsBack.{each_for}
use Rattle.gsn.specs.View.{kind_of}
use Rattle.node_pool.specs.declared.node.NodeNo.{NodeNo}
use Rattle.node_pool.specs.Regions.{Region}
use Rattle.node_pool.specs.Nodes.{MayStand}
use Rattle.conditions.specs.Tables.{Contents, KeepsRules, node_of, nodes_of, case_row, case_rows}
use Rattle.lifted_case.specs.declared.lifted.Lifted.{Lifted}
use Rattle.lifted_case.specs.declared.lifted.LNode.{LNode}
use Rattle.lifted_case.specs.declared.lifted.LRel.{LRel}
use Rattle.lifted_case.specs.declared.lifted.LSystem.{LSystem}
use Rattle.lifted_case.specs.declared.lifted.LFinding.{LFinding}
use Rattle.lifted_case.specs.declared.lifted.LCheck.{LCheck}
use Rattle.lifted_case.specs.declared.lifted.LCheck.TheVariants as check
use Rattle.lifted_case.specs.CaseView.{check_of}
use Rattle.lifted_case.specs.CaseContents as contents
use Rattle.lifted_case.specs.CaseContents.{states_in, FindingKeepsRules, NodeKeepsRules, RelationKeepsRules, SystemKeepsRules, BreaksNoRule}
use Rattle.lifted_case.specs.CaseWritten.{conditions_of_finding, conditions_of_node, conditions_of_system, conditions_in, target_with, witness_with, finding_with, node_with, relation_with, system_with, document_with, Stands, IsWrittenFrom, most_bytes}
use Rattle.lifted_case.proofs.TableValues.{row_stands}
use Rattle.lifted_case.proofs.FindingReads.{IsSmall, IsSmallTarget, IsSmallWitness, IsSmallCheck, IsSmallFinding, PropertyIsText, SystemFits, CheckFits, IsSmallRow}
use Rattle.lifted_case.proofs.NodeReads.{MayBeSmall, FindingIsText, FindingBelongs}
use Rattle.lifted_case.proofs.RowsFit.{rows_fit}
use Rattle.lifted_case.proofs.CaseLength.{table_length}
use Rattle.lifted_case.proofs.CaseReads.{IsReadableNode, IsReadableRelation, IsReadableSystem, IsReadable, case_reads}

-- ---- lists

pub each_from_all : {A : Type 0} (P : A → Type 0) (xs : List A) → All P xs → Each P xs
each_from_all P [] h = tt
each_from_all P (x ∷ xs) h = (All-head P x xs h, each_from_all P xs (All-tail P x xs h))

pub each_split : {A : Type 0} (P : A → Type 0) (xs ys : List A) → Each P (xs ++ ys) → Each P xs × Each P ys
each_split P [] ys h = (tt, h)
each_split P (x ∷ xs) ys h = let rest = each_split P xs ys h.1 in ((h.0, rest.0), rest.1)

pub each_flat : {A B : Type 0} (P : B → Type 0) (f : A → List B) (xs : List A) → Each P (flat f xs) → Each (λ x. Each P (f x)) xs
each_flat P f [] h = tt
each_flat P f (x ∷ xs) h = let parts = each_split P (f x) (flat f xs) h in (parts.0, each_flat P f xs parts.1)

pub each_of_map : {A B : Type 0} (P : B → Type 0) (f : A → B) (xs : List A) → Each (λ x. P (f x)) xs → Each P (map f xs)
each_of_map P f [] h = tt
each_of_map P f (x ∷ xs) h = (h.0, each_of_map P f xs h.1)

pub each_in_map : {A B : Type 0} (P : B → Type 0) (f : A → B) (xs : List A) → Each P (map f xs) → Each (λ x. P (f x)) xs
each_in_map P f [] h = tt
each_in_map P f (x ∷ xs) h = (h.0, each_in_map P f xs h.1)

each_both : {A : Type 0} (P Q : A → Type 0) (xs : List A) → Each P xs → Each Q xs → Each (λ x. P x × Q x) xs
each_both P Q [] h g = tt
each_both P Q (x ∷ xs) h g = ((h.0, g.0), each_both P Q xs h.1 g.1)

each_from_places : {A : Type 0} (P : A → Type 0) (d : A) (xs : List A) → ((k : ℕ) → k < length xs → P (get_or xs k d)) → Each P xs
each_from_places P d [] h = tt
each_from_places P d (x ∷ xs) h = (h 0 (omega arith), each_from_places P d xs (λ k k_in. h (suc k) (omega arith)))

all_pass : {A B : Type 0} (test : B → Bool) (f : A → B) (xs : List A) → Each (λ x. test (f x) ≡ true) xs → list_all test (map f xs) ≡ true
all_pass test f [] h = refl
all_pass test f (x ∷ xs) h = rw (h.0, all_pass test f xs h.1) refl

all_pass_here : {A : Type 0} (test : A → Bool) (xs : List A) → Each (λ x. test x ≡ true) xs → list_all test xs ≡ true
all_pass_here test [] h = refl
all_pass_here test (x ∷ xs) h = rw (h.0, all_pass_here test xs h.1) refl

each_none : {A : Type 0} (P : A → Type 0) (xs : List A) → xs ≡ [] → Each P xs
each_none P xs e = subst (λ ys. Each P ys) (sym e) tt

-- each is no greater than the sum
each_le_sum : {A : Type 0} (size : A → ℕ) (most : ℕ) (xs : List A) → sum_by size xs ≤ most → Each (λ x. size x ≤ most) xs
each_le_sum size most [] l = tt
each_le_sum size most (x ∷ xs) l =
    let all : sum_by size (x ∷ xs) ≡ size x + sum_by size xs = sum_by-cons size x xs in
    (omega arith, each_le_sum size most xs (omega arith))

sum_of_map : {A B : Type 0} (size : B → ℕ) (f : A → B) (xs : List A) → sum_by size (map f xs) ≡ sum_by (λ x. size (f x)) xs
sum_of_map size f [] = refl
sum_of_map size f (x ∷ xs) =
    sum_by-cons size (f x) (map f xs) ∙ ap (λ n. size (f x) + n) (sum_of_map size f xs) ∙ sym (sum_by-cons (λ y. size (f y)) x xs)

-- ---- the states of a system

module _ {C : Type 0} where
  states_in-le : (most : ℕ) (systems : List (LSystem C)) (s : ℕ) → Each (λ x. length x.states ≤ most) systems → states_in systems s ≤ most
  states_in-le most [] s h = omega arith
  states_in-le most (x ∷ xs) zero h = h.0
  states_in-le most (x ∷ xs) (suc s) h = states_in-le most xs s h.1

  states_in-with : (id : C → ℕ) (systems : List (LSystem C)) (s : ℕ) → unwrap_or (option_map (λ x. length x.states) (slice_get (map (system_with id) systems) s)) 0 ≡ states_in systems s
  states_in-with id [] s = refl
  states_in-with id (x ∷ xs) zero = refl
  states_in-with id (x ∷ xs) (suc s) = states_in-with id xs s

-- ---- identifiers

module _ {C : Type 0} (id : C → ℕ) (rows : List Row) (case : Lifted C) (rules : BreaksNoRule case) (few : length rows ≤ 67108864) where
  abbrev doc : CaseDocument
  doc = document_with id rows case

  abbrev IsIn : C → Type 0
  IsIn c = id c < length rows + 2

  in_is_small : (c : C) → IsIn c → IsSmall (id c)
  in_is_small c h = omega arith

  in_is_id : (c : C) → IsIn c → is_id doc (id c) ≡ true
  in_is_id c h = lt-ltb (id c) (length rows + 2) h

  small_all : (cs : List C) → Each IsIn cs → Each IsSmall (map id cs)
  small_all cs h = each_of_map IsSmall id cs (each_for _ _ in_is_small cs h)

  ids_all : (cs : List C) → Each IsIn cs → list_all (is_id doc) (map id cs) ≡ true
  ids_all cs h = all_pass (is_id doc) id cs (each_for _ _ in_is_id cs h)

  few_states : Each (λ s. length s.states ≤ 4096) case.systems
  few_states = each_le_sum (λ s. length s.states) 4096 case.systems rules.few_states

  -- ---- findings

  target_states : (f : LFinding C) (c : LCheck) → FindingKeepsRules case.systems f c → Each (λ t. IsSmall t.0) f.targets
  target_states f (check.Never s p) h = each_for _ _ (λ t l. let most : states_in case.systems s ≤ 4096 = states_in-le 4096 case.systems s few_states in omega arith) f.targets (each_from_all (λ t. t.0 < states_in case.systems s) f.targets h.1.targets)
  target_states f (check.NoDeadlock s) h = each_for _ _ (λ t l. let most : states_in case.systems s ≤ 4096 = states_in-le 4096 case.systems s few_states in omega arith) f.targets (each_from_all (λ t. t.0 < states_in case.systems s) f.targets h.targets)
  target_states f check.NoAnswer h = each_none (λ t. IsSmall t.0) f.targets h.no_targets
  target_states f check.SomeAnswer h = each_none (λ t. IsSmall t.0) f.targets h.no_targets

  small_check : (f : LFinding C) (c : LCheck) → FindingKeepsRules case.systems f c → IsSmallCheck (finding_with id f) (check_of c)
  small_check f (check.Never s p) h = let l : s < length case.systems = h.1.system in let m : length case.systems ≤ 256 = rules.few_systems in (omega arith, ap (map (witness_with id)) h.1.no_witnesses)
  small_check f (check.NoDeadlock s) h = let l : s < length case.systems = h.system in let m : length case.systems ≤ 256 = rules.few_systems in (omega arith, ap (map (witness_with id)) h.no_witnesses)
  small_check f check.NoAnswer h = ap (map (target_with id)) h.no_targets
  small_check f check.SomeAnswer h = ap (map (target_with id)) h.no_targets

  small_finding : (f : LFinding C) → FindingKeepsRules case.systems f f.check → Each IsIn (f.refuted ∷ (map (λ t. t.1) f.targets ++ map (λ x. x.1) f.witnesses)) → IsSmallFinding (finding_with id f)
  small_finding f h ids =
      let parts = each_split IsIn (map (λ t. t.1) f.targets) (map (λ x. x.1) f.witnesses) ids.1 in
      let conditions = each_in_map IsIn (λ (t : ℕ × C). t.1) f.targets parts.0 in
      let others = each_in_map IsIn (λ (x : List (List ℕ) × C). x.1) f.witnesses parts.1 in
      record {
        refuted = in_is_small f.refuted ids.0;
        targets = each_of_map IsSmallTarget (target_with id) f.targets (each_for _ _ (λ t g. record { state = g.0; condition = in_is_small t.1 g.1 }) f.targets (each_both (λ t. IsSmall t.0) (λ t. IsIn t.1) f.targets (target_states f f.check h) conditions));
        witnesses = each_of_map IsSmallWitness (witness_with id) f.witnesses (each_for _ _ (λ x g. in_is_small x.1 g) f.witnesses others);
        check = small_check f f.check h;
      }

  no_names : (xs : List (List (List ℕ) × C)) → xs ≡ [] → list_all (λ x. list_all is_text x.0) (map (witness_with id) xs) ≡ true
  no_names xs e = ap (λ ys. list_all (λ x. list_all is_text x.0) (map (witness_with id) ys)) e

  all_names : (xs : List (List (List ℕ) × C)) → All (λ x. list_all is_text x.0 ≡ true) xs → list_all (λ x. list_all is_text x.0) (map (witness_with id) xs) ≡ true
  all_names xs h = all_pass (λ x. list_all is_text x.0) (witness_with id) xs (each_from_all (λ x. list_all is_text x.0 ≡ true) xs h)

  text_finding : (f : LFinding C) (c : LCheck) → FindingKeepsRules case.systems f c → PropertyIsText (check_of c) × (witnesses_are_texts (finding_with id f) ≡ true)
  text_finding f (check.Never s p) h = (h.0, no_names f.witnesses h.1.no_witnesses)
  text_finding f (check.NoDeadlock s) h = (tt, no_names f.witnesses h.no_witnesses)
  text_finding f check.NoAnswer h = (tt, all_names f.witnesses h.names)
  text_finding f check.SomeAnswer h = (tt, all_names f.witnesses h.names)

  fits_system : (f : LFinding C) (s : ℕ) → contents.IsOfSystem case.systems f s → SystemFits doc (finding_with id f) s
  fits_system f s h = record {
    system = lt-ltb s (length (map (system_with id) case.systems)) (let l : s < length case.systems = h.system in omega (arith, length-map case.systems (system_with id)));
    targets = each_of_map (λ t. nat_lt t.0 (states_of doc s) ≡ true) (target_with id) f.targets
        (each_for _ _ (λ t l. ap (nat_lt t.0) (states_in-with id case.systems s) ∙ lt-ltb t.0 (states_in case.systems s) l) f.targets (each_from_all (λ t. t.0 < states_in case.systems s) f.targets h.targets));
  }

  fits_check : (f : LFinding C) (c : LCheck) → FindingKeepsRules case.systems f c → CheckFits doc (finding_with id f) (check_of c)
  fits_check f (check.Never s p) h = fits_system f s h.1
  fits_check f (check.NoDeadlock s) h = fits_system f s h
  fits_check f check.NoAnswer h = tt
  fits_check f check.SomeAnswer h = tt

  -- ---- the finding of a node, if it has one

  module _ (kind : NodeKind) where
    may_be_small : (o : Option (LFinding C)) → contents.FindingBelongs case.systems kind o → Each IsIn (conditions_of_finding o) → MayBeSmall (option_map (finding_with id) o)
    may_be_small None h ids = tt
    may_be_small (Some f) h ids = small_finding f h.1 ids

    may_be_text : (o : Option (LFinding C)) → contents.FindingBelongs case.systems kind o → FindingIsText (option_map (finding_with id) o)
    may_be_text None h = tt
    may_be_text (Some f) h = text_finding f f.check h.1

    belongs : (o : Option (LFinding C)) → contents.FindingBelongs case.systems kind o → FindingBelongs doc kind (option_map (finding_with id) o)
    belongs None h = h
    belongs (Some f) h = (h.0, fits_check f f.check h.1)

  finding_ids_all : (o : Option (LFinding C)) → Each IsIn (conditions_of_finding o) → list_all (is_id doc) (finding_ids (option_map (finding_with id) o)) ≡ true
  finding_ids_all None ids = refl
  finding_ids_all (Some f) ids =
      let parts = each_split IsIn (map (λ t. t.1) f.targets) (map (λ x. x.1) f.witnesses) ids.1 in
      rw (in_is_id f.refuted ids.0) (both_pass (map (λ t. t.1) (map (target_with id) f.targets)) (map (λ x. x.1) (map (witness_with id) f.witnesses))
      (seconds f.targets (each_in_map IsIn (λ (t : ℕ × C). t.1) f.targets parts.0)) (seconds f.witnesses (each_in_map IsIn (λ (x : List (List ℕ) × C). x.1) f.witnesses parts.1)))
    where
      both_pass : (xs ys : List ℕ) → list_all (is_id doc) xs ≡ true → list_all (is_id doc) ys ≡ true → list_all (is_id doc) (xs ++ ys) ≡ true
      both_pass [] ys p q = q
      both_pass (x ∷ xs) ys p q =
          let parts = both_true (is_id doc x) (list_all (is_id doc) xs) p in
          rw (parts.0, both_pass xs ys parts.1 q) refl

      seconds : {A : Type 0} (ts : List (A × C)) → Each (λ t. IsIn t.1) ts → list_all (is_id doc) (map (λ (t : A × ℕ). t.1) (map (λ (t : A × C). (t.0, id t.1)) ts)) ≡ true
      seconds [] h = refl
      seconds (t ∷ ts) h = rw (in_is_id t.1 h.0, seconds ts h.1) refl

  -- ---- nodes

  no_branches-with : (bs : List C) → no_branches (map id bs) ≡ is_empty bs
  no_branches-with [] = refl
  no_branches-with (b ∷ bs) = refl

  readable_node : (n : LNode C) → NodeKeepsRules case.systems n → Each IsIn (conditions_of_node n) → IsReadableNode doc (node_with id n)
  readable_node n h ids =
      let parts = each_split IsIn n.branches (conditions_of_finding n.finding) ids.1 in
      record {
        small = record {
          presence = in_is_small n.when ids.0;
          branches = small_all n.branches parts.0;
          finding = may_be_small (kind_of n.kind) n.finding h.finding parts.1;
        };
        text = record { key = h.key; parts = h.words; finding = may_be_text (kind_of n.kind) n.finding h.finding };
        fits = record {
          branching = ap (λ b. is_strategy (kind_of n.kind) || b) (no_branches-with n.branches) ∙ h.branching;
          arguing = h.arguing;
          finding = belongs (kind_of n.kind) n.finding h.finding;
        };
        presence = in_is_id n.when ids.0;
        branches = ids_all n.branches parts.0;
        finding = finding_ids_all n.finding parts.1;
      }

  -- ---- relations and systems

  readable_relation : (r : LRel C) → RelationKeepsRules (length case.nodes) r → IsIn r.when → IsReadableRelation doc (relation_with id r)
  readable_relation r h ids =
      let source : r.from < length case.nodes = h.source in
      let target : r.to < length case.nodes = h.target in
      let few_nodes : length case.nodes ≤ 32768 = rules.few_nodes in
      let count : length (map (node_with id) case.nodes) ≡ length case.nodes = length-map case.nodes (node_with id) in
      record {
        small = record { source = omega arith; target = omega arith; presence = in_is_small r.when ids };
        source = lt-ltb r.from (length (map (node_with id) case.nodes)) (omega arith);
        target = lt-ltb r.to (length (map (node_with id) case.nodes)) (omega arith);
        presence = in_is_id r.when ids;
      }

  readable_system : (s : LSystem C) → SystemKeepsRules s → length s.states ≤ 4096 → Each IsIn (conditions_of_system s) → IsReadableSystem doc (system_with id s)
  readable_system s h most ids =
      let parts = each_split IsIn s.reached s.parents ids in
      let ends = each_from_all (λ t. (t.0 < length s.states) × (t.1 < length s.states)) s.transitions h.ends in
      record {
        small = record {
          reached = small_all s.reached parts.0;
          parents = small_all s.parents parts.1;
          transitions = each_for _ _ (λ t g. let a : t.0 < length s.states = g.0 in let b : t.1 < length s.states = g.1 in record { source = omega arith; target = omega arith }) s.transitions ends;
        };
        text = rw (h.element, h.states, h.actions) refl;
        fits = rw (
          eq-eqb (length (map id s.reached)) (length s.states) (length-map s.reached id ∙ h.each_state),
          eq-eqb (length (map id s.parents)) (length s.transitions) (length-map s.parents id ∙ h.each_transition),
          all_pass_here (λ t. nat_lt t.0 (length s.states) && nat_lt t.1 (length s.states)) s.transitions
              (each_for _ _ (λ t g. rw (lt-ltb t.0 (length s.states) g.0, lt-ltb t.1 (length s.states) g.1) refl) s.transitions ends),
        ) refl;
        reached = ids_all s.reached parts.0;
        parents = ids_all s.parents parts.1;
      }

  -- ---- the whole

  pub readable : Each IsIn (conditions_in case) → Each IsSmallRow rows → list_all (row_fits rows (length case.features)) (numbered rows) ≡ true → IsReadable doc
  readable ids small_rows rows_are =
      let first = each_split IsIn (flat conditions_of_node case.nodes ++ map (λ r. r.when) case.relations) (flat conditions_of_system case.systems) ids.1 in
      let second = each_split IsIn (flat conditions_of_node case.nodes) (map (λ r. r.when) case.relations) first.0 in
      let of_nodes = each_flat IsIn conditions_of_node case.nodes second.0 in
      let of_relations = each_in_map IsIn (λ (r : LRel C). r.when) case.relations second.1 in
      let of_systems = each_flat IsIn conditions_of_system case.systems first.1 in
      let node_rules = each_from_all (NodeKeepsRules case.systems) case.nodes rules.nodes in
      let relation_rules = each_from_all (RelationKeepsRules (length case.nodes)) case.relations rules.relations in
      let system_rules = each_from_all SystemKeepsRules case.systems rules.systems in
      record {
        title = rules.title;
        names = rules.names;
        few_features = rules.few_features;
        few_systems = let l : length case.systems ≤ 256 = rules.few_systems in omega (arith, length-map case.systems (system_with id));
        few_states = let l : sum_by (λ s. length s.states) case.systems ≤ 4096 = rules.few_states in omega (arith, sum_of_map (λ s. length s.states) (system_with id) case.systems);
        few_transitions = let l : sum_by (λ s. length s.transitions) case.systems ≤ 16384 = rules.few_transitions in omega (arith, sum_of_map (λ s. length s.transitions) (system_with id) case.systems);
        few_nodes = let l : length case.nodes ≤ 32768 = rules.few_nodes in omega (arith, length-map case.nodes (node_with id));
        few_relations = let l : length case.relations ≤ 65536 = rules.few_relations in omega (arith, length-map case.relations (relation_with id));
        small_valid = in_is_small case.valid ids.0;
        valid = in_is_id case.valid ids.0;
        nodes = each_of_map (IsReadableNode doc) (node_with id) case.nodes (each_for _ _ (λ n g. readable_node n g.0 g.1) case.nodes (each_both (NodeKeepsRules case.systems) (λ n. Each IsIn (conditions_of_node n)) case.nodes node_rules of_nodes));
        relations = each_of_map (IsReadableRelation doc) (relation_with id) case.relations (each_for _ _ (λ r g. readable_relation r g.0 g.1) case.relations (each_both (RelationKeepsRules (length case.nodes)) (λ r. IsIn r.when) case.relations relation_rules of_relations));
        systems = each_of_map (IsReadableSystem doc) (system_with id) case.systems
            (each_for _ _ (λ s g. readable_system s g.0.0 g.0.1 g.1) case.systems
            (each_both (λ s. SystemKeepsRules s × (length s.states ≤ 4096)) (λ s. Each IsIn (conditions_of_system s)) case.systems (each_both SystemKeepsRules (λ s. length s.states ≤ 4096) case.systems system_rules few_states) of_systems));
        small_rows = small_rows;
        rows = rows_are;
      }

-- ---- the rows of a table that keeps its rules are small

pub small_rows : (t : Contents) → KeepsRules t → t.features ≤ 256 → length t.rows ≤ 67108864 → Each IsSmallRow (case_rows t.rows)
small_rows t rules few_features few =
    each_of_map IsSmallRow case_row t.rows
    (each_from_places (λ r. IsSmallRow (case_row r)) (0, 0, 0) t.rows
    (λ k k_in.
    let s : MayStand t.features (nodes_of t.rows) (node_of (get_or t.rows k (0, 0, 0))) k = row_stands t.features t.rows k rules k_in in
    let variable : (get_or t.rows k (0, 0, 0)).0 < t.features = s.var_in in
    let low : (get_or t.rows k (0, 0, 0)).1 < k + 2 = s.low_in in
    let high : (get_or t.rows k (0, 0, 0)).2 < k + 2 = s.high_in in
    record { variable = omega arith; low = omega arith; high = omega arith }))

-- ---- what is written from a case

module _ (r : Region) (case : Lifted NodeNo) (k : CaseDocument) (rules : BreaksNoRule case) (w : IsWrittenFrom r case k) (few : length (case_bytes k) ≤ most_bytes) where
  table_is : k.table ≡ case_rows w.table.rows
  table_is = ap (λ (d : CaseDocument). d.table) w.document

  features_are : w.table.features ≡ length case.features
  features_are = w.variables ∙ ap (λ (d : CaseDocument). length d.features) w.document

  few_rows : length (case_rows w.table.rows) ≤ 67108864
  few_rows = omega (arith, table_length k, ap length table_is)

  ids_in : Each (λ c. w.identifier c < length (case_rows w.table.rows) + 2) (conditions_in case)
  ids_in =
      each_for (λ c. Stands r k c (w.identifier c)) (λ c. w.identifier c < length (case_rows w.table.rows) + 2) (λ c h. omega (arith, h.there, ap length table_is)) (conditions_in case)
      (each_from_all (λ c. Stands r k c (w.identifier c)) (conditions_in case) w.stands)

  written_is_readable : IsReadable k
  written_is_readable =
      let t : Contents = w.table in
      let small : Each IsSmallRow (case_rows t.rows) = small_rows t w.rules (omega (arith, features_are, rules.few_features)) (omega (arith, few_rows, length-map t.rows case_row)) in
      let fit : list_all (row_fits (case_rows t.rows) (length case.features)) (numbered (case_rows t.rows)) ≡ true =
      subst (λ n. list_all (row_fits (case_rows t.rows) n) (numbered (case_rows t.rows)) ≡ true) features_are (rows_fit t.features t.rows w.rules) in
      subst IsReadable (sym w.document) (readable w.identifier (case_rows t.rows) case rules few_rows ids_in small fit)

  pub written_reads : read_document (Some (of_json (case_data k))) ≡ Is k
  written_reads = case_reads k written_is_readable

  -- and so do its bytes
  pub bytes_read : (bytes : List ℕ) → document_of Json bytes ≡ Some (of_json (case_data k)) → read_case bytes ≡ Is k
  unfolding read_case
  bytes_read bytes e = ap read_document e ∙ written_reads
