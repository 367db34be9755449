-- The numbers of states and systems in a document without faults fit into 16 bits.
use Rattle.std.proofs.Common.{◌≡◌, refl, sym, subst, ℕ, zero, suc, ◌-◌, ◌≤◌, List, [], ◌∷◌, ◌++◌, map, length, arith}
use Rattle.std.specs.Prelude.{Bool, true, false, not, ◌&&◌, ◌||◌, ◌==◌, nat_lt, if◌then◌else◌, Option, Some, None, IfSome, is_some, is_none, option_and_then, unwrap_or, codes}
use Rattle.std.specs.List.{All, AllByRecursion, list_all, slice_get}
use Rattle.std.proofs.lemmas.Bool.Decides.{nat_tests}
use Rattle.std.proofs.lemmas.List.{length-map, get_or-map}
use Rattle.std.proofs.lemmas.List.Elements.{All-nil, All-from_recursion}
use Rattle.meaning.specs.BundlePlaces.{Systems, Nodes}
use Rattle.meaning.specs.Cases.{NodeKind, argues, is_solution}
use Rattle.meaning.specs.Documents.{Document, as_list, as_natural, member_of, list_at, natural_at, truth_at}
use Rattle.meaning.specs.CaseFiles.{CaseCheck, Never, NoDeadlock, NoAnswer, SomeAnswer}
use Rattle.meaning.specs.CaseReading as reading
use Rattle.meaning.specs.CaseReading.{faults_at, failing, past, past_in_all, first_alone, target_of, transition_of, is_strategy}
use Rattle.doc_tree.specs.declared.doc.Doc.{Doc}
use Rattle.doc_tree.specs.View.{document, documents}
use Rattle.lifted_case.specs.ReadFaults.{size_at, systems_past, states_at, targets_fit, witnesses_alone, finding_members_fit, finding_of_kind_fits, kind_at, node_members_fit, joins_states, lists_fit, faults_in}
use Rattle.lifted_case.specs.SmallNumbers.{IsNarrow, TargetIsNarrow, FindingIsNarrow, NodeIsNarrow, TransitionIsNarrow, SystemIsNarrow}
use Rattle.lifted_case.proofs.KeptRules.{append_none, four_none, items_none, both_hold, none_fails, all_held, less}
use Rattle.lifted_case.proofs.CasesRead.{no_faults}

-- ---- what is within the limits

none_alone : (ns : List ℕ) → first_alone ns ≡ [] → ns ≡ []
none_alone [] e = refl
none_alone (n ∷ ns) e = cc

not_past : (limit size : ℕ) → past limit size ≡ [] → size ≤ limit
not_past limit size e = go (nat_lt limit size) refl e
  where
    go : (b : Bool) → nat_lt limit size ≡ b → (if b then limit ∷ [] else []) ≡ [] → size ≤ limit
    go true is none = cc
    go false is none = grind (arith, nat_tests)

-- the size of each item is within the limit of all
module _ (limit : ℕ) where
  fits_here : (at room n : ℕ) (ns : List ℕ) → past_in_all at room (n ∷ ns) ≡ [] → (n ≤ room) × (past_in_all (suc at) (room - n) ns ≡ [])
  fits_here at room n ns e = go (nat_lt room n) refl e
    where
      go : (b : Bool) → nat_lt room n ≡ b → (if b then at ∷ [] else past_in_all (suc at) (room - n) ns) ≡ [] → (n ≤ room) × (past_in_all (suc at) (room - n) ns ≡ [])
      go true is none = cc
      go false is none = (grind (arith, nat_tests), none)

  each_within : (at room : ℕ) (ns : List ℕ) → room ≤ limit → past_in_all at room ns ≡ [] → (i : ℕ) → unwrap_or (slice_get ns i) 0 ≤ limit
  each_within at room [] few e i = omega arith
  each_within at room (n ∷ ns) few e zero = let h = fits_here at room n ns e in omega (arith, h.0)
  each_within at room (n ∷ ns) few e (suc i) = let h = fits_here at room n ns e in each_within (suc at) (room - n) ns (omega arith) h.1 i

-- ---- systems

module _ (d : Document) (e : faults_in d ≡ []) where
  abbrev systems : List Document
  systems = list_at (codes "systems") d

  abbrev counts : List ℕ
  counts = map (size_at (codes "states")) systems

  past_none : (past 256 (length systems) ≡ []) × (past_in_all 0 4096 counts ≡ []) × (past_in_all 0 16384 (map (size_at (codes "transitions")) systems) ≡ [])
  past_none =
      let states = past_in_all 0 4096 counts in
      let transitions = past_in_all 0 16384 (map (size_at (codes "transitions")) systems) in
      let limits = four_none _ (faults_at 11 Systems (systems_past systems)) _ _ (no_faults d e).limits in
      let places = none_alone (past 256 (length systems) ++ states ++ transitions) (items_none 11 Systems (systems_past systems) limits.1) in
      let two = append_none (past 256 (length systems) ++ states) transitions places in
      let one = append_none (past 256 (length systems)) states two.0 in
      (one.0, one.1, two.1)

  few_systems : length counts ≤ 256
  few_systems = subst (λ n. n ≤ 256) (sym (length-map systems (size_at (codes "states")))) (not_past 256 (length systems) past_none.0)

  few_states : (s : ℕ) → states_at counts s ≤ 4096
  few_states s = each_within 4096 0 4096 counts (omega arith) past_none.1 s

-- ---- numbers below a small one

below : (n few limit : ℕ) → nat_lt n few ≡ true → few ≤ limit → limit ≤ 4096 → IsNarrow n
below n few limit e at small = let l = less n few e in omega arith

transition_narrow : (states : ℕ) → states ≤ 4096 → (t : Document) → joins_states states t ≡ true → TransitionIsNarrow t
transition_narrow states few t e =
    let parts = both_hold (nat_lt (transition_of t).0 states) (nat_lt (transition_of t).1 states) e in
    record { source = below (transition_of t).0 states 4096 parts.0 few (omega arith); target = below (transition_of t).1 states 4096 parts.1 few (omega arith) }

-- the states of each system are few, item by item
each_size : (size : Document → ℕ) (limit : ℕ) (ds : List Document) → ((s : ℕ) → states_at (map size ds) s ≤ limit) → AllByRecursion (λ d. size d ≤ limit) ds
each_size size limit [] few = tt
each_size size limit (d ∷ ds) few = (few 0, each_size size limit ds (λ s. few (suc s)))

systems_by : (ds : List Document) → AllByRecursion (λ d. size_at (codes "states") d ≤ 4096) ds → list_all lists_fit ds ≡ true → AllByRecursion SystemIsNarrow ds
systems_by [] few e = tt
systems_by (d ∷ ds) few e =
    let parts = both_hold (lists_fit d) (list_all lists_fit ds) e in
    let states = size_at (codes "states") d in
    let own = both_hold ((size_at (codes "reached") d == states) && (size_at (codes "parents") d == size_at (codes "transitions") d))
    (list_all (joins_states states) (list_at (codes "transitions") d)) parts.0 in
    (all_held (joins_states states) TransitionIsNarrow (transition_narrow states few.0) (list_at (codes "transitions") d) own.1, systems_by ds few.1 parts.1)

pub systems_narrow : (d : Document) → faults_in d ≡ [] → All SystemIsNarrow (list_at (codes "systems") d)
systems_narrow d e =
    All-from_recursion SystemIsNarrow (list_at (codes "systems") d)
    (systems_by (list_at (codes "systems") d) (each_size (size_at (codes "states")) 4096 (list_at (codes "systems") d) (few_states d e))
    (none_fails 9 Systems lists_fit (list_at (codes "systems") d) (no_faults d e).systems))

-- ---- findings

no_number : (k : List ℕ) (d : Document) → is_none (member_of k d) ≡ true → natural_at k d ≡ 0
no_number k d e = go (member_of k d) e
  where
    go : (o : Option Document) → is_none o ≡ true → unwrap_or (option_and_then as_natural o) 0 ≡ 0
    go None e = refl
    go (Some v) e = cc

no_list : (k : List ℕ) (d : Document) → is_none (member_of k d) ≡ true → list_at k d ≡ []
no_list k d e = go (member_of k d) e
  where
    go : (o : Option Document) → is_none o ≡ true → unwrap_or (option_and_then as_list o) [] ≡ []
    go None e = refl
    go (Some v) e = cc

module _ (states : List ℕ) (few : length states ≤ 256) (small : (s : ℕ) → states_at states s ≤ 4096) where
  about_system : (f : Document) → targets_fit states f ≡ true → FindingIsNarrow f
  about_system f e =
      let s = natural_at (codes "system") f in
      let two = is_some (member_of (codes "system") f) && is_some (member_of (codes "targets") f) && is_none (member_of (codes "witnesses") f) in
      let test = λ (t : Document). nat_lt (target_of t).0 (states_at states s) in
      let outer = both_hold (two && nat_lt s (length states)) (list_all test (list_at (codes "targets") f)) e in
      let inner = both_hold two (nat_lt s (length states)) outer.0 in
      record {
        system = below s (length states) 256 inner.1 few (omega arith);
        targets = all_held test TargetIsNarrow (λ t h. below (target_of t).0 (states_at states s) 4096 h (small s) (omega arith)) (list_at (codes "targets") f) outer.1;
      }

  about_answers : (f : Document) → witnesses_alone f ≡ true → FindingIsNarrow f
  about_answers f e =
      let front = is_none (member_of (codes "expr") f) && is_none (member_of (codes "system") f) in
      let outer = both_hold (front && is_none (member_of (codes "targets") f)) (is_some (member_of (codes "witnesses") f)) e in
      let inner = both_hold front (is_none (member_of (codes "targets") f)) outer.0 in
      let own = both_hold (is_none (member_of (codes "expr") f)) (is_none (member_of (codes "system") f)) inner.0 in
      record {
        system = subst IsNarrow (sym (no_number (codes "system") f own.1)) (omega arith);
        targets = subst (All TargetIsNarrow) (sym (no_list (codes "targets") f inner.1)) (All-nil TargetIsNarrow);
      }

  finding_narrow : (f : Document) (check : CaseCheck) → finding_members_fit states f check ≡ true → FindingIsNarrow f
  finding_narrow f (Never s p) e = about_system f (both_hold (is_some (member_of (codes "expr") f)) (targets_fit states f) e).1
  finding_narrow f (NoDeadlock s) e = about_system f (both_hold (is_none (member_of (codes "expr") f)) (targets_fit states f) e).1
  finding_narrow f NoAnswer e = about_answers f e
  finding_narrow f SomeAnswer e = about_answers f e

  may_be_narrow : (kind : NodeKind) (o : Option Document) → finding_of_kind_fits states kind o ≡ true → IfSome o FindingIsNarrow
  may_be_narrow kind None e = tt
  may_be_narrow kind (Some f) e =
      finding_narrow f (reading.finding_of f).check (both_hold (is_solution kind) (finding_members_fit states f (reading.finding_of f).check) e).1

  node_narrow : (n : Document) → node_members_fit states n ≡ true → NodeIsNarrow n
  node_narrow n e =
      let own = finding_of_kind_fits states (kind_at n) (member_of (codes "finding") n) in
      let branches = is_strategy (kind_at n) || (size_at (codes "branches") n == 0) in
      let outer = both_hold (own && branches) (argues (kind_at n) || not (truth_at (codes "undeveloped") n)) e in
      may_be_narrow (kind_at n) (member_of (codes "finding") n) (both_hold own branches outer.0).0

pub nodes_narrow : (d : Document) → faults_in d ≡ [] → All NodeIsNarrow (list_at (codes "nodes") d)
nodes_narrow d e =
    let states = map (size_at (codes "states")) (list_at (codes "systems") d) in
    all_held (node_members_fit states) NodeIsNarrow (node_narrow states (few_systems d e) (few_states d e)) (list_at (codes "nodes") d)
    (none_fails 10 Nodes (node_members_fit states) (list_at (codes "nodes") d) (no_faults d e).findings)

-- what holds of each document of a list holds of each that stands for it
pub of_documents : (P : Document → Type 0) (docs : List Doc) → All P (documents docs) → All (λ d. P (document d)) docs
of_documents P docs h = λ i d l. subst P (get_or-map document docs i d (document d) l) (h i (document d) (omega (arith, length-map docs document)))
