-- What the JSON of a finding, a system, a relation or a row says is the finding, the system, the relation or the row.
use Rattle.std.proofs.Common.{◌≡◌, refl, sym, ap, ◌∙◌, ℕ, ◌<◌, ◌^◌, List, [], ◌∷◌, map, length, true, Some}
use Rattle.std.specs.Prelude.{codes, nat_lt, is_some, ⊤}
use Rattle.std.specs.List.{list_all}
use Rattle.serde_json.specs.Data.{string, object}
use Rattle.meaning.specs.Texts.{is_text}
use Rattle.meaning.specs.Documents.{Document, of_json, text_at}
use Rattle.meaning.specs.CaseFiles.{Row, CaseCheck, Never, NoDeadlock, NoAnswer, SomeAnswer, Finding, CaseRelation, CaseSystem, CaseDocument}
use Rattle.meaning.specs.Cases.{RelationKind, SupportedBy, InContextOf}
use Rattle.meaning.specs.CaseBytes.{members_of, natural_data, target_data, witness_data, finding_members, relation_word, relation_data, transition_data, system_data, row_data}
use Rattle.meaning.specs.CaseReading.{target_of, witness_of, finding_of, transition_of, system_of, relation_named, relation_of, row_of, is_target, is_witness, is_finding, is_natural_value, is_transition, is_system, is_relation, is_triple, members_fit, states_of, check_named}
use Rattle.meaning.proofs.CutTrees.{Each}
use Rattle.meaning.proofs.CaseReadsBack.{listed_items, each_back, each_passes, each_for, natural_back, naturals_back, texts_back, texts_are_texts}

abbrev pub IsSmall : ℕ → Type 0
IsSmall n = n < 2 ^ 32

pub naturals_have_form : (ns : List ℕ) → Each IsSmall ns → list_all is_natural_value (map (λ n. of_json (natural_data n)) ns) ≡ true
naturals_have_form [] h = refl
naturals_have_form (n ∷ ns) h = rw (natural_back n h.0, naturals_have_form ns h.1) refl

-- ---- targets and witnesses

pub record IsSmallTarget (t : ℕ × ℕ) : Type 0 where
  pub state : IsSmall t.0
  pub condition : IsSmall t.1

target_back : (t : ℕ × ℕ) → IsSmallTarget t → target_of (of_json (target_data t)) ≡ t
target_back t h = rw (natural_back t.0 h.state, natural_back t.1 h.condition) refl

target_form : (t : ℕ × ℕ) → IsSmallTarget t → is_target (of_json (target_data t)) ≡ true
target_form t h = rw (natural_back t.0 h.state, natural_back t.1 h.condition) refl

abbrev pub IsSmallWitness : List (List ℕ) × ℕ → Type 0
IsSmallWitness x = IsSmall x.1

witness_back : (x : List (List ℕ) × ℕ) → IsSmallWitness x → witness_of (of_json (witness_data x)) ≡ x
witness_back x h = rw (listed_items string x.0, texts_back x.0, natural_back x.1 h) refl

witness_form : (x : List (List ℕ) × ℕ) → IsSmallWitness x → is_witness (of_json (witness_data x)) ≡ true
witness_form x h = rw (listed_items string x.0, texts_are_texts x.0, natural_back x.1 h) refl

-- ---- findings

-- the members that the finding has by its check
abbrev pub finding_json : Finding → CaseCheck → Document
finding_json f c = of_json (object (members_of (finding_members f c)))

-- the numbers are small, and what other checks have is empty
abbrev pub IsSmallCheck : Finding → CaseCheck → Type 0
IsSmallCheck f (Never s e) = IsSmall s × (f.witnesses ≡ [])
IsSmallCheck f (NoDeadlock s) = IsSmall s × (f.witnesses ≡ [])
IsSmallCheck f NoAnswer = f.targets ≡ []
IsSmallCheck f SomeAnswer = f.targets ≡ []

pub record IsSmallFinding (f : Finding) : Type 0 where
  pub refuted : IsSmall f.refuted
  pub targets : Each IsSmallTarget f.targets
  pub witnesses : Each IsSmallWitness f.witnesses
  pub check : IsSmallCheck f f.check

targets_back : (ts : List (ℕ × ℕ)) → Each IsSmallTarget ts → map target_of (map (λ t. of_json (target_data t)) ts) ≡ ts
targets_back ts h = each_back (λ t. of_json (target_data t)) target_of ts (each_for _ _ target_back ts h)

witnesses_back : (xs : List (List (List ℕ) × ℕ)) → Each IsSmallWitness xs → map witness_of (map (λ x. of_json (witness_data x)) xs) ≡ xs
witnesses_back xs h = each_back (λ x. of_json (witness_data x)) witness_of xs (each_for _ _ witness_back xs h)

targets_form : (ts : List (ℕ × ℕ)) → Each IsSmallTarget ts → list_all is_target (map (λ t. of_json (target_data t)) ts) ≡ true
targets_form ts h = each_passes (λ t. of_json (target_data t)) is_target ts (each_for _ _ target_form ts h)

witnesses_form : (xs : List (List (List ℕ) × ℕ)) → Each IsSmallWitness xs → list_all is_witness (map (λ x. of_json (witness_data x)) xs) ≡ true
witnesses_form xs h = each_passes (λ x. of_json (witness_data x)) is_witness xs (each_for _ _ witness_form xs h)

abbrev finding_over : CaseCheck → ℕ → List (ℕ × ℕ) → List (List (List ℕ) × ℕ) → Finding
finding_over c refuted targets witnesses = record { check = c; refuted = refuted; targets = targets; witnesses = witnesses }

module _ (f : Finding) (refuted_small : IsSmall f.refuted) (targets_small : Each IsSmallTarget f.targets) (witnesses_small : Each IsSmallWitness f.witnesses) where
  back_by : (c : CaseCheck) → IsSmallCheck f c → finding_of (finding_json f c) ≡ finding_over c f.refuted f.targets f.witnesses
  back_by (Never s e) h =
      rw (natural_back s h.0, natural_back f.refuted refuted_small, listed_items target_data f.targets, targets_back f.targets targets_small) (ap (finding_over (Never s e) f.refuted f.targets) (sym h.1))
  back_by (NoDeadlock s) h =
      rw (natural_back s h.0, natural_back f.refuted refuted_small, listed_items target_data f.targets, targets_back f.targets targets_small) (ap (finding_over (NoDeadlock s) f.refuted f.targets) (sym h.1))
  back_by NoAnswer h =
      rw (natural_back f.refuted refuted_small, listed_items witness_data f.witnesses, witnesses_back f.witnesses witnesses_small) (ap (λ ts. finding_over NoAnswer f.refuted ts f.witnesses) (sym h))
  back_by SomeAnswer h =
      rw (natural_back f.refuted refuted_small, listed_items witness_data f.witnesses, witnesses_back f.witnesses witnesses_small) (ap (λ ts. finding_over SomeAnswer f.refuted ts f.witnesses) (sym h))

  form_by : (c : CaseCheck) → IsSmallCheck f c → is_finding (finding_json f c) ≡ true
  form_by (Never s e) h =
      rw (natural_back f.refuted refuted_small, natural_back s h.0, listed_items target_data f.targets, targets_form f.targets targets_small) refl
  form_by (NoDeadlock s) h =
      rw (natural_back f.refuted refuted_small, natural_back s h.0, listed_items target_data f.targets, targets_form f.targets targets_small) refl
  form_by NoAnswer h = rw (natural_back f.refuted refuted_small, listed_items witness_data f.witnesses, witnesses_form f.witnesses witnesses_small) refl
  form_by SomeAnswer h = rw (natural_back f.refuted refuted_small, listed_items witness_data f.witnesses, witnesses_form f.witnesses witnesses_small) refl

pub finding_back : (f : Finding) → IsSmallFinding f → finding_of (finding_json f f.check) ≡ f
finding_back f h = back_by f h.refuted h.targets h.witnesses f.check h.check

pub finding_form : (f : Finding) → IsSmallFinding f → is_finding (finding_json f f.check) ≡ true
finding_form f h = form_by f h.refuted h.targets h.witnesses f.check h.check

-- the word for the check is known
pub check_word_back : (f : Finding) (c : CaseCheck) → is_some (check_named (text_at (codes "check") (finding_json f c)) 0 []) ≡ true
check_word_back f (Never s e) = refl
check_word_back f (NoDeadlock s) = refl
check_word_back f NoAnswer = refl
check_word_back f SomeAnswer = refl

abbrev pub PropertyIsText : CaseCheck → Type 0
PropertyIsText (Never s e) = is_text e ≡ true
PropertyIsText (NoDeadlock s) = ⊤
PropertyIsText NoAnswer = ⊤
PropertyIsText SomeAnswer = ⊤

pub expression_back : (f : Finding) (c : CaseCheck) → PropertyIsText c → is_text (text_at (codes "expr") (finding_json f c)) ≡ true
expression_back f (Never s e) h = h
expression_back f (NoDeadlock s) h = refl
expression_back f NoAnswer h = refl
expression_back f SomeAnswer h = refl

-- the system is one of the document, and the targets are states of it
pub record SystemFits (k : CaseDocument) (f : Finding) (s : ℕ) : Type 0 where
  pub system : nat_lt s (length k.systems) ≡ true
  pub targets : Each (λ t. nat_lt t.0 (states_of k s) ≡ true) f.targets

abbrev pub CheckFits : CaseDocument → Finding → CaseCheck → Type 0
CheckFits k f (Never s e) = SystemFits k f s
CheckFits k f (NoDeadlock s) = SystemFits k f s
CheckFits k f NoAnswer = ⊤
CheckFits k f SomeAnswer = ⊤

module _ (k : CaseDocument) (f : Finding) (small : Each IsSmallTarget f.targets) where
  states_fit : (states : ℕ) (ts : List (ℕ × ℕ)) → Each IsSmallTarget ts → Each (λ t. nat_lt t.0 states ≡ true) ts
      → list_all (λ d. nat_lt (target_of d).0 states) (map (λ t. of_json (target_data t)) ts) ≡ true
  states_fit states [] h g = refl
  states_fit states (t ∷ ts) h g = rw (natural_back t.0 h.0.state, g.0, states_fit states ts h.1 g.1) refl

  members_fit-by : (c : CaseCheck) → CheckFits k f c → members_fit k (finding_json f c) c ≡ true
  members_fit-by (Never s e) h = rw (h.system, listed_items target_data f.targets, states_fit (states_of k s) f.targets small h.targets) refl
  members_fit-by (NoDeadlock s) h = rw (h.system, listed_items target_data f.targets, states_fit (states_of k s) f.targets small h.targets) refl
  members_fit-by NoAnswer h = refl
  members_fit-by SomeAnswer h = refl

pub finding_fits-back : (k : CaseDocument) (f : Finding) → IsSmallFinding f → CheckFits k f f.check → members_fit k (finding_json f f.check) (finding_of (finding_json f f.check)).check ≡ true
finding_fits-back k f small h =
    ap (λ (x : Finding). members_fit k (finding_json f f.check) x.check) (finding_back f small) ∙ members_fit-by k f small.targets f.check h

-- ---- systems

pub record IsSmallTransition (t : ℕ × ℕ × List ℕ) : Type 0 where
  pub source : IsSmall t.0
  pub target : IsSmall t.1

pub record IsSmallSystem (s : CaseSystem) : Type 0 where
  pub reached : Each IsSmall s.reached
  pub parents : Each IsSmall s.parents
  pub transitions : Each IsSmallTransition s.transitions

transition_back : (t : ℕ × ℕ × List ℕ) → IsSmallTransition t → transition_of (of_json (transition_data t)) ≡ t
transition_back t h = rw (natural_back t.0 h.source, natural_back t.1 h.target) refl

transition_form : (t : ℕ × ℕ × List ℕ) → IsSmallTransition t → is_transition (of_json (transition_data t)) ≡ true
transition_form t h = rw (natural_back t.0 h.source, natural_back t.1 h.target) refl

pub system_back : (s : CaseSystem) → IsSmallSystem s → system_of (of_json (system_data s)) ≡ s
system_back s h =
    rw (
      listed_items string s.states,
      texts_back s.states,
      listed_items natural_data s.reached,
      naturals_back s.reached h.reached,
      listed_items transition_data s.transitions,
      each_back (λ t. of_json (transition_data t)) transition_of s.transitions (each_for _ _ transition_back s.transitions h.transitions),
      listed_items natural_data s.parents,
      naturals_back s.parents h.parents,
    ) refl

pub system_form : (s : CaseSystem) → IsSmallSystem s → is_system (of_json (system_data s)) ≡ true
system_form s h =
    rw (
      listed_items string s.states,
      texts_are_texts s.states,
      listed_items natural_data s.reached,
      naturals_have_form s.reached h.reached,
      listed_items transition_data s.transitions,
      each_passes (λ t. of_json (transition_data t)) is_transition s.transitions (each_for _ _ transition_form s.transitions h.transitions),
      listed_items natural_data s.parents,
      naturals_have_form s.parents h.parents,
    ) refl

-- ---- relations and rows

pub relation_word_back : (k : RelationKind) → relation_named (relation_word k) ≡ Some k
relation_word_back SupportedBy = refl
relation_word_back InContextOf = refl

pub record IsSmallRelation (r : CaseRelation) : Type 0 where
  pub source : IsSmall r.source
  pub target : IsSmall r.target
  pub presence : IsSmall r.presence

pub relation_back : (r : CaseRelation) → IsSmallRelation r → relation_of (of_json (relation_data r)) ≡ r
relation_back r h = rw (natural_back r.source h.source, natural_back r.target h.target, natural_back r.presence h.presence, relation_word_back r.kind) refl

pub relation_form : (r : CaseRelation) → IsSmallRelation r → is_relation (of_json (relation_data r)) ≡ true
relation_form r h = rw (natural_back r.source h.source, natural_back r.target h.target, natural_back r.presence h.presence) refl

pub record IsSmallRow (r : Row) : Type 0 where
  pub variable : IsSmall r.variable
  pub low : IsSmall r.low
  pub high : IsSmall r.high

pub row_back : (r : Row) → IsSmallRow r → row_of (of_json (row_data r)) ≡ r
row_back r h = rw (natural_back r.variable h.variable, natural_back r.low h.low, natural_back r.high h.high) refl

pub row_form : (r : Row) → IsSmallRow r → is_triple (of_json (row_data r)) ≡ true
row_form r h = rw (natural_back r.variable h.variable, natural_back r.low h.low, natural_back r.high h.high) refl
