-- What a stop tells of the faults of a document.
use Rattle.std.specs.Prelude.{◌≡◌, ℕ, ◌+◌, List, [], ◌∷◌, ◌++◌, Bool, not, ◌&&◌, ◌||◌, if◌then◌else◌, Option, Some, None, option_and_then, unwrap_or, codes, bytes_eq, length, map, is_some, is_none, nat_lt, ◌==◌}
use Rattle.std.specs.List.{list_any, list_all, slice_get}
use Rattle.meaning.specs.Texts.{first_of_list, is_name, is_text}
use Rattle.meaning.specs.Documents.{Document, as_text, as_list, member_of, text_at, list_at, natural_at, truth_at, texts_in, as_natural}
use Rattle.meaning.specs.BundlePlaces.{Document', Features, Systems, Nodes, Valid, Table, Relations}
use Rattle.meaning.specs.Cases.{NodeKind, Goal, argues, is_solution}
use Rattle.meaning.specs.CaseFiles.{CaseCheck, Never, NoDeadlock, NoAnswer, SomeAnswer}
use Rattle.meaning.specs.CaseReading.{CaseFault, CaseReading, Broken, faults_at, failing, unless, bad_names, absent_or, nth, part_of, part_is_text, transition_of, target_of, witness_of, finding_of, kind_named, is_strategy, word_faults, form_faults, past, past_in_all, first_alone}
use Rattle.conditions.specs.TableRows.{bad_rows}
use Rattle.lifted_case.specs.declared.stop.ReadCaseStop.{ReadCaseStop}
use Rattle.lifted_case.specs.declared.stop.ReadCaseStop.TheVariants.{Fault, NoMemory}
use Rattle.lifted_case.specs.declared.words.CheckWord.{CheckWord}
use Rattle.lifted_case.specs.declared.words.CheckWord.TheVariants as word
use Rattle.lifted_case.specs.CaseView.{fault_view}

-- the fault that is told is the first; want of memory tells nothing of them
abbrev pub Finds : List CaseFault → ReadCaseStop → Type 0
Finds faults (Fault f) = first_of_list faults ≡ Some (fault_view f)
Finds faults NoMemory = Unit {0}

-- the fault that is told is what the reading of a case gives; want of memory tells nothing of it
abbrev pub TellsReading : ReadCaseStop → CaseReading → Type 0
TellsReading (Fault f) reading = reading ≡ Broken (fault_view f)
TellsReading NoMemory reading = Unit {0}

-- the place of the first text that is no name, or stands among those before, where the first of the list has number i
abbrev pub first_bad_after : List (List ℕ) → ℕ → List (List ℕ) → Option ℕ
first_bad_after before i [] = None
first_bad_after before i (s ∷ ss) =
    if not (is_name s) || list_any (bytes_eq s) before then Some i else first_bad_after (before ++ s ∷ []) (i + 1) ss

-- ---- the faults of a document, over its own items

-- the text, and an empty one where the value is none
abbrev pub text_or_none : Document → List ℕ
text_or_none d = unwrap_or (as_text d) []

-- how many items a member has that is a list
abbrev pub size_at : List ℕ → Document → ℕ
size_at k d = length (list_at k d)

abbrev pub plain_text : Document → Bool
plain_text d = is_text (text_or_none d)

abbrev pub witness_texts : Document → Bool
witness_texts d = list_all plain_text (unwrap_or (option_and_then as_list (nth 0 d)) [])

abbrev pub system_texts : Document → Bool
system_texts d =
    is_text (text_at (codes "element") d) && list_all plain_text (list_at (codes "states") d)
    && list_all (λ t. is_text (transition_of t).2) (list_at (codes "transitions") d)

abbrev pub finding_texts : Document → Bool
finding_texts d = list_all witness_texts (list_at (codes "witnesses") d) && is_text (text_at (codes "expr") d)

abbrev pub node_texts : Document → Bool
node_texts d =
    is_text (text_at (codes "key") d) && list_all (λ p. part_is_text (part_of p)) (list_at (codes "text") d)
    && absent_or finding_texts (member_of (codes "finding") d)

abbrev pub name_faults_in : Document → List CaseFault
name_faults_in d = faults_at 4 Features (bad_names (texts_in (list_at (codes "features") d)))

abbrev pub text_faults_in : Document → List CaseFault
text_faults_in d =
    faults_at 4 Document' (unless (is_text (text_at (codes "title") d)))
    ++ name_faults_in d
    ++ faults_at 4 Systems (failing system_texts (list_at (codes "systems") d))
    ++ faults_at 4 Nodes (failing node_texts (list_at (codes "nodes") d))

-- the check that a word names, with the property and the system beside it
abbrev pub check_of_word : CheckWord → ℕ → List ℕ → CaseCheck
check_of_word word.Never system property = Never system property
check_of_word word.Deadlock system property = NoDeadlock system
check_of_word word.NoAnswer system property = NoAnswer
check_of_word word.SomeAnswer system property = SomeAnswer

-- ---- identifiers, of which there are so many

abbrev pub id_below : ℕ → Document → Bool
id_below ids d = nat_lt (unwrap_or (as_natural d) 0) ids

abbrev pub finding_ids_below : ℕ → Document → Bool
finding_ids_below ids d =
    nat_lt (natural_at (codes "refuted") d) ids && list_all (λ t. nat_lt (target_of t).1 ids) (list_at (codes "targets") d)
    && list_all (λ x. nat_lt (witness_of x).1 ids) (list_at (codes "witnesses") d)

abbrev pub node_ids_below : ℕ → Document → Bool
node_ids_below ids d =
    nat_lt (natural_at (codes "when") d) ids && list_all (id_below ids) (list_at (codes "branches") d)
    && absent_or (finding_ids_below ids) (member_of (codes "finding") d)

abbrev pub system_ids_below : ℕ → Document → Bool
system_ids_below ids d = list_all (id_below ids) (list_at (codes "reached") d) && list_all (id_below ids) (list_at (codes "parents") d)

abbrev pub id_faults_of : ℕ → Document → List CaseFault
id_faults_of ids d =
    faults_at 6 Systems (failing (system_ids_below ids) (list_at (codes "systems") d))
    ++ faults_at 6 Nodes (failing (node_ids_below ids) (list_at (codes "nodes") d))
    ++ faults_at 6 Valid (unless (nat_lt (natural_at (codes "valid") d) ids))
    ++ faults_at 6 Relations (failing (λ r. nat_lt (natural_at (codes "when") r) ids) (list_at (codes "relations") d))

abbrev pub id_faults_in : Document → List CaseFault
id_faults_in d = id_faults_of (size_at (codes "table") d + 2) d

-- ---- relations and systems

abbrev pub ends_below : ℕ → Document → Bool
ends_below nodes d = nat_lt (natural_at (codes "from") d) nodes && nat_lt (natural_at (codes "to") d) nodes

abbrev pub end_faults_in : Document → List CaseFault
end_faults_in d = faults_at 8 Relations (failing (ends_below (size_at (codes "nodes") d)) (list_at (codes "relations") d))

abbrev pub joins_states : ℕ → Document → Bool
joins_states states d = nat_lt (transition_of d).0 states && nat_lt (transition_of d).1 states

abbrev pub lists_fit : Document → Bool
lists_fit d =
    (size_at (codes "reached") d == size_at (codes "states") d) && (size_at (codes "parents") d == size_at (codes "transitions") d)
    && list_all (joins_states (size_at (codes "states") d)) (list_at (codes "transitions") d)

abbrev pub system_faults_in : Document → List CaseFault
system_faults_in d = faults_at 9 Systems (failing lists_fit (list_at (codes "systems") d))

-- ---- findings, over systems with so many states

abbrev pub states_at : List ℕ → ℕ → ℕ
states_at states system = unwrap_or (slice_get states system) 0

-- the members about a system: it is one, and the targets are among its states
abbrev pub targets_fit : List ℕ → Document → Bool
targets_fit states d =
    let system = natural_at (codes "system") d in
    is_some (member_of (codes "system") d) && is_some (member_of (codes "targets") d) && is_none (member_of (codes "witnesses") d)
    && nat_lt system (length states) && list_all (λ t. nat_lt (target_of t).0 (states_at states system)) (list_at (codes "targets") d)

abbrev pub witnesses_alone : Document → Bool
witnesses_alone d =
    is_none (member_of (codes "expr") d) && is_none (member_of (codes "system") d) && is_none (member_of (codes "targets") d)
    && is_some (member_of (codes "witnesses") d)

abbrev pub finding_members_fit : List ℕ → Document → CaseCheck → Bool
finding_members_fit states d (Never s e) = is_some (member_of (codes "expr") d) && targets_fit states d
finding_members_fit states d (NoDeadlock s) = is_none (member_of (codes "expr") d) && targets_fit states d
finding_members_fit states d NoAnswer = witnesses_alone d
finding_members_fit states d SomeAnswer = witnesses_alone d

abbrev pub finding_of_kind_fits : List ℕ → NodeKind → Option Document → Bool
finding_of_kind_fits states kind None = not (is_solution kind)
finding_of_kind_fits states kind (Some d) = is_solution kind && finding_members_fit states d (finding_of d).check

abbrev pub kind_at : Document → NodeKind
kind_at d = unwrap_or (kind_named (text_at (codes "kind") d)) Goal

abbrev pub node_members_fit : List ℕ → Document → Bool
node_members_fit states d =
    finding_of_kind_fits states (kind_at d) (member_of (codes "finding") d)
    && (is_strategy (kind_at d) || (size_at (codes "branches") d == 0)) && (argues (kind_at d) || not (truth_at (codes "undeveloped") d))

abbrev pub finding_faults_in : Document → List CaseFault
finding_faults_in d =
    faults_at 10 Nodes (failing (node_members_fit (map (size_at (codes "states")) (list_at (codes "systems") d))) (list_at (codes "nodes") d))

-- ---- limits

-- the first system that passes a limit, if there is one
abbrev pub systems_past : List Document → List ℕ
systems_past systems =
    first_alone (past 256 (length systems) ++ past_in_all 0 4096 (map (size_at (codes "states")) systems)
    ++ past_in_all 0 16384 (map (size_at (codes "transitions")) systems))

abbrev pub limit_faults_in : Document → List CaseFault
limit_faults_in d =
    faults_at 11 Features (past 256 (size_at (codes "features") d))
    ++ faults_at 11 Systems (systems_past (list_at (codes "systems") d))
    ++ faults_at 11 Nodes (past 32768 (size_at (codes "nodes") d))
    ++ faults_at 11 Relations (past 65536 (size_at (codes "relations") d))

-- ---- all faults

abbrev pub version_faults_in : Document → List CaseFault
version_faults_in d = faults_at 3 Document' (unless (natural_at (codes "case") d == 1))

abbrev pub table_faults_in : Document → List CaseFault
table_faults_in d = faults_at 5 Table (bad_rows (size_at (codes "features") d) (list_at (codes "table") d))

-- those on what the members say
abbrev pub faults_within_in : Document → List CaseFault
faults_within_in d =
    version_faults_in d ++ text_faults_in d ++ table_faults_in d ++ id_faults_in d ++ word_faults d ++ end_faults_in d
    ++ system_faults_in d ++ finding_faults_in d ++ limit_faults_in d

abbrev pub faults_in : Document → List CaseFault
faults_in d = form_faults d ++ faults_within_in d
