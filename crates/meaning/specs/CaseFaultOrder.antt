-- Which of two faults of a case comes first, and what is proved of the fault that is told: it is a broken rule, and the least of all.
use Rattle.std.specs.Prelude.{◌≡◌, ℕ, List, [], ◌∷◌, ◌++◌, Bool, false, nat_lt, if◌then◌else◌, Option, Some, None, is_none, Contains}
use Rattle.meaning.specs.Documents.{Document, Json, document_of, as_table}
use Rattle.meaning.specs.BundlePlaces.{part_number, before_by}
use Rattle.meaning.specs.CaseReading.{CaseFault, Broken, Is, no_case, form_faults, faults_within, case_document_of, read_case}
use Rattle.meaning.specs.CaseFiles.{CaseDocument}

-- the fault stands before another one: by its number over the whole case, then by its part, then by its item
abbrev pub stands_before : CaseFault → CaseFault → Bool
stands_before f g = before_by f.fault g.fault (before_by (part_number f.part) (part_number g.part) (nat_lt f.item g.item))

-- every rule that a document breaks, as far as its members have a form that can be read
abbrev pub faults_in_document : Document → List CaseFault
faults_in_document d = form_faults d ++ faults_within d (case_document_of d)

-- of what is no table at all that alone is told
abbrev pub faults_if_read : Option Document → List CaseFault
faults_if_read None = no_case ∷ []
faults_if_read (Some d) = if is_none (as_table d) then no_case ∷ [] else faults_in_document d

-- every rule that bytes break as a case
unfoldable pub case_faults : List ℕ → List CaseFault
case_faults bytes = faults_if_read (document_of Json bytes)

-- the fault is a broken rule of the bytes, and none that they break stands before it
pub record IsFirstCaseFault (bytes : List ℕ) (f : CaseFault) : Type 0 where
  pub is_broken : Contains (case_faults bytes) f
  pub is_least : (g : CaseFault) → Contains (case_faults bytes) g → stands_before g f ≡ false

-- ---- what is to be proved

-- the fault that is told is the first
abbrev pub FirstCaseFaultIsTold : Type 0
FirstCaseFaultIsTold = (bytes : List ℕ) (f : CaseFault) → read_case bytes ≡ Broken f → IsFirstCaseFault bytes f

-- bytes that are a case break no rule
abbrev pub CasesBreakNoRule : Type 0
CasesBreakNoRule = (bytes : List ℕ) (k : CaseDocument) → read_case bytes ≡ Is k → case_faults bytes ≡ []
