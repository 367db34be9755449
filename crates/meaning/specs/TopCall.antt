-- What the top call promises of its status, over what the shelf holds and counts, what the two sinks have, and the diagrams.
use Rattle.std.specs.Prelude.{◌≡◌, ℕ, ◌<◌, ◌≤◌, ◌+◌, ◌⊎◌, ⊤, List, [], ◌∷◌, ◌++◌, length, take, Bool, true, false, ◌==◌, if◌then◌else◌, Option, Some, None}
use Rattle.std.specs.List.{slice_get}
use Rattle.meaning.specs.Counts.{Rose, RoseBy, NoFewer, appended}
use Rattle.meaning.specs.Features.{feature_names}
use Rattle.meaning.specs.Documents.{Document}
use Rattle.meaning.specs.CaseFiles.{CaseDocument}
use Rattle.meaning.specs.CaseReading as reading
use Rattle.meaning.specs.CaseReading.{CaseFault, CaseReading, read_case}
use Rattle.meaning.specs.Derivation.{Bundle, bundle_of}
use Rattle.meaning.specs.Bounds.{IsWork, line_asks, asks_of_build, asks_of_report, asks_of_rules, asks_of_audit, nodes_of_functions, always_enough}
use Rattle.meaning.specs.Words.{Task, Build, TestRules, Audit, Report, Workload, Invocation, File, files_of, uses_diagrams}
use Rattle.meaning.specs.Statuses.{Status, Done, BadWords, BadBundle, NodeLimit, BigCase, AuditNo, TooLong, ReadFault, WriteFault, NoMemory, RulesBroken, status_line}
use Rattle.meaning.specs.Answers.{Answer, Prints, Refuses, Stage, BundleReading, Good, bundle_in, IsAnswer, generated_bundle}

-- ---- what a sink was told

-- a sink grew by these bytes, or by less, a front of them, only where its faults rose
pub record Says (old new : Option (List ℕ)) (faults faults_new : ℕ) (bytes : List ℕ) : Type 0 where
  pub count : ℕ
  pub grew : new ≡ appended old (take count bytes)
  pub whole : (length bytes ≤ count) ⊎ Rose faults faults_new

-- ---- the outside, at the start of the call and at its end

pub record Outside : Type 0 where
  pub holds : List ℕ → Option (List ℕ)
  pub faults : List ℕ → ℕ
  pub next : ℕ
  pub given : List ℕ → ℕ
  pub out : Option (List ℕ)
  pub out_faults : ℕ
  pub err : Option (List ℕ)
  pub err_faults : ℕ

pub record Diagrams : Type 0 where
  pub is_open : Bool
  pub limit : ℕ
  pub features : ℕ
  pub asked : ℕ
  pub refused : ℕ
  pub taken : ℕ

-- ---- the files

-- a file is within its limit, where the shelf tells
abbrev pub IsWithin : Outside → File → Type 0
IsWithin o f = (bytes : List ℕ) → o.holds f.name ≡ Some bytes → length bytes ≤ f.most

abbrev pub AllWithin : Outside → List File → Type 0
AllWithin o files = (k : ℕ) (f : File) → slice_get files k ≡ Some f → IsWithin o f

-- the files before file k are within their limits
abbrev pub WithinBefore : Outside → List File → ℕ → Type 0
WithinBefore o files k = (j : ℕ) (f : File) → j < k → slice_get files j ≡ Some f → IsWithin o f

-- these are the bytes of the files, in order, where the shelf tells all of them
abbrev pub ToldBy : Outside → List File → List (List ℕ) → Type 0
ToldBy o [] [] = ⊤
ToldBy o (f ∷ fs) (bytes ∷ more) = (o.holds f.name ≡ Some bytes) × ToldBy o fs more
ToldBy o _ _ = ⊥

-- the file has these bytes, where the shelf tells it
abbrev pub IfTold : Option (List ℕ) → List ℕ → Type 0
IfTold told bytes = (those : List ℕ) → told ≡ Some those → those ≡ bytes

-- the bytes of the files, in order: those that the shelf tells where it tells them, and within the limit of each
abbrev pub AgreeWith : Outside → List File → List (List ℕ) → Type 0
AgreeWith o [] [] = ⊤
AgreeWith o (f ∷ fs) (bytes ∷ more) = IfTold (o.holds f.name) bytes × ((length bytes ≤ f.most) × AgreeWith o fs more)
AgreeWith o _ _ = ⊥

-- ---- what a status promises: one record for each way to end

-- the words have no reading
pub record WordsRefused (stage : Stage) (words : List (List ℕ)) : Type 0 where
  pub unread : stage.reads words ≡ None

-- file k was not read: its own count of faults rose, and the files before it were read
pub record NotRead (stage : Stage) (words : List (List ℕ)) (before after : Outside) (k : ℕ) : Type 0 where
  pub invocation : Invocation
  pub reads : stage.reads words ≡ Some invocation
  pub file : File
  pub is_file : slice_get (files_of invocation.task) k ≡ Some file
  pub earlier : WithinBefore before (files_of invocation.task) k
  pub cause : Rose (before.faults file.name) (after.faults file.name)

-- one byte more than the limit was taken of file k, each place once, and the files before it were read
pub record IsTooLong (stage : Stage) (words : List (List ℕ)) (before after : Outside) (k : ℕ) : Type 0 where
  pub invocation : Invocation
  pub reads : stage.reads words ≡ Some invocation
  pub file : File
  pub is_file : slice_get (files_of invocation.task) k ≡ Some file
  pub earlier : WithinBefore before (files_of invocation.task) k
  pub place : after.next ≡ file.most + 1
  pub taken : RoseBy (before.given file.name) (after.given file.name) (file.most + 1)
  pub longer : (bytes : List ℕ) → before.holds file.name ≡ Some bytes → file.most < length bytes

-- the task's answer to the bytes of its files. Where the shelf tells a file these are its bytes, and none has more than it may have.
-- So where it tells one file, a refusal for that file is no answer to other bytes, whatever it tells of the rest
pub record Answered (stage : Stage) (words : List (List ℕ)) (before : Outside) (answer : Answer) : Type 0 where
  pub invocation : Invocation
  pub reads : stage.reads words ≡ Some invocation
  pub files : List (List ℕ)
  pub agree : AgreeWith before (files_of invocation.task) files
  pub is : IsAnswer stage invocation.task files answer

-- the whole answer was printed
pub record IsDone (stage : Stage) (words : List (List ℕ)) (before after : Outside) : Type 0 where
  pub bytes : List ℕ
  pub answer : Answered stage words before (Prints bytes)
  pub printed : after.out ≡ appended before.out bytes

-- a front of the answer was printed, and the output failed
pub record NotWritten (stage : Stage) (words : List (List ℕ)) (before after : Outside) : Type 0 where
  pub bytes : List ℕ
  pub answer : Answered stage words before (Prints bytes)
  pub count : ℕ
  pub printed : after.out ≡ appended before.out (take count bytes)
  pub cause : Rose before.out_faults after.out_faults

-- the task's answer is this refusal, with these lines
pub record IsRefused (stage : Stage) (words : List (List ℕ)) (before : Outside) (status : Status) (lines : List ℕ) : Type 0 where
  pub answer : Answered stage words before (Refuses status lines)

-- ---- the node limit

abbrev pub OfBundle : BundleReading → (Document → Bundle → Type 0) → Type 0
OfBundle (Good d b) next = next d b
OfBundle _ next = ⊥

abbrev pub OfCase : List CaseFault → CaseReading → (CaseDocument → Type 0) → Type 0
OfCase [] (reading.Is k) next = next k
OfCase fs _ next = ⊥

abbrev pub OfDocument : Option Document → (Document → Bundle → Type 0) → Type 0
OfDocument None next = ⊥
OfDocument (Some d) next = next d (bundle_of d)

-- the files have no fault that comes before the diagrams are opened, and these are opened for so many features: of the line, or of the case
abbrev pub OpensFor : Stage → Task → List (List ℕ) → (features : ℕ) → Type 0
OpensFor s (Build name) (bytes ∷ []) n = OfBundle (bundle_in s name bytes) (λ d b. n ≡ length (feature_names b.line))
OpensFor s (TestRules case) (bytes ∷ []) n = OfCase (s.case_faults bytes) (read_case bytes) (λ k. n ≡ length k.features)
OpensFor s (Report case) (bytes ∷ []) n = OfCase (s.case_faults bytes) (read_case bytes) (λ k. n ≡ length k.features)
OpensFor s (Audit bundle case) (bytes ∷ others ∷ []) n =
    OfBundle (bundle_in s bundle bytes) (λ d b. OfCase (s.case_faults others) (read_case others) (λ k. n ≡ length (feature_names b.line)))
OpensFor s (Workload number size) [] n = OfDocument (generated_bundle number size) (λ d b. n ≡ length (feature_names b.line))
OpensFor s t _ n = ⊥

-- building a bundle document may ask so much
pub record BuildAsks (d : Document) (b : Bundle) (asks : ℕ) : Type 0 where
  pub work : ℕ
  pub of_bundle : IsWork b work
  pub is : asks ≡ asks_of_build work (line_asks (feature_names b.line) d)

-- a task over files without a fault may ask so much of the diagrams
abbrev pub MayAsk : Stage → Task → List (List ℕ) → (asks : ℕ) → Type 0
MayAsk s (Build name) (bytes ∷ []) a = OfBundle (bundle_in s name bytes) (λ d b. BuildAsks d b a)
MayAsk s (TestRules case) (bytes ∷ []) a = OfCase (s.case_faults bytes) (read_case bytes) (λ k. a ≡ asks_of_rules k)
MayAsk s (Report case) (bytes ∷ []) a = OfCase (s.case_faults bytes) (read_case bytes) (λ k. a ≡ asks_of_report k)
MayAsk s (Audit bundle case) (bytes ∷ others ∷ []) a =
    OfBundle (bundle_in s bundle bytes) (λ d b. OfCase (s.case_faults others) (read_case others)
    (λ k. a ≡ asks_of_audit b.model k (line_asks (feature_names b.line) d)))
MayAsk s (Workload number size) [] a = OfDocument (generated_bundle number size) (λ d b. BuildAsks d b a)
MayAsk s t _ a = ⊥

-- diagrams that were opened with the limit of the words, for files with these bytes. Where the shelf tells a file these are its bytes, and
-- they have no fault that comes before: so a told file with a fault opens nothing, whatever is told of the rest
pub record OpenedFor (stage : Stage) (words : List (List ℕ)) (before : Outside) (new : Diagrams) : Type 0 where
  pub invocation : Invocation
  pub reads : stage.reads words ≡ Some invocation
  pub files : List (List ℕ)
  pub agree : AgreeWith before (files_of invocation.task) files
  pub opens : OpensFor stage invocation.task files new.features
  pub limit : new.limit ≡ invocation.node_limit

-- a call was refused at the limit of the words, in diagrams that were opened with it for files that keep their rules. Over at most 4 features
-- that limit is less than is always enough
pub record LimitMet (stage : Stage) (words : List (List ℕ)) (before : Outside) (old new : Diagrams) (used : ℕ) : Type 0 where
  pub opened : OpenedFor stage words before new
  pub is_open : new.is_open ≡ true
  pub used_all : used ≡ new.limit
  pub cause : Rose old.refused new.refused
  pub few : new.features ≤ 4 → new.limit < always_enough

-- the same where also the limit is below what is enough for the task
pub record LimitReached (stage : Stage) (words : List (List ℕ)) (before : Outside) (old new : Diagrams) (used : ℕ) : Type 0 where
  pub met : LimitMet stage words before old new used
  pub asks : ℕ
  pub may_ask : MayAsk stage met.opened.invocation.task met.opened.files asks
  pub below_enough : new.limit < nodes_of_functions new.features asks

-- how much was asked of open diagrams, at whatever status
pub record AskedFew (stage : Stage) (words : List (List ℕ)) (before : Outside) (new : Diagrams) : Type 0 where
  pub opened : OpenedFor stage words before new
  pub asks : ℕ
  pub may_ask : MayAsk stage opened.invocation.task opened.files asks
  pub few : new.asked + new.taken ≤ asks

abbrev pub FewAsked : Stage → List (List ℕ) → Outside → Diagrams → Type 0
FewAsked stage words before new = new.is_open ≡ true → AskedFew stage words before new

-- whether the diagrams of a task that uses them are open at its end: they are opened once its files have kept their rules, but that no world
-- may be valid, which is found in them. Want of memory may come before and after
abbrev pub open_under : Status → Option Bool
open_under Done = Some true
open_under (BadBundle f) = Some (f.rule == 30)
open_under (NodeLimit used) = Some true
open_under (BigCase entries) = Some true
open_under (AuditNo p) = Some true
open_under (RulesBroken count) = Some true
open_under WriteFault = Some true
open_under NoMemory = None
open_under s = Some false

-- the same by the words: without a task, or with one that doesn't use them, they are shut at every status
abbrev pub open_after : Option Invocation → Status → Option Bool
open_after None s = Some false
open_after (Some i) s = if uses_diagrams i.task then open_under s else Some false

-- what the call leaves of the diagrams: whether they are open, and for what
pub record Leaves (stage : Stage) (words : List (List ℕ)) (before : Outside) (new : Diagrams) (status : Status) : Type 0 where
  pub as_told : (b : Bool) → open_after (stage.reads words) status ≡ Some b → new.is_open ≡ b
  pub opened : new.is_open ≡ true → OpenedFor stage words before new

-- ---- the whole

-- the cause of a status, where `Limit` says what a reached node limit promises; want of memory has no cause
abbrev pub Cause : Stage → List (List ℕ) → Outside → Outside → (Limit : ℕ → Type 0) → (lines : List ℕ) → Status → Type 0
Cause stage words before after Limit lines Done = IsDone stage words before after
Cause stage words before after Limit lines BadWords = WordsRefused stage words
Cause stage words before after Limit lines (NodeLimit used) = Limit used
Cause stage words before after Limit lines (TooLong k) = IsTooLong stage words before after k
Cause stage words before after Limit lines (ReadFault k) = NotRead stage words before after k
Cause stage words before after Limit lines WriteFault = NotWritten stage words before after
Cause stage words before after Limit lines NoMemory = ⊤
Cause stage words before after Limit lines s = IsRefused stage words before s lines

-- the output is as it was under every status but these two, whose causes say what it has
abbrev pub OutKept : Outside → Outside → Status → Type 0
OutKept before after Done = ⊤
OutKept before after WriteFault = ⊤
OutKept before after s = after.out ≡ before.out

-- what a status says: its line, and under broken rules more lines, which the cause gives
abbrev pub LinesOf : Status → List ℕ → Type 0
LinesOf (RulesBroken count) lines = (more : List ℕ) × (lines ≡ status_line (RulesBroken count) ++ more)
LinesOf s lines = lines ≡ status_line s

-- the promise of the top call, at every status
pub record Promise (stage : Stage) (words : List (List ℕ)) (before after : Outside) (Limit : ℕ → Type 0) (status : Status) : Type 0 where
  pub lines : List ℕ
  pub cause : Cause stage words before after Limit lines status
  pub out : OutKept before after status
  pub said : LinesOf status lines
  pub err : Says before.err after.err before.err_faults after.err_faults lines

-- without diagrams no node limit is reached
abbrev pub NoLimit : ℕ → Type 0
NoLimit used = ⊥

abbrev pub PlainPromise : Stage → List (List ℕ) → Outside → Outside → Status → Type 0
PlainPromise stage words before after status = Promise stage words before after NoLimit status

-- with diagrams: also how much was asked of them
pub record PromiseWithDiagrams (stage : Stage) (words : List (List ℕ)) (before after : Outside) (old new : Diagrams) (status : Status) : Type 0 where
  pub promise : Promise stage words before after (LimitReached stage words before old new) status
  pub asked : FewAsked stage words before new
  pub leaves : Leaves stage words before new status

-- ---- what follows: with every file told and within its limit, and no count that rises, only want of memory stands beside the answer

pub record AllGood (before after : Outside) (files : List File) : Type 0 where
  pub told : (k : ℕ) (f : File) → slice_get files k ≡ Some f → (bytes : List ℕ) × (before.holds f.name ≡ Some bytes) × (length bytes ≤ f.most)
  pub read : (k : ℕ) (f : File) → slice_get files k ≡ Some f → Rose (before.faults f.name) (after.faults f.name) → ⊥
  pub printed : Rose before.out_faults after.out_faults → ⊥

-- an answer ends in a status
pub data EndsIn : Answer → Status → Type 0 where
  prints : {bytes : List ℕ} → EndsIn (Prints bytes) Done
  refuses : {s : Status} {lines : List ℕ} → EndsIn (Refuses s lines) s

pub record AnswersAs (stage : Stage) (task : Task) (files : List (List ℕ)) (status : Status) : Type 0 where
  pub answer : Answer
  pub is : IsAnswer stage task files answer
  pub ends : EndsIn answer status

abbrev pub CompletesBut : (Limit : ℕ → Type 0) → Type 0
CompletesBut Limit = (stage : Stage) (words : List (List ℕ)) (before after : Outside) (status : Status) (i : Invocation) (files : List (List ℕ))
    → Promise stage words before after Limit status → stage.reads words ≡ Some i
    → AllGood before after (files_of i.task) → ToldBy before (files_of i.task) files
    → AnswersAs stage i.task files status ⊎ ((status ≡ NoMemory) ⊎ ((used : ℕ) × (status ≡ NodeLimit used) × Limit used))

-- what every call leaves or only raises, whatever its status
pub record Kept (before after : Outside) : Type 0 where
  pub same_files : after.holds ≡ before.holds
  pub no_fewer_faults : NoFewer before.faults after.faults
  pub no_less_given : NoFewer before.given after.given
  pub no_fewer_out_faults : before.out_faults ≤ after.out_faults
  pub no_fewer_err_faults : before.err_faults ≤ after.err_faults
