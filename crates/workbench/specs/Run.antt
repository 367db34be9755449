-- What the top call stands on and leaves: the outside as its traits tell it, and the causes of an answer or a refusal.
use Rattle.std.specs.Prelude.{◌≡◌, ◌+◌, ◌<◌, ◌≤◌, length, take, ℕ, ⊤, List, Option, None, Some}
use Rattle.std.specs.List.{slice_get}
use Rattle.meaning.specs.Counts.{Rose, RoseBy, appended}
use Rattle.meaning.specs.Statuses.{status_line}
use Rattle.meaning.specs.Words.{Task, File, files_of}
use Rattle.meaning.specs.Answers.{Answer, IsAnswer, refusal}
use Rattle.meaning.specs.TopCall.{Outside, Diagrams, IfTold, AgreeWith, WithinBefore, LimitMet, Cause}
use Rattle.workbench.specs.declared.status.Status.{Status}
use Rattle.workbench.specs.declared.status.Status.TheVariants as status
use Rattle.workbench.specs.StatusView.{status_view}
use Rattle.workbench.specs.BuildingStage.{building_cases}
use Rattle.workbench.specs.Limits.{MeetsLimit}

abbrev pub outside_of : (holds : List ℕ → Option (List ℕ)) (faults : List ℕ → ℕ) (next : ℕ) (given : List ℕ → ℕ)
    (out : Option (List ℕ)) (out_faults : ℕ) (err : Option (List ℕ)) (err_faults : ℕ) → Outside
outside_of holds faults next given out out_faults err err_faults = record {
  holds = holds;
  faults = faults;
  next = next;
  given = given;
  out = out;
  out_faults = out_faults;
  err = err;
  err_faults = err_faults;
}

-- the shelf alone
abbrev pub shelf_of : (holds : List ℕ → Option (List ℕ)) (faults : List ℕ → ℕ) (next : ℕ) (given : List ℕ → ℕ) → Outside
shelf_of holds faults next given = outside_of holds faults next given None 0 None 0

-- ---- files

abbrev pub file_of : (name : List ℕ) (most : ℕ) → File
file_of name most = record { name = name; most = most }

-- the bytes of a file, where the shelf tells them, and no more than it may have
pub record IsFileOf (told : Option (List ℕ)) (most : ℕ) (bytes : List ℕ) : Type 0 where
  pub agree : IfTold told bytes
  pub short : length bytes ≤ most

-- file k of a task was not read, and those before it were
pub record NotReadOf (files : List File) (before after : Outside) (k : ℕ) : Type 0 where
  pub file : File
  pub is_file : slice_get files k ≡ Some file
  pub earlier : WithinBefore before files k
  pub cause : Rose (before.faults file.name) (after.faults file.name)

-- one byte more than its limit was taken of file k, and those before it were read
pub record IsTooLongOf (files : List File) (before after : Outside) (k : ℕ) : Type 0 where
  pub file : File
  pub is_file : slice_get files k ≡ Some file
  pub earlier : WithinBefore before files k
  pub place : after.next ≡ file.most + 1
  pub taken : RoseBy (before.given file.name) (after.given file.name) (file.most + 1)
  pub longer : (bytes : List ℕ) → before.holds file.name ≡ Some bytes → file.most < length bytes

-- one byte more than its limit was taken of a file
pub record IsTooLongFile (file : File) (before after : Outside) : Type 0 where
  pub place : after.next ≡ file.most + 1
  pub taken : RoseBy (before.given file.name) (after.given file.name) (file.most + 1)
  pub longer : (bytes : List ℕ) → before.holds file.name ≡ Some bytes → file.most < length bytes

-- why the file with this number was not read
abbrev pub StopsFile : (number : ℕ) → File → (before after : Outside) → Status → Type 0
StopsFile number file before after (status.ReadFault k) = (k ≡ number) × Rose (before.faults file.name) (after.faults file.name)
StopsFile number file before after (status.TooLong k) = (k ≡ number) × IsTooLongFile file before after
StopsFile number file before after status.NoMemory = ⊤
StopsFile number file before after s = ⊥

-- why files were not all read
abbrev pub StopsFiles : List File → (before after : Outside) → Status → Type 0
StopsFiles files before after (status.ReadFault k) = NotReadOf files before after k
StopsFiles files before after (status.TooLong k) = IsTooLongOf files before after k
StopsFiles files before after status.NoMemory = ⊤
StopsFiles files before after s = ⊥

-- ---- answers

-- this status is the answer; want of memory is none, and the statuses of reading, writing, words and a reached limit have other causes
abbrev pub Refuses : (Answer → Type 0) → Status → Type 0
Refuses Is status.NoMemory = ⊤
Refuses Is status.Done = ⊥
Refuses Is status.BadWords = ⊥
Refuses Is (status.TooLong file) = ⊥
Refuses Is (status.ReadFault file) = ⊥
Refuses Is (status.NodeLimit used) = ⊥
Refuses Is status.WriteFault = ⊥
Refuses Is s = Is (refusal (status_view s))

-- why there is no built case: the limit was met, or else this is the answer
abbrev pub StopsBuilding : (old new : Diagrams) → (Answer → Type 0) → Status → Type 0
StopsBuilding old new Is (status.NodeLimit used) = MeetsLimit old new used
StopsBuilding old new Is s = Refuses Is s

-- the answer of a task to the bytes of its files
pub record AnswersTask (task : Task) (before : Outside) (answer : Answer) : Type 0 where
  pub files : List (List ℕ)
  pub agree : AgreeWith before (files_of task) files
  pub is : IsAnswer building_cases task files answer

-- why a task has no answer that is printed
abbrev pub StopsTask : Task → (before after : Outside) → (old new : Diagrams) → Status → Type 0
StopsTask task before after old new (status.ReadFault k) = NotReadOf (files_of task) before after k
StopsTask task before after old new (status.TooLong k) = IsTooLongOf (files_of task) before after k
StopsTask task before after old new (status.NodeLimit used) = MeetsLimit old new used
StopsTask task before after old new s = Refuses (AnswersTask task before) s

-- a status that comes before anything is written, with its cause
abbrev pub Stops : (words : List (List ℕ)) → (before after : Outside) → (old new : Diagrams) → Status → Type 0
Stops words before after old new status.Done = ⊥
Stops words before after old new status.WriteFault = ⊥
Stops words before after old new s =
    Cause building_cases words before after (LimitMet building_cases words before old new) (status_line (status_view s)) (status_view s)

-- the bytes were written, or a front of them where the output failed
abbrev pub Printed : Status → (old new : Option (List ℕ)) → (faults faults_new : ℕ) → List ℕ → Type 0
Printed status.Done old new faults faults_new bytes = new ≡ appended old bytes
Printed status.WriteFault old new faults faults_new bytes = (count : ℕ) × (new ≡ appended old (take count bytes)) × Rose faults faults_new
Printed s old new faults faults_new bytes = ⊥
