-- The answer of a task, from what was read of its files and what was answered to it.
use Rattle.std.proofs.Common.{◌≡◌, refl, sym, ap, ◌∙◌, subst, ℕ, zero, suc, ◌≤◌, List, [], ◌∷◌, length, false, Some, None}
use Rattle.meaning.specs.Words.{Task, Build, File, bundle_file, files_of}
use Rattle.meaning.specs.Answers.{Answer, IsAnswer, bundle_in}
use Rattle.meaning.specs.TopCall.{Outside, Diagrams, AllWithin, AgreeWith}
use Rattle.workbench.specs.declared.status.Status.{Status}
use Rattle.workbench.specs.declared.status.Status.TheVariants as status
use Rattle.workbench.specs.BuildingStage.{building_cases}
use Rattle.workbench.specs.Limits.{IfOpen, OpenedForFiles, OpenedForTask}
use Rattle.workbench.specs.Run.{IsFileOf, StopsFiles, Refuses, StopsBuilding, AnswersTask, StopsTask}
use Rattle.workbench.proofs.TextAnswers.{refuses_by}

module _ (task : Task) (before after : Outside) (old new : Diagrams) where
  pub files_stop : (s : Status) → StopsFiles (files_of task) before after s → StopsTask task before after old new s
  files_stop status.Done h = absurd h
  files_stop status.BadWords h = absurd h
  files_stop (status.BadBundle fault) h = absurd h
  files_stop (status.BadConfig rule at) h = absurd h
  files_stop status.NotValid h = absurd h
  files_stop (status.BadCase fault) h = absurd h
  files_stop (status.NodeLimit used) h = absurd h
  files_stop (status.BigCase entries) h = absurd h
  files_stop (status.TooLong k) h = h
  files_stop (status.ReadFault k) h = h
  files_stop status.WriteFault h = absurd h
  files_stop status.NoMemory h = tt
  files_stop status.Unsupported h = absurd h

  pub refusal_stops : (s : Status) → Refuses (AnswersTask task before) s → StopsTask task before after old new s
  refusal_stops status.Done h = absurd h
  refusal_stops status.BadWords h = absurd h
  refusal_stops (status.BadBundle fault) h = h
  refusal_stops (status.BadConfig rule at) h = h
  refusal_stops status.NotValid h = h
  refusal_stops (status.BadCase fault) h = h
  refusal_stops (status.NodeLimit used) h = absurd h
  refusal_stops (status.BigCase entries) h = h
  refusal_stops (status.TooLong k) h = absurd h
  refusal_stops (status.ReadFault k) h = absurd h
  refusal_stops status.WriteFault h = absurd h
  refusal_stops status.NoMemory h = tt
  refusal_stops status.Unsupported h = h

  -- the bytes of all files were read
  module _ (files : List (List ℕ)) (agree : AgreeWith before (files_of task) files) where
    pub task_answered : (a : Answer) → IsAnswer building_cases task files a → AnswersTask task before a
    task_answered a h = record { files = files; agree = agree; is = h }

    pub task_refused : (s : Status) → Refuses (IsAnswer building_cases task files) s → StopsTask task before after old new s
    task_refused s h = refusal_stops s (refuses_by (IsAnswer building_cases task files) (AnswersTask task before) task_answered s h)

-- diagrams of which nothing matters
abbrev pub no_diagrams : Diagrams
no_diagrams = record { is_open = false; limit = 0; features = 0; asked = 0; refused = 0; taken = 0 }

-- the one file of a build
pub one_file : (name : List ℕ) (before : Outside) (bytes : List ℕ) → IsFileOf (before.holds name) 16777216 bytes → AgreeWith before (files_of (Build name)) (bytes ∷ [])
one_file name before bytes read = (read.agree, (read.short, tt))

-- the bytes of two files, as they were handed on
pub two_files : (before : Outside) (fs : List File) (bytes chosen first second : List ℕ) → first ≡ bytes → second ≡ chosen
    → AgreeWith before fs (bytes ∷ chosen ∷ []) → AgreeWith before fs (first ∷ second ∷ [])
two_files before fs bytes chosen first second e f a =
    subst (λ x. AgreeWith before fs (x ∷ second ∷ [])) (sym e) (subst (λ y. AgreeWith before fs (bytes ∷ y ∷ [])) (sym f) a)

-- what stops a build, from what was read of its file
module _ (name : List ℕ) (before after : Outside) (old new : Diagrams) (bytes : List ℕ) (read : IsFileOf (before.holds name) 16777216 bytes) where
  pub build_stops : (s : Status) → StopsBuilding old new (IsAnswer building_cases (Build name) (bytes ∷ [])) s → StopsTask (Build name) before after old new s
  build_stops status.Done h = absurd h
  build_stops status.BadWords h = absurd h
  build_stops (status.BadBundle fault) h = task_answered (Build name) before after old new (bytes ∷ []) (one_file name before bytes read) _ h
  build_stops (status.BadConfig rule at) h = task_answered (Build name) before after old new (bytes ∷ []) (one_file name before bytes read) _ h
  build_stops status.NotValid h = task_answered (Build name) before after old new (bytes ∷ []) (one_file name before bytes read) _ h
  build_stops (status.BadCase fault) h = task_answered (Build name) before after old new (bytes ∷ []) (one_file name before bytes read) _ h
  build_stops (status.NodeLimit used) h = h
  build_stops (status.BigCase entries) h = task_answered (Build name) before after old new (bytes ∷ []) (one_file name before bytes read) _ h
  build_stops (status.TooLong k) h = absurd h
  build_stops (status.ReadFault k) h = absurd h
  build_stops status.WriteFault h = absurd h
  build_stops status.NoMemory h = tt
  build_stops status.Unsupported h = task_answered (Build name) before after old new (bytes ∷ []) (one_file name before bytes read) _ h

  pub build_opened : (limit : ℕ) → IfOpen new (OpenedForFiles (Build name) (bytes ∷ []) limit new) → IfOpen new (OpenedForTask (Build name) before limit new)
  build_opened limit h there = record { files = bytes ∷ []; agree = one_file name before bytes read; opened = h there }
