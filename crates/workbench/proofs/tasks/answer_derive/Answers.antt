use Rattle.std.proofs.Common.{[], ◌∷◌}
use Rattle.std.proofs.lemmas.Result.{IfOk-weaker, IfErr-weaker}
use Rattle.meaning.specs.Words.{Derive, files_of}
use Rattle.meaning.specs.Answers.{Prints, IsAnswer}
use Rattle.meaning.specs.TopCall.{Diagrams}
use Rattle.workbench.specs.BuildingStage.{building_cases}
use Rattle.workbench.specs.Run.{shelf_of, Refuses, AnswersTask, StopsTask}
use Rattle.workbench.specs.Readings.{AnswersDerive}
use Rattle.workbench.proofs.TextAnswers.{refuses_by}
use Rattle.workbench.proofs.TaskAnswers.{no_diagrams, two_files, task_answered, task_refused}
use Rattle.workbench.proofs.tasks.answer_derive.Goals as goal

pub returns-clause-answered : goal.returns-clause-answered
returns-clause-answered g c =
    let task = Derive c.args.case.now c.args.configuration.now in
    let before = shelf_of (g.F.Shelf.holds c.args.shelf.now) (g.F.Shelf.faults c.args.shelf.now) (g.F.Shelf.next c.args.shelf.now) (g.F.Shelf.given c.args.shelf.now) in
    let bytes = c.deref.result.now in
    let chosen = c.deref-2.result.now in
    let agree = two_files before (files_of task) c.in_ok-bytes.bytes.items c.in_ok-bytes.chosen.items bytes chosen c.deref.ensures.value c.deref-2.ensures.value c.in_ok-bytes.ensures.read in
    IfOk-weaker c.derive.result (λ v. AnswersDerive bytes c.args.configuration.now chosen (Prints v.items)) (λ v. AnswersTask task before (Prints v.items))
    (λ v h. task_answered task before before no_diagrams no_diagrams (bytes ∷ chosen ∷ []) agree (Prints v.items) (h c.args.case.now)) c.derive.ensures.derived

pub returns-clause-stopped : goal.returns-clause-stopped
returns-clause-stopped g c =
    let task = Derive c.args.case.now c.args.configuration.now in
    let before = shelf_of (g.F.Shelf.holds c.args.shelf.now) (g.F.Shelf.faults c.args.shelf.now) (g.F.Shelf.next c.args.shelf.now) (g.F.Shelf.given c.args.shelf.now) in
    let after = shelf_of (g.F.Shelf.holds c.read_two_files.new.shelf) (g.F.Shelf.faults c.read_two_files.new.shelf) (g.F.Shelf.next c.read_two_files.new.shelf) (g.F.Shelf.given c.read_two_files.new.shelf) in
    let bytes = c.deref.result.now in
    let chosen = c.deref-2.result.now in
    let agree = two_files before (files_of task) c.in_ok-bytes.bytes.items c.in_ok-bytes.chosen.items bytes chosen c.deref.ensures.value c.deref-2.ensures.value c.in_ok-bytes.ensures.read in
    IfErr-weaker c.derive.result (Refuses (AnswersDerive bytes c.args.configuration.now chosen)) (λ s. (old new : Diagrams) → StopsTask task before after old new s)
    (λ s h old new. task_refused task before after old new (bytes ∷ chosen ∷ []) agree s (refuses_by (AnswersDerive bytes c.args.configuration.now chosen) (IsAnswer building_cases task (bytes ∷ chosen ∷ [])) (λ a i. i c.args.case.now) s h)) c.derive.ensures.refused
