use Rattle.std.proofs.Common.{[], ◌∷◌, sym, subst}
use Rattle.std.proofs.lemmas.Result.{IfOk-weaker, IfErr-weaker}
use Rattle.meaning.specs.Words.{Build}
use Rattle.meaning.specs.Answers.{Prints, IsAnswer}
use Rattle.workbench.specs.BuildingStage.{building_cases}
use Rattle.workbench.specs.Limits.{diagrams_of}
use Rattle.workbench.specs.Run.{shelf_of, file_of, IsFileOf, StopsBuilding, AnswersTask, StopsTask}
use Rattle.workbench.proofs.OpenedDiagrams.{is_shut, shut_is_opened, file_left}
use Rattle.workbench.proofs.Exits.{stops_with}
use Rattle.workbench.proofs.FileReads.{first_stops}
use Rattle.workbench.proofs.TaskAnswers.{files_stop, one_file, task_answered, build_stops, build_opened}
use Rattle.workbench.proofs.tasks.answer_build.Goals as goal

pub returns-in_err-bytes-clause-stopped : goal.returns-in_err-bytes-clause-stopped
returns-in_err-bytes-clause-stopped g c =
    stops_with _ _ _ c.from_residual.ensures.1
    (files_stop (Build c.args.bundle.now) _ _ (diagrams_of c.args.d.now) (diagrams_of c.args.d.now) _
    (first_stops (file_of c.args.bundle.now 16777216) [] _ _ _ c.in_err-bytes.ensures.stopped))

pub returns-in_err-bytes-clause-opened : goal.returns-in_err-bytes-clause-opened
returns-in_err-bytes-clause-opened g c = shut_is_opened (diagrams_of c.args.d.now) _ (is_shut c.args.d.now c.requires.shut)

pub returns-in_err-bytes-clause-left : goal.returns-in_err-bytes-clause-left
returns-in_err-bytes-clause-left g c =
    stops_with _ _ _ c.from_residual.ensures.1
    (file_left (diagrams_of c.args.d.now) (is_shut c.args.d.now c.requires.shut) 0 (file_of c.args.bundle.now 16777216) _ _ _ c.in_err-bytes.ensures.stopped)

pub returns-clause-answered : goal.returns-clause-answered
returns-clause-answered g c =
    let task = Build c.args.bundle.now in
    let before = shelf_of (g.F.Shelf.holds c.args.shelf.now) (g.F.Shelf.faults c.args.shelf.now) (g.F.Shelf.next c.args.shelf.now) (g.F.Shelf.given c.args.shelf.now) in
    let bytes = c.deref.result.now in
    let read = subst (IsFileOf (before.holds c.args.bundle.now) 16777216) (sym c.deref.ensures.value) c.in_ok-bytes.ensures.read in
    let old = diagrams_of c.args.d.now in
    let new = diagrams_of c.build.new.d in
    IfOk-weaker c.build.result (λ v. IsAnswer building_cases task (bytes ∷ []) (Prints v.items)) (λ v. AnswersTask task before (Prints v.items))
    (λ v h. task_answered task before before old new (bytes ∷ []) (one_file c.args.bundle.now before bytes read) (Prints v.items) h) c.build.ensures.built

pub returns-clause-stopped : goal.returns-clause-stopped
returns-clause-stopped g c =
    let task = Build c.args.bundle.now in
    let before = shelf_of (g.F.Shelf.holds c.args.shelf.now) (g.F.Shelf.faults c.args.shelf.now) (g.F.Shelf.next c.args.shelf.now) (g.F.Shelf.given c.args.shelf.now) in
    let after = shelf_of (g.F.Shelf.holds c.read_file.new.shelf) (g.F.Shelf.faults c.read_file.new.shelf) (g.F.Shelf.next c.read_file.new.shelf) (g.F.Shelf.given c.read_file.new.shelf) in
    let bytes = c.deref.result.now in
    let read = subst (IsFileOf (before.holds c.args.bundle.now) 16777216) (sym c.deref.ensures.value) c.in_ok-bytes.ensures.read in
    let old = diagrams_of c.args.d.now in
    let new = diagrams_of c.build.new.d in
    IfErr-weaker c.build.result (StopsBuilding old new (IsAnswer building_cases task (bytes ∷ []))) (StopsTask task before after old new)
    (λ s h. build_stops c.args.bundle.now before after old new bytes read s h) c.build.ensures.stopped

pub returns-clause-opened : goal.returns-clause-opened
returns-clause-opened g c =
    let before = shelf_of (g.F.Shelf.holds c.args.shelf.now) (g.F.Shelf.faults c.args.shelf.now) (g.F.Shelf.next c.args.shelf.now) (g.F.Shelf.given c.args.shelf.now) in
    let bytes = c.deref.result.now in
    let read = subst (IsFileOf (before.holds c.args.bundle.now) 16777216) (sym c.deref.ensures.value) c.in_ok-bytes.ensures.read in
    let new = diagrams_of c.build.new.d in
    build_opened c.args.bundle.now before before new new bytes read c.args.limit c.build.ensures.opened
