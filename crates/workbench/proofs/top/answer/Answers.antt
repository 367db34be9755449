use Rattle.std.proofs.Common.{◌∙◌, ap, sym, map, string_bytes}
use Rattle.std.specs.Prelude.{option_map, Some}
use Rattle.std.proofs.lemmas.Result.{IfOk-weaker, IfErr-weaker}
use Rattle.meaning.specs.Answers.{Prints}
use Rattle.meaning.specs.Statuses.{Done, BadWords}
use Rattle.meaning.specs.TopCall.{Answered, Leaves, open_after}
use Rattle.workbench.specs.WordsView.{task_view, invocation_view}
use Rattle.workbench.specs.BuildingStage.{building_cases}
use Rattle.workbench.specs.Limits.{LeftAs, diagrams_of}
use Rattle.workbench.specs.StatusView.{status_view}
use Rattle.workbench.specs.Run.{shelf_of, AnswersTask, StopsTask, Stops}
use Rattle.workbench.proofs.CommandLines.{known_words}
use Rattle.workbench.proofs.OpenedDiagrams.{is_shut}
use Rattle.workbench.proofs.TopCauses.{words_answered, words_stop, words_leave, unread_leave}
use Rattle.workbench.proofs.top.answer.Goals as goal

pub returns-in-Some-clause-answered : goal.returns-in-Some-clause-answered
returns-in-Some-clause-answered g c =
    let words = map string_bytes c.args.words.now in
    let reads = known_words words ∙ sym c.read_words.ensures.words ∙ ap (option_map invocation_view) c.in-Some.is in
    let before = shelf_of (g.F.Shelf.holds c.args.shelf.now) (g.F.Shelf.faults c.args.shelf.now) (g.F.Shelf.next c.args.shelf.now) (g.F.Shelf.given c.args.shelf.now) in
    let task = task_view c.in-Some.invocation.task in
    IfOk-weaker c.answer_task.result (λ v. AnswersTask task before (Prints v.items)) (λ v. Answered building_cases words before (Prints v.items))
    (λ v h. words_answered words before before task c.in-Some.invocation.node_limit (diagrams_of c.args.d.now) (diagrams_of c.args.d.now) reads (Prints v.items) h) c.answer_task.ensures.answered

pub returns-in-Some-clause-stopped : goal.returns-in-Some-clause-stopped
returns-in-Some-clause-stopped g c =
    let words = map string_bytes c.args.words.now in
    let reads = known_words words ∙ sym c.read_words.ensures.words ∙ ap (option_map invocation_view) c.in-Some.is in
    let before = shelf_of (g.F.Shelf.holds c.args.shelf.now) (g.F.Shelf.faults c.args.shelf.now) (g.F.Shelf.next c.args.shelf.now) (g.F.Shelf.given c.args.shelf.now) in
    let after = shelf_of (g.F.Shelf.holds c.answer_task.new.shelf) (g.F.Shelf.faults c.answer_task.new.shelf) (g.F.Shelf.next c.answer_task.new.shelf) (g.F.Shelf.given c.answer_task.new.shelf) in
    let task = task_view c.in-Some.invocation.task in
    let old = diagrams_of c.args.d.now in
    let new = diagrams_of c.answer_task.new.d in
    IfErr-weaker c.answer_task.result (StopsTask task before after old new) (Stops words before after old new)
    (λ s h. words_stop words before after task c.in-Some.invocation.node_limit old new reads c.answer_task.ensures.opened s h) c.answer_task.ensures.stopped

pub returns-in-Some-clause-leaves_done : goal.returns-in-Some-clause-leaves_done
returns-in-Some-clause-leaves_done g c =
    let words = map string_bytes c.args.words.now in
    let reads = known_words words ∙ sym c.read_words.ensures.words ∙ ap (option_map invocation_view) c.in-Some.is in
    let before = shelf_of (g.F.Shelf.holds c.args.shelf.now) (g.F.Shelf.faults c.args.shelf.now) (g.F.Shelf.next c.args.shelf.now) (g.F.Shelf.given c.args.shelf.now) in
    let new = diagrams_of c.answer_task.new.d in
    IfOk-weaker c.answer_task.result (λ _. LeftAs (open_after (Some (invocation_view c.in-Some.invocation)) Done) new) (λ _. Leaves building_cases words before new Done)
    (λ _ left. words_leave words before before (task_view c.in-Some.invocation.task) c.in-Some.invocation.node_limit new new reads Done c.answer_task.ensures.opened left)
    c.answer_task.ensures.left_done

pub returns-in-Some-clause-leaves : goal.returns-in-Some-clause-leaves
returns-in-Some-clause-leaves g c =
    let words = map string_bytes c.args.words.now in
    let reads = known_words words ∙ sym c.read_words.ensures.words ∙ ap (option_map invocation_view) c.in-Some.is in
    let before = shelf_of (g.F.Shelf.holds c.args.shelf.now) (g.F.Shelf.faults c.args.shelf.now) (g.F.Shelf.next c.args.shelf.now) (g.F.Shelf.given c.args.shelf.now) in
    let new = diagrams_of c.answer_task.new.d in
    IfErr-weaker c.answer_task.result (λ s. LeftAs (open_after (Some (invocation_view c.in-Some.invocation)) (status_view s)) new)
    (λ s. Leaves building_cases words before new (status_view s))
    (λ s left. words_leave words before before (task_view c.in-Some.invocation.task) c.in-Some.invocation.node_limit new new reads (status_view s) c.answer_task.ensures.opened left)
    c.answer_task.ensures.left

pub returns-in-None-clause-leaves : goal.returns-in-None-clause-leaves
returns-in-None-clause-leaves g c =
    unread_leave (map string_bytes c.args.words.now) _ (diagrams_of c.args.d.now) BadWords
    (known_words (map string_bytes c.args.words.now) ∙ sym c.read_words.ensures.words ∙ ap (option_map invocation_view) c.in-None.is)
    (is_shut c.args.d.now c.requires)

pub returns-in-None-clause-stopped : goal.returns-in-None-clause-stopped
returns-in-None-clause-stopped g c =
    record { unread = known_words (map string_bytes c.args.words.now) ∙ sym c.read_words.ensures.words ∙ ap (option_map invocation_view) c.in-None.is }
