use Rattle.std.proofs.Common.{◌≡◌, refl, sym, ap, subst, true, false}
use Rattle.std.specs.Prelude.{Some}
use Rattle.std.proofs.lemmas.Result.{IfOk-weaker, IfErr-weaker}
use Rattle.meaning.specs.Statuses.{Done}
use Rattle.meaning.specs.TopCall.{Diagrams, open_under, open_after}
use Rattle.meaning.specs.Words.{Derive, Product, uses_diagrams}
use Rattle.workbench.specs.declared.words.Task.{Task}
use Rattle.workbench.specs.Limits.{LeftAs, diagrams_of}
use Rattle.workbench.specs.StatusView.{status_view}
use Rattle.workbench.specs.Run.{shelf_of, StopsTask}
use Rattle.workbench.specs.WordsView.{task_view, invocation_view}
use Rattle.workbench.proofs.Exits.{on_each_ok, on_each_err}
use Rattle.workbench.proofs.OpenedDiagrams.{is_shut, shut_is_opened, left_as, task_left, plain_left}
use Rattle.workbench.proofs.tasks.answer_task.Goals as goal

pub returns-in-Derive-clause-stopped : goal.returns-in-Derive-clause-stopped
returns-in-Derive-clause-stopped g c =
    let before = shelf_of (g.F.Shelf.holds c.args.shelf.now) (g.F.Shelf.faults c.args.shelf.now) (g.F.Shelf.next c.args.shelf.now) (g.F.Shelf.given c.args.shelf.now) in
    let after = shelf_of (g.F.Shelf.holds c.answer_derive.new.shelf) (g.F.Shelf.faults c.answer_derive.new.shelf) (g.F.Shelf.next c.answer_derive.new.shelf) (g.F.Shelf.given c.answer_derive.new.shelf) in
    let d = diagrams_of c.args.d.now in
    let task = Derive c.in-Derive.case.now c.in-Derive.configuration.now in
    IfErr-weaker c.answer_derive.result (λ s. (old new : Diagrams) → StopsTask task before after old new s)
    (StopsTask (task_view c.args.invocation.now.task) before after d d)
    (λ s h. subst (λ t. StopsTask (task_view t) before after d d s) (sym c.in-Derive.is) (h d d)) c.answer_derive.ensures.stopped

pub returns-in-Product-clause-stopped : goal.returns-in-Product-clause-stopped
returns-in-Product-clause-stopped g c =
    let before = shelf_of (g.F.Shelf.holds c.args.shelf.now) (g.F.Shelf.faults c.args.shelf.now) (g.F.Shelf.next c.args.shelf.now) (g.F.Shelf.given c.args.shelf.now) in
    let after = shelf_of (g.F.Shelf.holds c.answer_product.new.shelf) (g.F.Shelf.faults c.answer_product.new.shelf) (g.F.Shelf.next c.answer_product.new.shelf) (g.F.Shelf.given c.answer_product.new.shelf) in
    let d = diagrams_of c.args.d.now in
    let task = Product c.in-Product.bundle.now c.in-Product.configuration.now in
    IfErr-weaker c.answer_product.result (λ s. (old new : Diagrams) → StopsTask task before after old new s)
    (StopsTask (task_view c.args.invocation.now.task) before after d d)
    (λ s h. subst (λ t. StopsTask (task_view t) before after d d s) (sym c.in-Product.is) (h d d)) c.answer_product.ensures.stopped

pub returns-in-Build-clause-left_done : goal.returns-in-Build-clause-left_done
returns-in-Build-clause-left_done g c =
    let new = diagrams_of c.answer_build.new.d in
    let i = invocation_view c.args.invocation.now in
    let uses : uses_diagrams (task_view c.args.invocation.now.task) ≡ true = ap (λ (t : Task). uses_diagrams (task_view t)) c.in-Build.is in
    IfOk-weaker c.answer_build.result (λ _. new.is_open ≡ true) (λ _. LeftAs (open_after (Some i) Done) new)
    (λ _ there. task_left i Done new uses (left_as new (open_under Done) true there refl)) c.answer_build.ensures.open

pub returns-in-Build-clause-left : goal.returns-in-Build-clause-left
returns-in-Build-clause-left g c =
    let new = diagrams_of c.answer_build.new.d in
    let i = invocation_view c.args.invocation.now in
    let uses : uses_diagrams (task_view c.args.invocation.now.task) ≡ true = ap (λ (t : Task). uses_diagrams (task_view t)) c.in-Build.is in
    IfErr-weaker c.answer_build.result (λ s. LeftAs (open_under (status_view s)) new) (λ s. LeftAs (open_after (Some i) (status_view s)) new)
    (λ s h. task_left i (status_view s) new uses h) c.answer_build.ensures.left

pub returns-in-Derive-clause-opened : goal.returns-in-Derive-clause-opened
returns-in-Derive-clause-opened g c = shut_is_opened (diagrams_of c.args.d.now) _ (is_shut c.args.d.now c.requires.shut)

pub returns-in-Derive-clause-left_done : goal.returns-in-Derive-clause-left_done
returns-in-Derive-clause-left_done g c =
    let d = diagrams_of c.args.d.now in
    let i = invocation_view c.args.invocation.now in
    let plain : uses_diagrams (task_view c.args.invocation.now.task) ≡ false = ap (λ (t : Task). uses_diagrams (task_view t)) c.in-Derive.is in
    on_each_ok c.answer_derive.result (LeftAs (open_after (Some i) Done) d) (plain_left i Done d plain (is_shut c.args.d.now c.requires.shut))

pub returns-in-Derive-clause-left : goal.returns-in-Derive-clause-left
returns-in-Derive-clause-left g c =
    let d = diagrams_of c.args.d.now in
    let i = invocation_view c.args.invocation.now in
    let plain : uses_diagrams (task_view c.args.invocation.now.task) ≡ false = ap (λ (t : Task). uses_diagrams (task_view t)) c.in-Derive.is in
    on_each_err c.answer_derive.result (λ s. LeftAs (open_after (Some i) (status_view s)) d) (λ s. plain_left i (status_view s) d plain (is_shut c.args.d.now c.requires.shut))

pub returns-in-Product-clause-opened : goal.returns-in-Product-clause-opened
returns-in-Product-clause-opened g c = shut_is_opened (diagrams_of c.args.d.now) _ (is_shut c.args.d.now c.requires.shut)

pub returns-in-Product-clause-left_done : goal.returns-in-Product-clause-left_done
returns-in-Product-clause-left_done g c =
    let d = diagrams_of c.args.d.now in
    let i = invocation_view c.args.invocation.now in
    let plain : uses_diagrams (task_view c.args.invocation.now.task) ≡ false = ap (λ (t : Task). uses_diagrams (task_view t)) c.in-Product.is in
    on_each_ok c.answer_product.result (LeftAs (open_after (Some i) Done) d) (plain_left i Done d plain (is_shut c.args.d.now c.requires.shut))

pub returns-in-Product-clause-left : goal.returns-in-Product-clause-left
returns-in-Product-clause-left g c =
    let d = diagrams_of c.args.d.now in
    let i = invocation_view c.args.invocation.now in
    let plain : uses_diagrams (task_view c.args.invocation.now.task) ≡ false = ap (λ (t : Task). uses_diagrams (task_view t)) c.in-Product.is in
    on_each_err c.answer_product.result (λ s. LeftAs (open_after (Some i) (status_view s)) d) (λ s. plain_left i (status_view s) d plain (is_shut c.args.d.now c.requires.shut))
