use Rattle.std.proofs.Common.{ap, refl, [], ◌∷◌}
use Rattle.std.specs.Prelude.{Err}
use Rattle.std.proofs.lemmas.Result.{IfOk-weaker, IfErr-weaker}
use Rattle.meaning.specs.Answers.{bundle_in}
use Rattle.meaning.specs.BundleRules.{no_table}
use Rattle.doc_tree.specs.View.{document}
use Rattle.workbench.specs.BuildingStage.{building_cases}
use Rattle.workbench.specs.Readings.{IsReadFrom, IsGoodBundle, StopsDocument, StopsBundle}
use Rattle.workbench.proofs.BundleReadings.{no_document_is_faulty, good_bundle, stops_document}
use Rattle.workbench.proofs.bundle.read_bundle.Goals as goal

pub returns-in-Ok-clause-good : goal.returns-in-Ok-clause-good
returns-in-Ok-clause-good c =
    IfOk-weaker c.bundle_of.result (λ b. IsReadFrom (document c.in-Ok.bundle) b.value) (λ b. IsGoodBundle (bundle_in building_cases c.args.name.now c.args.bytes.now) b.value)
    (λ b h. good_bundle c.args.name.now c.args.bytes.now (document c.in-Ok.bundle) c.in-Ok.ensures.ok b.value h) c.bundle_of.ensures.read

pub returns-in-Ok-clause-stopped : goal.returns-in-Ok-clause-stopped
returns-in-Ok-clause-stopped c =
    IfErr-weaker c.bundle_of.result (StopsDocument (document c.in-Ok.bundle)) (StopsBundle (bundle_in building_cases c.args.name.now c.args.bytes.now))
    (λ s h. stops_document c.args.name.now c.args.bytes.now (document c.in-Ok.bundle) c.in-Ok.ensures.ok s h) c.bundle_of.ensures.stopped

pub returns-in-Err-NotDocument-clause-stopped : goal.returns-in-Err-NotDocument-clause-stopped
returns-in-Err-NotDocument-clause-stopped c =
    let none = c.in-Err-NotDocument.ensures.not (ap Err c.in-Err-NotDocument.field-0-is) in
    (no_table ∷ [], no_document_is_faulty c.args.name.now c.args.bytes.now none, refl)
