use Rattle.std.proofs.Common.{[], ◌∷◌, ◌≤◌, length, sym, subst}
use Rattle.std.proofs.lemmas.Result.{IfOk-weaker, IfErr-weaker}
use Rattle.meaning.specs.Features.{feature_names}
use Rattle.meaning.specs.Words.{Build}
use Rattle.meaning.specs.Answers.{Prints, IsAnswer, IsBuildAnswer, ShowsCase, bundle_in}
use Rattle.workbench.specs.BuildingStage.{building_cases}
use Rattle.workbench.specs.BundleView.{bundle_view}
use Rattle.workbench.specs.Limits.{diagrams_of}
use Rattle.workbench.specs.Readings.{IsGoodBundle}
use Rattle.workbench.specs.Run.{StopsBuilding}
use Rattle.workbench.proofs.Exits.{stops_with}
use Rattle.workbench.proofs.BuildAnswers.{build_answered, bundle_stops, building_stops}
use Rattle.workbench.proofs.OpenedDiagrams.{is_shut, shut_is_opened, bundle_left, opened_for_bundle}
use Rattle.workbench.proofs.building.build.Goals as goal

pub returns-in_err-bundle-clause-stopped : goal.returns-in_err-bundle-clause-stopped
returns-in_err-bundle-clause-stopped c =
    stops_with _ _ _ c.from_residual.ensures.1
    (bundle_stops c.args.name.now c.args.bytes.now (diagrams_of c.args.d.now) (diagrams_of c.args.d.now) _ c.in_err-bundle.ensures.stopped)

pub returns-in_err-bundle-clause-opened : goal.returns-in_err-bundle-clause-opened
returns-in_err-bundle-clause-opened c = shut_is_opened (diagrams_of c.args.d.now) _ (is_shut c.args.d.now c.requires.shut)

pub returns-in_err-bundle-clause-left : goal.returns-in_err-bundle-clause-left
returns-in_err-bundle-clause-left c =
    stops_with _ _ _ c.from_residual.ensures.1
    (bundle_left (diagrams_of c.args.d.now) (is_shut c.args.d.now c.requires.shut) c.args.name.now c.args.bytes.now _ c.in_err-bundle.ensures.stopped)

pub build_bundle-requires-clause-read : goal.build_bundle-requires-clause-read
build_bundle-requires-clause-read c = (subst (IsGoodBundle (bundle_in building_cases c.args.name.now c.args.bytes.now)) (sym c.deref.ensures) c.in_ok-bundle.ensures.good).read

pub returns-clause-built : goal.returns-clause-built
returns-clause-built c =
    let b = c.deref.result.now in
    let good = subst (IsGoodBundle (bundle_in building_cases c.args.name.now c.args.bytes.now)) (sym c.deref.ensures) c.in_ok-bundle.ensures.good in
    IfOk-weaker c.build_bundle.result (λ v. IsBuildAnswer building_cases (bundle_view b) ShowsCase (Prints v.items))
    (λ v. IsAnswer building_cases (Build c.args.name.now) (c.args.bytes.now ∷ []) (Prints v.items))
    (λ v h. build_answered c.args.name.now c.args.bytes.now b (Prints v.items) good h) c.build_bundle.ensures.built

pub returns-clause-stopped : goal.returns-clause-stopped
returns-clause-stopped c =
    let b = c.deref.result.now in
    let good = subst (IsGoodBundle (bundle_in building_cases c.args.name.now c.args.bytes.now)) (sym c.deref.ensures) c.in_ok-bundle.ensures.good in
    let old = diagrams_of c.args.d.now in
    let new = diagrams_of c.build_bundle.new.d in
    IfErr-weaker c.build_bundle.result (StopsBuilding old new (IsBuildAnswer building_cases (bundle_view b) ShowsCase))
    (StopsBuilding old new (IsAnswer building_cases (Build c.args.name.now) (c.args.bytes.now ∷ [])))
    (λ s h. building_stops c.args.name.now c.args.bytes.now old new b s good h) c.build_bundle.ensures.stopped

pub returns-clause-opened : goal.returns-clause-opened
returns-clause-opened c =
    let b = c.deref.result.now in
    let good = subst (IsGoodBundle (bundle_in building_cases c.args.name.now c.args.bytes.now)) (sym c.deref.ensures) c.in_ok-bundle.ensures.good in
    λ is_open. opened_for_bundle c.args.name.now c.args.bytes.now b c.args.limit (diagrams_of c.build_bundle.new.d) good (c.build_bundle.ensures.opened is_open)
