use Rattle.std.proofs.Common.{[], ◌∷◌, sym, subst}
use Rattle.std.proofs.lemmas.Result.{IfOk-weaker, IfErr-weaker}
use Rattle.meaning.specs.Words.{Product}
use Rattle.meaning.specs.Answers.{Prints, IsAnswer, bundle_in}
use Rattle.workbench.specs.BuildingStage.{building_cases}
use Rattle.workbench.specs.BundleView.{bundle_view}
use Rattle.workbench.specs.Run.{Refuses}
use Rattle.workbench.specs.Readings.{IsGoodBundle, AnswersProduct}
use Rattle.workbench.proofs.Exits.{stops_with}
use Rattle.workbench.proofs.TextAnswers.{product_answered, product_refused, product_stops}
use Rattle.workbench.proofs.product_text.product.Goals as goal

pub returns-in_err-bundle-clause-refused : goal.returns-in_err-bundle-clause-refused
returns-in_err-bundle-clause-refused c =
    stops_with _ _ _ c.from_residual.ensures.1
    (product_stops c.args.bundle_name.now c.args.bytes.now c.args.name.now c.args.chosen.now _ c.in_err-bundle.ensures.stopped)

pub product_of-requires : goal.product_of-requires
product_of-requires c = (subst (IsGoodBundle (bundle_in building_cases c.args.bundle_name.now c.args.bytes.now)) (sym c.deref.ensures) c.in_ok-bundle.ensures.good).read

pub returns-clause-text : goal.returns-clause-text
returns-clause-text c =
    let b = c.deref.result.now in
    let bundle = c.args.bundle_name.now in
    let bytes = c.args.bytes.now in
    let good = subst (IsGoodBundle (bundle_in building_cases bundle bytes)) (sym c.deref.ensures) c.in_ok-bundle.ensures.good in
    let name = c.args.name.now in
    let chosen = c.args.chosen.now in
    IfOk-weaker c.product_of.result (λ v. AnswersProduct (bundle_view b) name chosen (Prints v.items))
    (λ v. IsAnswer building_cases (Product bundle name) (bytes ∷ chosen ∷ []) (Prints v.items))
    (λ v h. product_answered bundle bytes name chosen b (Prints v.items) good h) c.product_of.ensures.text

pub returns-clause-refused : goal.returns-clause-refused
returns-clause-refused c =
    let b = c.deref.result.now in
    let bundle = c.args.bundle_name.now in
    let bytes = c.args.bytes.now in
    let good = subst (IsGoodBundle (bundle_in building_cases bundle bytes)) (sym c.deref.ensures) c.in_ok-bundle.ensures.good in
    let name = c.args.name.now in
    let chosen = c.args.chosen.now in
    IfErr-weaker c.product_of.result (Refuses (AnswersProduct (bundle_view b) name chosen)) (Refuses (IsAnswer building_cases (Product bundle name) (bytes ∷ chosen ∷ [])))
    (λ s h. product_refused bundle bytes name chosen b s good h) c.product_of.ensures.refused
