use Rattle.std.proofs.Common.{◌≡◌, refl, sym, ap, subst, length, ◌∙◌, []}
use Rattle.std.proofs.lemmas.List.{length-map}
use Rattle.std.proofs.lemmas.Result.{IfOk-weaker, IfErr-weaker}
use Rattle.meaning.specs.Answers.{Prints, product_answer}
use Rattle.meaning.specs.CaseFiles.{cut}
use Rattle.case_derive.specs.Keys.{unkeyed}
use Rattle.case_derive.specs.OneWorld.{document_at_one}
use Rattle.workbench.specs.BuildingStage.{building_cases}
use Rattle.workbench.specs.BundleView.{bundle_view}
use Rattle.workbench.specs.Run.{Refuses}
use Rattle.workbench.proofs.Exits.{stops_with}
use Rattle.workbench.proofs.BundleFacts.{without_solutions, names_features_of, instance_of}
use Rattle.workbench.proofs.ProductFacts.{only_later, lifting_refuses, printed_here}
use Rattle.workbench.proofs.product_text.product_text.Goals as goal

pub instantiate-requires-clause-names : goal.instantiate-requires-clause-names
instantiate-requires-clause-names c = names_features_of c.args.bundle.now c.requires.read _ (c.new-one.ensures.only.count ∙ c.requires.length)

pub instantiate-requires-clause-unsolved : goal.instantiate-requires-clause-unsolved
instantiate-requires-clause-unsolved c = without_solutions c.args.bundle.now c.requires.read

pub returns-in_err-case-clause-refused : goal.returns-in_err-case-clause-refused
returns-in_err-case-clause-refused c =
    stops_with _ _ _ c.from_residual.ensures.1
    (lifting_refuses c.args.bundle.now c.args.world.now _ (only_later c.args.world.now _ _ c.new-one.ensures.only c.instantiate.ensures.kept refl) _
    c.args.bundle.now.templates refl _ c.in_err-case.ensures.stops)

pub text_of-requires : goal.text_of-requires
text_of-requires c =
    c.requires.length ∙ sym (length-map c.args.bundle.now.line.features (λ f. f.name)) ∙ ap length (sym (c.in_ok-case.ensures.lifted.features ∙ c.features.ensures))

pub returns-clause-text : goal.returns-clause-text
returns-clause-text c =
    let b = c.args.bundle.now in
    let case = c.in_ok-case.case in
    IfOk-weaker c.text_of.result _ (λ v. product_answer building_cases (bundle_view b) c.args.world.now ≡ Prints v.items)
    (λ v h. printed_here b c.args.world.now _ (only_later c.args.world.now _ _ c.new-one.ensures.only c.instantiate.ensures.kept refl) case
    (instance_of _ case b.model _ _ _ _ _ _ c.text.ensures c.features.ensures refl c.in_ok-case.ensures.lifted) c.requires.valid
    (unkeyed (cut (document_at_one case) [])) case.title case.features v.items h refl refl refl) c.text_of.ensures.text

pub returns-clause-refused : goal.returns-clause-refused
returns-clause-refused c =
    let Told = Refuses (λ a. product_answer building_cases (bundle_view c.args.bundle.now) c.args.world.now ≡ a) in
    IfErr-weaker c.text_of.result _ Told (λ s e. subst Told (sym e) tt) c.text_of.ensures.stopped
