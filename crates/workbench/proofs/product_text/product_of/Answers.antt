use Rattle.std.proofs.Common.{◌≡◌, sym, ◌∙◌, ap, subst, ℕ, List, Bool, not, length}
use Rattle.std.proofs.lemmas.List.{length-map}
use Rattle.std.proofs.lemmas.Result.{IfOk-weaker, IfErr-weaker}
use Rattle.meaning.specs.Features.{feature_names, is_valid}
use Rattle.meaning.specs.Configurations.{World}
use Rattle.meaning.specs.Derivation.{Bundle}
use Rattle.meaning.specs.Answers.{Prints, configured, product_answer}
use Rattle.feature_model.specs.Contents.{line_view}
use Rattle.workbench.specs.declared.status.Status.{Status}
use Rattle.workbench.specs.BuildingStage.{building_cases}
use Rattle.workbench.specs.BundleView.{bundle_view}
use Rattle.workbench.specs.Run.{Refuses}
use Rattle.workbench.specs.Readings.{StopsConfiguration, AnswersProduct}
use Rattle.workbench.proofs.Exits.{stops_with}
use Rattle.workbench.proofs.TextAnswers.{text_answered, text_refused, text_stops, not_valid}
use Rattle.workbench.proofs.product_text.product_of.Goals as goal

-- the features that were handed on are those of the line
named_stops : (b : Bundle) (name chosen : List ℕ) (features : List (List ℕ)) (s : Status) → features ≡ feature_names b.line
    → StopsConfiguration (configured features name chosen) s → Refuses (AnswersProduct b name chosen) s
named_stops b name chosen features s e h = text_stops b name chosen s (subst (λ ns. StopsConfiguration (configured ns name chosen) s) e h)

-- and so is the world
named_world : (name chosen : List ℕ) (features names : List (List ℕ)) (v w : List Bool) → features ≡ names → w ≡ v
    → configured features name chosen ≡ World v → configured names name chosen ≡ World w
named_world name chosen features names v w e f h = ap (λ ns. configured ns name chosen) (sym e) ∙ h ∙ ap World (sym f)

pub valid-requires : goal.valid-requires
valid-requires c =
    ap length c.list.ensures ∙ c.in_ok-world.ensures.each_feature ∙ ap length c.features.ensures ∙ length-map c.args.bundle.now.line.features (λ f. f.name)

pub returns-in_err-world-clause-refused : goal.returns-in_err-world-clause-refused
returns-in_err-world-clause-refused c =
    stops_with _ _ _ c.from_residual.ensures.1
    (named_stops (bundle_view c.args.bundle.now) c.args.name.now c.args.chosen.now c.features.result.now _ c.features.ensures c.in_err-world.ensures.stopped)

pub returns-then-is_err-clause-refused : goal.returns-then-is_err-clause-refused
returns-then-is_err-clause-refused c =
    let b = bundle_view c.args.bundle.now in
    let name = c.args.name.now in
    let chosen = c.args.chosen.now in
    let w = c.list.result.now in
    let names = named_world name chosen c.features.result.now (feature_names b.line) c.in_ok-world.world w c.features.ensures c.list.ensures c.in_ok-world.ensures.world in
    not_valid b name chosen w names (sym c.valid.ensures.valid ∙ c.is_err.ensures.negation ∙ ap not c.if-is_err.true)

pub product_text-requires-clause-length : goal.product_text-requires-clause-length
product_text-requires-clause-length c =
    ap length c.list-2.ensures ∙ c.in_ok-world.ensures.each_feature ∙ ap length c.features.ensures ∙ length-map c.args.bundle.now.line.features (λ f. f.name)

pub product_text-requires-clause-valid : goal.product_text-requires-clause-valid
product_text-requires-clause-valid c =
    ap (is_valid (line_view c.args.bundle.now.line)) (c.list-2.ensures ∙ sym c.list.ensures)
    ∙ sym c.valid.ensures.valid ∙ c.is_err.ensures.negation ∙ ap not c.if-is_err.false

pub returns-clause-text : goal.returns-clause-text
returns-clause-text c =
    let b = bundle_view c.args.bundle.now in
    let name = c.args.name.now in
    let chosen = c.args.chosen.now in
    let w = c.list-2.result.now in
    let names = named_world name chosen c.features.result.now (feature_names b.line) c.in_ok-world.world w c.features.ensures c.list-2.ensures c.in_ok-world.ensures.world in
    let valid = ap (is_valid (line_view c.args.bundle.now.line)) (c.list-2.ensures ∙ sym c.list.ensures) ∙ sym c.valid.ensures.valid ∙ c.is_err.ensures.negation ∙ ap not c.if-is_err.false in
    IfOk-weaker c.product_text.result (λ v. product_answer building_cases b w ≡ Prints v.items) (λ v. AnswersProduct b name chosen (Prints v.items))
    (λ v h. text_answered b name chosen w names valid (Prints v.items) h) c.product_text.ensures.text

pub returns-clause-refused : goal.returns-clause-refused
returns-clause-refused c =
    let b = bundle_view c.args.bundle.now in
    let name = c.args.name.now in
    let chosen = c.args.chosen.now in
    let w = c.list-2.result.now in
    let names = named_world name chosen c.features.result.now (feature_names b.line) c.in_ok-world.world w c.features.ensures c.list-2.ensures c.in_ok-world.ensures.world in
    let valid = ap (is_valid (line_view c.args.bundle.now.line)) (c.list-2.ensures ∙ sym c.list.ensures) ∙ sym c.valid.ensures.valid ∙ c.is_err.ensures.negation ∙ ap not c.if-is_err.false in
    IfErr-weaker c.product_text.result (Refuses (λ a. product_answer building_cases b w ≡ a)) (Refuses (AnswersProduct b name chosen))
    (λ s h. text_refused b name chosen w names valid s h) c.product_text.ensures.refused
