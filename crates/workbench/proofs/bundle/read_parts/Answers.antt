use Rattle.std.proofs.Common.{◌∙◌, ap, sym, length, subst, []}
use Rattle.std.specs.Prelude.{◌≡◌}
use Rattle.std.proofs.lemmas.Result.{IfOk-weaker, IfErr-weaker}
use Rattle.meaning.specs.Features.{feature_names}
use Rattle.meaning.specs.TemplateTexts.{templates_of}
use Rattle.meaning.specs.TemplateRules.{template_faults}
use Rattle.meaning.specs.BundleRules.{faults_of_readers}
use Rattle.doc_tree.specs.View.{document}
use Rattle.feature_model.specs.Contents.{line_view}
use Rattle.annotated_model.specs.ModelFacts.{NamesFeatures}
use Rattle.workbench.specs.BundleView.{IsBundleOf}
use Rattle.workbench.specs.Readings.{TellsFirst}
use Rattle.workbench.proofs.Exits.{stops_with}
use Rattle.workbench.proofs.BundleParts.{line_told, model_told, templates_told, no_fault_of_readers, parts_are_bundle}
use Rattle.workbench.proofs.bundle.read_parts.Goals as goal

pub returns-in_err-line-clause-stopped : goal.returns-in_err-line-clause-stopped
returns-in_err-line-clause-stopped c = stops_with _ _ _ c.from_residual.ensures.1 (line_told (document c.args.bundle.now) _ c.in_err-line.ensures.stopped)

pub returns-in_err-model-clause-stopped : goal.returns-in_err-model-clause-stopped
returns-in_err-model-clause-stopped c =
    let names = c.features.ensures ∙ ap (λ l. feature_names (line_view l)) c.deref.ensures in
    stops_with _ _ _ c.from_residual-in_err-model.ensures.1
    (model_told (document c.args.bundle.now) (line_view c.in_ok-line.line.value) c.in_ok-line.ensures.is c.features.result.now names
    c.in_ok-line.ensures.rules _ c.in_err-model.ensures.stopped)

pub returns-in_err-templates-clause-stopped : goal.returns-in_err-templates-clause-stopped
returns-in_err-templates-clause-stopped c =
    let d = document c.args.bundle.now in
    let names = c.features.ensures ∙ ap (λ l. feature_names (line_view l)) c.deref.ensures in
    stops_with _ _ _ c.from_residual-in_err-templates.ensures.1
    (templates_told d (line_view c.in_ok-line.line.value) c.in_ok-line.ensures.is c.features.result.now names
    c.in_ok-model.model.value c.in_ok-model.ensures.is c.in_ok-line.ensures.rules c.in_ok-model.ensures.rules c.in_err-templates.field-0.0
    (subst (λ m. TellsFirst (template_faults m d) c.in_err-templates.field-0.0) c.deref-2.ensures c.in_err-templates.ensures.stopped))

pub returns-clause-is : goal.returns-clause-is
returns-clause-is c =
    let d = document c.args.bundle.now in
    let names = c.features.ensures ∙ ap (λ l. feature_names (line_view l)) c.deref.ensures in
    IfOk-weaker c.joined.result _ (λ b. IsBundleOf d b.value)
    (λ b e. subst (IsBundleOf d) (sym e) (record {
      is =
          parts_are_bundle d (line_view c.in_ok-line.line.value) c.in_ok-line.ensures.is c.features.result.now names
          c.in_ok-model.model.value c.in_ok-model.ensures.is c.in_ok-title.title c.in_ok-templates.templates.value (c.in_ok-title.ensures ∙ c.text_at.ensures)
          (c.in_ok-templates.ensures.is ∙ ap (λ m. templates_of m d) c.deref-2.ensures);
      names = subst (λ ns. NamesFeatures (length ns) c.in_ok-model.model.value) names c.in_ok-model.ensures.names;
    })) c.joined.ensures.is

pub returns-clause-rules : goal.returns-clause-rules
returns-clause-rules c =
    let d = document c.args.bundle.now in
    let names = c.features.ensures ∙ ap (λ l. feature_names (line_view l)) c.deref.ensures in
    IfOk-weaker c.joined.result _ (λ _. faults_of_readers d ≡ [])
    (λ _ _. no_fault_of_readers d (line_view c.in_ok-line.line.value) c.in_ok-line.ensures.is c.features.result.now names
    c.in_ok-model.model.value c.in_ok-model.ensures.is c.in_ok-line.ensures.rules c.in_ok-model.ensures.rules
    (ap (λ m. template_faults m d) (sym c.deref-2.ensures) ∙ c.in_ok-templates.ensures.rules)) c.joined.ensures.is

pub returns-clause-stopped : goal.returns-clause-stopped
returns-clause-stopped c =
    let fs = faults_of_readers (document c.args.bundle.now) in
    IfErr-weaker c.joined.result _ (TellsFirst fs) (λ s e. subst (TellsFirst fs) (sym e) tt) c.joined.ensures.stopped
