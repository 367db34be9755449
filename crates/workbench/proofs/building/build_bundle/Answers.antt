use Rattle.std.proofs.Common.{◌≡◌, ap, sym, ◌∙◌, ◌≤◌, length, true, arith}
use Rattle.std.proofs.lemmas.List.{length-map}
use Rattle.std.proofs.lemmas.Result.{IfErr-weaker}
use Rattle.meaning.specs.Counts.{greatest_count}
use Rattle.meaning.specs.Features.{feature_names}
use Rattle.meaning.specs.Answers.{IsBuildAnswer, ShowsCase}
use Rattle.meaning.specs.TopCall.{open_under}
use Rattle.conditions.specs.Diagrams.{State}
use Rattle.workbench.specs.BuildingStage.{building_cases}
use Rattle.workbench.specs.BundleView.{bundle_view}
use Rattle.workbench.specs.Limits.{LeftAs, OpenedOver, diagrams_of}
use Rattle.workbench.specs.Products.{StopsOver}
use Rattle.workbench.specs.Run.{StopsBuilding}
use Rattle.workbench.specs.StatusView.{status_view}
use Rattle.workbench.proofs.BuildAnswers.{stops_building}
use Rattle.workbench.proofs.Exits.{stops_with, on_each_ok}
use Rattle.workbench.proofs.OpenedDiagrams.{is_open, is_shut, shut_is_opened, over_left, untold}
use Rattle.workbench.proofs.building.build_bundle.Goals as goal
use Rattle.workbench.proofs.building.build_bundle.Goals.{After-built_over-answer}

with_limit : (c : After-built_over-answer) → c.built_over-answer.new.d.region.limit ≡ c.args.limit
with_limit c = c.built_over-answer.ensures.kept.limit ∙ ap (λ (x : State). x.region.limit) c.in_ok-start.ensures.ok

there : (c : After-built_over-answer) → (diagrams_of c.built_over-answer.new.d).is_open ≡ true
there c = is_open c.built_over-answer.new.d c.args.limit c.requires.limit.some (with_limit c)

pub returns-clause-stopped : goal.returns-clause-stopped
returns-clause-stopped c =
    let b = bundle_view c.args.bundle.now in
    let opened = c.start.new.self in
    let new = c.built_over-answer.new.d in
    let few : new.refused ≤ greatest_count = omega (arith, c.refused-refused.ensures.value) in
    IfErr-weaker c.built_over-answer.result (StopsOver b opened new)
    (StopsBuilding (diagrams_of c.args.d.now) (diagrams_of new) (IsBuildAnswer building_cases b ShowsCase))
    (λ s h. stops_building b c.args.limit c.args.d.now opened new s c.requires.limit.some
    (ap (λ (x : State). x.region.limit) c.in_ok-start.ensures.ok) (ap (λ (x : State). x.refused) c.in_ok-start.ensures.ok)
    c.built_over-answer.ensures.kept few c.refused-refused.ensures.bounded h)
    c.built_over-answer.ensures.stopped

pub returns-clause-opened : goal.returns-clause-opened
returns-clause-opened c = λ is_open. record {
  with_limit = with_limit (goal.at.returns-clause-opened c).After-built_over-answer;
  over =
      c.built_over-answer.ensures.kept.vars ∙ ap (λ (x : State). x.region.vars) c.in_ok-start.ensures.ok ∙ c.count.ensures.count
      ∙ sym (length-map c.args.bundle.now.line.features (λ f. f.name));
}

pub returns-clause-open : goal.returns-clause-open
returns-clause-open c =
    on_each_ok c.built_over-answer.result ((diagrams_of c.built_over-answer.new.d).is_open ≡ true)
    (there (goal.at.returns-clause-open c).After-built_over-answer)

pub returns-clause-left : goal.returns-clause-left
returns-clause-left c =
    let b = bundle_view c.args.bundle.now in
    let new = c.built_over-answer.new.d in
    IfErr-weaker c.built_over-answer.result (StopsOver b c.start.new.self new) (λ s. LeftAs (open_under (status_view s)) (diagrams_of new))
    (λ s h. over_left b c.start.new.self new (there (goal.at.returns-clause-left c).After-built_over-answer) s h) c.built_over-answer.ensures.stopped
