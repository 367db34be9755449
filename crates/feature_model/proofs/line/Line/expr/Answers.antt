use Rattle.std.proofs.Common.{◌≡◌, ◌∙◌, ap, ◌+◌, ◌*◌, ◌≤◌, List, length, Bool}
use Rattle.std.proofs.lemmas.Result.{IfOk-weaker}
use Rattle.std.proofs.lemmas.List.Elements.{All-map}
use Rattle.meaning.specs.Expressions.{truth, name_bound, size_of}
use Rattle.meaning.specs.Features.{is_valid}
use Rattle.cond_text.specs.View.{expression}
use Rattle.feature_model.specs.Contents.{line_view, constraints_size}
use Rattle.feature_model.proofs.ConditionTruth.{condition_truth}
use Rattle.feature_model.proofs.ConditionSizes.{condition_size}
use Rattle.feature_model.proofs.ConditionNames.{condition_bound}
use Rattle.feature_model.proofs.line.Line.expr.Goals as goal

pub returns-clause-truth : goal.returns-clause-truth
returns-clause-truth c =
    let line = line_view c.args.self.now in
    IfOk-weaker c.condition.result _ (λ e. (w : List Bool) → length w ≡ length c.args.self.now.features → truth (expression e) w ≡ is_valid line w)
    (λ e h w many. ap (λ x. truth x w) h ∙ condition_truth line w c.condition.ensures.proper.few many) c.condition.ensures.value

pub returns-clause-names : goal.returns-clause-names
returns-clause-names c =
    let line = line_view c.args.self.now in
    let proper = c.condition.ensures.proper in
    IfOk-weaker c.condition.result _ (λ e. name_bound (expression e) ≤ length c.args.self.now.features)
    (λ e h. rw h (condition_bound line proper.parents (All-map (λ x. name_bound x ≤ length line.features) expression c.args.self.now.constraints proper.bounds))) c.condition.ensures.value

pub returns-clause-size : goal.returns-clause-size
returns-clause-size c =
    let line = line_view c.args.self.now in
    IfOk-weaker c.condition.result _ (λ e. size_of (expression e) ≤ 1 + 40 * length c.args.self.now.features + constraints_size c.args.self.now)
    (λ e h. rw h (condition_size line c.condition.ensures.proper.few_children)) c.condition.ensures.value
