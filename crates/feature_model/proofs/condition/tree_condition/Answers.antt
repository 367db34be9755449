use Rattle.std.proofs.Common.{◌≡◌, ◌∙◌, ap₂}
use Rattle.std.proofs.lemmas.Result.{IfOk-weaker}
use Rattle.meaning.specs.Expressions.{Both}
use Rattle.cond_text.specs.View.{expression}
use Rattle.feature_model.specs.Groups.{group_view}
use Rattle.feature_model.specs.Conditions.{child_condition, mandatory_condition}
use Rattle.feature_model.proofs.condition.tree_condition.Goals as goal

pub returns : goal.returns
returns c =
    IfOk-weaker c.both.result _ (λ e. expression e ≡ Both (child_condition c.args.no c.args.placed.parent) (mandatory_condition c.args.no (group_view c.args.placed.group) c.args.placed.parent))
    (λ e h. h ∙ ap₂ (λ a b. Both a b) c.in_ok-child.ensures c.in_ok-mandatory.ensures) c.both.ensures
