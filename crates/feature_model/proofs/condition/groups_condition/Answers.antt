use Rattle.std.proofs.Common.{◌≡◌, ◌∙◌, ap₂}
use Rattle.std.proofs.lemmas.Result.{IfOk-weaker}
use Rattle.meaning.specs.Expressions.{Both}
use Rattle.cond_text.specs.View.{expression}
use Rattle.feature_model.specs.Conditions.{or_condition, alternative_condition}
use Rattle.feature_model.proofs.condition.groups_condition.Goals as goal

pub returns : goal.returns
returns c =
    IfOk-weaker c.both.result _ (λ e. expression e ≡ Both (or_condition c.args.no c.args.ors.now) (alternative_condition c.args.no c.args.alternatives.now))
    (λ e h. h ∙ ap₂ (λ a b. Both a b) c.in_ok-or_group.ensures c.in_ok-alternative.ensures) c.both.ensures
