use Rattle.std.proofs.Common.{◌≡◌, ◌∙◌, ap₂, ◌-◌, arith}
use Rattle.std.proofs.lemmas.Result.{IfOk-weaker}
use Rattle.meaning.specs.Expressions.{Both, Implies, Not}
use Rattle.cond_text.specs.View.{expression}
use Rattle.feature_model.specs.Conditions.{any_of, one_at_most}
use Rattle.feature_model.proofs.ConditionTruth.{halves}
use Rattle.feature_model.proofs.condition.+one_at_most.Goals as goal

pub returns : goal.returns
returns t c =
    let cs = c.args.children.now in
    let first = c.split_at.result.0.now in
    let others = c.split_at.result.1.now in
    let apart : expression c.in_ok-apart.apart ≡ Implies (any_of first) (Not (any_of others)) = c.in_ok-apart.ensures in
    let each : expression c.in_ok-of_each.of_each ≡ Both (one_at_most (c.args.depth - 1) first) (one_at_most (c.args.depth - 1) others) =
    c.in_ok-of_each.ensures ∙ ap₂ (λ a b. Both a b) c.in_ok-of_first.ensures c.in_ok-of_others.ensures in
    IfOk-weaker c.both-2.result _ (λ e. expression e ≡ one_at_most c.args.depth cs)
    (λ e h. h ∙ (ap₂ (λ a b. Both a b) apart each ∙ halves c.args.depth cs first others (omega arith) (omega arith) c.split_at.ensures.front c.split_at.ensures.back))
    c.both-2.ensures
