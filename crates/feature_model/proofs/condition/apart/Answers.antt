use Rattle.std.proofs.Common.{◌≡◌, ◌∙◌, ap, ap₂}
use Rattle.std.proofs.lemmas.Result.{IfOk-weaker}
use Rattle.meaning.specs.Expressions.{Implies, Not}
use Rattle.cond_text.specs.View.{expression}
use Rattle.feature_model.specs.Conditions.{any_of}
use Rattle.feature_model.proofs.condition.apart.Goals as goal

pub returns : goal.returns
returns c =
    IfOk-weaker c.implies.result _ (λ e. expression e ≡ Implies (any_of c.args.first.now) (Not (any_of c.args.others.now)))
    (λ e h. h ∙ ap₂ (λ a b. Implies a b) c.in_ok-some.ensures (c.in_ok-none.ensures ∙ ap (λ a. Not a) c.in_ok-any_of.ensures)) c.implies.ensures
