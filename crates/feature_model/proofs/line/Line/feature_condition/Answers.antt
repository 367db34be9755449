use Rattle.std.proofs.Common.{◌≡◌, ◌∙◌, ap, ap₂, sym, Some, slice_get}
use Rattle.std.proofs.lemmas.Result.{IfOk-weaker}
use Rattle.std.proofs.lemmas.Option.{same_Some}
use Rattle.meaning.specs.Expressions.{Both}
use Rattle.meaning.specs.Features.{Feature}
use Rattle.cond_text.specs.View.{expression}
use Rattle.feature_model.specs.Line.{feature_with}
use Rattle.feature_model.specs.Conditions.{or_condition, alternative_condition, feature_condition}
use Rattle.feature_model.proofs.line.Line.feature_condition.Goals as goal

pub returns : goal.returns
returns c =
    let fs = c.args.self.now.features in
    let placed = feature_with c.placed-placed.ensures.name c.placed-placed.result in
    let parts : Both (expression c.in_ok-tree.tree) (expression c.in_ok-groups.groups) ≡ feature_condition fs (c.args.no, placed) =
    ap₂ (λ a b. Both a b) c.in_ok-tree.ensures
    (c.in_ok-groups.ensures ∙ ap₂ (λ a b. Both a b) (ap (or_condition c.args.no) c.ors.ensures) (ap (alternative_condition c.args.no) c.alternatives.ensures)) in
    IfOk-weaker c.both.result _ (λ e. (f : Feature) → slice_get fs c.args.no ≡ Some f → expression e ≡ feature_condition fs (c.args.no, f))
    (λ e h f is. h ∙ (parts ∙ ap (λ f. feature_condition fs (c.args.no, f)) (same_Some placed f (sym c.placed-placed.ensures.there ∙ is)))) c.both.ensures
