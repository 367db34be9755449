use Rattle.std.proofs.Common.{◌≡◌, ◌∙◌, ap, sym, ◌+◌, ◌<◌, [], None, Some, map, drop, length, get_or, slice_get, arith}
use Rattle.std.specs.List.{enumerate_from}
use Rattle.std.proofs.lemmas.Option.{slice_get-get_or}
use Rattle.meaning.specs.Expressions.{Both}
use Rattle.meaning.specs.Features.{Feature, Optional}
use Rattle.cond_text.specs.View.{expression}
use Rattle.feature_model.specs.Conditions.{feature_condition, and_all}
use Rattle.feature_model.proofs.ConditionTruth.{next_feature}
use Rattle.feature_model.proofs.line.Line.features_condition.Goals as goal

pub features-preserved : goal.features-preserved
features-preserved c =
    let fs = c.args.self.now.features in
    let i = c.features.no in
    let none : Feature = record { name = []; parent = None; group = Optional } in
    let below : i < length fs = omega (arith, c.count-count.ensures.count) in
    let f = get_or fs i none in
    let is : slice_get fs i ≡ Some f = slice_get-get_or fs i none below in
    ap (λ e. and_all e (map (feature_condition fs) (enumerate_from (i + 1) (drop (i + 1) fs))))
    (c.in_ok-all.ensures ∙ ap (Both (expression c.features.all)) (c.in_ok-feature_condition.ensures f is))
    ∙ (sym (next_feature fs i f (expression c.features.all) is) ∙ c.features.invariant)
