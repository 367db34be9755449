use Rattle.std.proofs.Common.{◌≡◌, ◌∙◌, ◌<◌, length, get_or, [], None, Some, slice_get, arith}
use Rattle.std.proofs.lemmas.Option.{slice_get-get_or}
use Rattle.std.proofs.lemmas.Result.{err_from_is_err_and}
use Rattle.meaning.specs.Features.{Feature, Optional}
use Rattle.feature_model.proofs.ValidWorlds.{walk_passes, walk_stops}
use Rattle.feature_model.proofs.line.Line.features_kept.Goals as goal

pub returns-in_err-feature_kept : goal.returns-in_err-feature_kept
returns-in_err-feature_kept c =
    let fs = c.args.self.now.features in
    let none : Feature = record { name = []; parent = None; group = Optional } in
    let below : c.features.no < length fs = omega (arith, c.count-no-end.ensures.count) in
    let f = get_or fs c.features.no none in
    let is : slice_get fs c.features.no ≡ Some f = slice_get-get_or fs c.features.no none below in
    let p = err_from_is_err_and c.from_residual.result c.from_residual.ensures.1 in
    rw (p.1, p.2) (walk_stops fs c.args.world.now c.features.no f c.in_err-feature_kept.field-0.0 is (c.in_err-feature_kept.ensures f is) ∙ c.features.invariant)

pub features-preserved : goal.features-preserved
features-preserved c =
    let fs = c.args.self.now.features in
    let none : Feature = record { name = []; parent = None; group = Optional } in
    let below : c.features.no < length fs = omega (arith, c.count-no-end.ensures.count) in
    let f = get_or fs c.features.no none in
    let is : slice_get fs c.features.no ≡ Some f = slice_get-get_or fs c.features.no none below in
    walk_passes fs c.args.world.now c.features.no f is (c.in_ok-feature_kept.ensures f is) ∙ c.features.invariant
