use Rattle.std.proofs.Common.{◌≡◌, drop, map}
use Rattle.cond_text.specs.View.{expression}
use Rattle.feature_model.specs.Conditions.{and_all}
use Rattle.feature_model.proofs.condition.and_constraints.Given as goal

abbrev pub invariant-constraints : goal.invariant-constraints
invariant-constraints l =
    and_all (expression l.all) (map expression (drop l.constraint-index l.constraints)) ≡ and_all (expression l.fn.features) (map expression l.constraints)
