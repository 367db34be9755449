use Rattle.std.proofs.Common.{◌≡◌, drop}
use Rattle.cond_text.specs.View.{expression}
use Rattle.feature_model.specs.Conditions.{any_or, any_of}
use Rattle.feature_model.proofs.condition.any_of.Given as goal

abbrev pub invariant-children : goal.invariant-children
invariant-children l = any_or (expression l.any) (drop l.child-index l.children) ≡ any_of l.children
