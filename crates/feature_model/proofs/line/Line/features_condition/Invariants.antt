use Rattle.std.proofs.Common.{◌≡◌, drop, map}
use Rattle.std.specs.List.{enumerate_from}
use Rattle.meaning.specs.Texts.{numbered}
use Rattle.cond_text.specs.View.{expression}
use Rattle.feature_model.specs.Conditions.{feature_condition, and_all, root_condition}
use Rattle.feature_model.proofs.line.Line.features_condition.Given as goal

abbrev pub invariant-features : goal.invariant-features
invariant-features l =
    and_all (expression l.all) (map (feature_condition l.self.features) (enumerate_from l.no (drop l.no l.self.features)))
    ≡ and_all (root_condition l.self.features) (map (feature_condition l.self.features) (numbered l.self.features))
