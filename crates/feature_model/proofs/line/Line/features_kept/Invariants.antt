use Rattle.std.proofs.Common.{◌≡◌, drop}
use Rattle.std.specs.List.{enumerate_from}
use Rattle.meaning.specs.Texts.{flat, numbered, first_of_list}
use Rattle.feature_model.specs.Breaks.{feature_breaks}
use Rattle.feature_model.proofs.line.Line.features_kept.Given as goal

abbrev pub invariant-features : goal.invariant-features
invariant-features l =
    first_of_list (flat (feature_breaks l.self.features l.world) (enumerate_from l.no (drop l.no l.self.features)))
    ≡ first_of_list (flat (feature_breaks l.self.features l.world) (numbered l.self.features))
