use Rattle.feature_model.specs.Contents.{line_view}
use Rattle.feature_model.proofs.ValidWorlds.{valid_told}
use Rattle.feature_model.proofs.line.Line.valid.Goals as goal

pub returns-clause-valid : goal.returns-clause-valid
returns-clause-valid c = valid_told (line_view c.args.self.now) c.args.world.now c.kept.result c.requires c.kept.ensures
