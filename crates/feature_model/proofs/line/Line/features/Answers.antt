use Rattle.std.proofs.Common.{sym}
use Rattle.feature_model.proofs.FeatureLists.{names_with}
use Rattle.feature_model.proofs.line.Line.features.Goals as goal

pub returns : goal.returns
returns c = rw (← c.self.view_is) (sym (names_with c.self.inside.names c.self.inside.placed.items c.self.invariant.all_placed))
