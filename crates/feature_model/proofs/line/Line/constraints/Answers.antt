use Rattle.feature_model.proofs.Lines.{sound_is_proper}
use Rattle.feature_model.proofs.line.Line.constraints.Goals as goal

pub returns-clause-few : goal.returns-clause-few
returns-clause-few c = rw (c.as_slice.ensures.value) c.self.invariant.few_constraints

pub returns-clause-bounds : goal.returns-clause-bounds
returns-clause-bounds c = rw (c.as_slice.ensures.value, ← c.self.view_is) (sound_is_proper c.self.inside c.self.invariant).bounds
