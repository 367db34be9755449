use Rattle.std.proofs.Common.{◌∙◌, ap, sym, length}
use Rattle.feature_model.proofs.FeatureLists.{length_with}
use Rattle.feature_model.proofs.Lines.{sound_is_proper}
use Rattle.feature_model.proofs.line.Line.count.Goals as goal

pub returns-clause-count : goal.returns-clause-count
returns-clause-count c =
    let l = c.self.inside in
    c.count.ensures.count ∙ (sym (length_with l.names l.placed.items c.self.invariant.all_placed) ∙ ap (λ s. length s.features) c.self.view_is)

pub returns-clause-proper : goal.returns-clause-proper
returns-clause-proper c = rw (← c.self.view_is) (sound_is_proper c.self.inside c.self.invariant)
