use Rattle.feature_model.proofs.condition.+one_at_most.Given as goal

abbrev pub decreases-one_at_most : goal.decreases-one_at_most
decreases-one_at_most l = l.depth
