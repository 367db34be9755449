use Rattle.conditions.specs.Questions.{weight_of}
use Rattle.conditions.proofs.applier.Applier.+apply.Given as goal

abbrev pub decreases-apply : goal.decreases-apply
decreases-apply l = weight_of l.question
