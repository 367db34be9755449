use Rattle.conditions.proofs.Laws.{never_holds}
use Rattle.conditions.proofs.diagrams.DiagramsWorlds.never.Goals as goal

pub returns : goal.returns
returns c = never_holds c.args.self.now
