use Rattle.conditions.proofs.Laws.{Kept-asks}
use Rattle.conditions.proofs.diagrams.DiagramsWorlds.either.Goals as goal

pub returns-clause-kept : goal.returns-clause-kept
returns-clause-kept c = Kept-asks c.args.self.now c.ask.new.self _ c.ask.result c.ask.ensures
