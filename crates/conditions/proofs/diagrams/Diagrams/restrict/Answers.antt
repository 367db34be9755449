use Rattle.std.proofs.Common.{subst, sym}
use Rattle.conditions.specs.Diagrams.{State, IsRestricted}
use Rattle.conditions.proofs.Laws.{IsRestricted-to}
use Rattle.conditions.proofs.diagrams.Diagrams.restrict.Goals as goal

pub returns-clause-restricted : goal.returns-clause-restricted
returns-clause-restricted c =
    subst (λ (s : State). IsRestricted c.args.self.now (record s { valid = c.args.c }) c.args.c) (sym c.self.view_is) (IsRestricted-to c.args.self.now c.args.c c.requires)
