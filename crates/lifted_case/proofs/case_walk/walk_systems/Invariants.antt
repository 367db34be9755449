use Rattle.std.proofs.Common.{◌≡◌, ◌++◌, drop}
use Rattle.meaning.specs.Texts.{flat}
use Rattle.lifted_case.specs.CaseWritten.{conditions_of_system}
use Rattle.lifted_case.proofs.case_walk.walk_systems.Given as goal

abbrev pub invariant-systems : goal.invariant-systems
invariant-systems l = l.walk.items ++ flat conditions_of_system (drop l.system-index l.systems) ≡ l.initial.walk.items ++ flat conditions_of_system l.systems
