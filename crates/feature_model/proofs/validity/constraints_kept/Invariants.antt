use Rattle.std.proofs.Common.{◌≡◌, drop, map}
use Rattle.std.specs.List.{enumerate_from}
use Rattle.meaning.specs.Texts.{flat, numbered, first_of_list}
use Rattle.cond_text.specs.View.{expression}
use Rattle.feature_model.specs.Breaks.{constraint_breaks}
use Rattle.feature_model.proofs.validity.constraints_kept.Given as goal

abbrev pub invariant-constraints : goal.invariant-constraints
invariant-constraints l =
    first_of_list (flat (constraint_breaks l.world) (enumerate_from l.no (map expression (drop l.no l.constraints))))
    ≡ first_of_list (flat (constraint_breaks l.world) (numbered (map expression l.constraints)))
