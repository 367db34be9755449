use Rattle.std.proofs.Common.{◌≡◌, true, false, get_or}
use Rattle.std.specs.Prelude.{filter}
use Rattle.meaning.specs.Texts.{numbers_from}
use Rattle.worlds.specs.Rows.{row_at}
use Rattle.invariant_check.specs.Findings.{targets_at}
use Rattle.invariant_check.specs.Targets.{AreTargets}
use Rattle.invariant_check.proofs.targets.listed.Given as goal

abbrev pub invariant-loop-state : goal.invariant-loop-state
invariant-loop-state g l =
    let a = g.W.Worlds.algebra l.w in
    record {
      listed : AreTargets a l.targets.items l.state;
      targets : (x : _) → a.is_world x ≡ true → targets_at a l.targets.items x ≡ filter (λ i. get_or (row_at a l.row x) i false) (numbers_from 0 l.state);
    }
