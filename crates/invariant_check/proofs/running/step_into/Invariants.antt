use Rattle.std.proofs.Common.{◌≡◌, map, drop}
use Rattle.std.specs.Prelude.{◌==◌, ◌&&◌, find}
use Rattle.std.specs.List.{enumerate_from}
use Rattle.meaning.specs.Texts.{numbered, holds_at}
use Rattle.annotated_model.specs.View.{transition_view}
use Rattle.invariant_check.specs.Running.{all_has}
use Rattle.invariant_check.proofs.running.step_into.Given as goal

abbrev pub invariant-loop-step : goal.invariant-loop-step
invariant-loop-step g l =
    let marks = all_has (g.W.Worlds.algebra l.w) l.parents l.world in
    find (λ t. (t.1.target == l.state) && holds_at marks t.0) (numbered (map transition_view l.transitions))
    ≡ find (λ t. (t.1.target == l.state) && holds_at marks t.0) (enumerate_from l.step (map transition_view (drop l.step l.transitions)))
