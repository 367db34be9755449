use Rattle.std.proofs.Common.{◌≡◌, ◌++◌, reverse}
use Rattle.std.specs.Prelude.{unwrap_or}
use Rattle.meaning.specs.Models.{projection}
use Rattle.meaning.specs.Systems.{distance, run_to}
use Rattle.annotated_model.specs.View.{system_view}
use Rattle.invariant_check.proofs.running.run_back.Given as goal

abbrev pub invariant-back : goal.invariant-back
invariant-back g l =
    let s = projection l.world (system_view l.system) in
    run_to s l.fn.last ≡ ((run_to s l.state).0, (run_to s l.state).1 ++ reverse l.steps.items)

abbrev pub decreases-back : goal.decreases-back
decreases-back g l = unwrap_or (distance (projection l.world (system_view l.system)) l.state) 0
