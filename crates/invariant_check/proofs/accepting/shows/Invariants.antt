use Rattle.std.proofs.Common.{◌≡◌, drop, map}
use Rattle.std.specs.Prelude.{◌||◌, not}
use Rattle.std.specs.List.{list_all, enumerate_from}
use Rattle.meaning.specs.Models.{projection}
use Rattle.meaning.specs.Systems.{violates}
use Rattle.meaning.specs.Texts.{numbered, holds_at}
use Rattle.annotated_model.specs.View.{state_view, system_view}
use Rattle.invariant_check.specs.View.{property}
use Rattle.invariant_check.proofs.accepting.shows.Given as goal

abbrev pub invariant-loop-state : goal.invariant-loop-state
invariant-loop-state l =
    list_all (λ x. not (holds_at l.inside x.0) || not (violates l.labels (projection l.world (system_view l.system)) (property l.property) x.0)) (numbered (map state_view l.system.states))
    ≡ list_all (λ x. not (holds_at l.inside x.0) || not (violates l.labels (projection l.world (system_view l.system)) (property l.property) x.0)) (enumerate_from l.state (map state_view (drop l.state l.system.states)))
