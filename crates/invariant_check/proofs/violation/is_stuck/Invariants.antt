use Rattle.std.proofs.Common.{◌≡◌, drop, map}
use Rattle.std.specs.Prelude.{◌==◌, filter}
use Rattle.std.specs.List.{list_any, enumerate_from}
use Rattle.meaning.specs.Expressions.{truth}
use Rattle.meaning.specs.Texts.{numbered}
use Rattle.annotated_model.specs.View.{transition_view}
use Rattle.invariant_check.proofs.violation.is_stuck.Given as goal

abbrev pub invariant-loop-transition : goal.invariant-loop-transition
invariant-loop-transition l =
    list_any (λ t. t.1.source == l.state) (filter (λ t. truth t.1.presence l.world) (numbered (map transition_view l.system.transitions)))
    ≡ list_any (λ t. t.1.source == l.state) (filter (λ t. truth t.1.presence l.world) (enumerate_from l.transition-index (map transition_view (drop l.transition-index l.system.transitions))))
