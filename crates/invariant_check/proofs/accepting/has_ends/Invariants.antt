use Rattle.std.proofs.Common.{◌≡◌, drop, map}
use Rattle.std.specs.Prelude.{◌||◌, not, filter}
use Rattle.std.specs.List.{list_all, enumerate_from}
use Rattle.meaning.specs.Expressions.{truth}
use Rattle.meaning.specs.Texts.{numbered, holds_at}
use Rattle.annotated_model.specs.View.{transition_view}
use Rattle.invariant_check.proofs.accepting.has_ends.Given as goal

abbrev pub invariant-loop-transition : goal.invariant-loop-transition
invariant-loop-transition l =
    list_all (λ t. not (holds_at l.inside t.1.source) || holds_at l.inside t.1.target) (filter (λ t. truth t.1.presence l.world) (numbered (map transition_view l.system.transitions)))
    ≡ list_all (λ t. not (holds_at l.inside t.1.source) || holds_at l.inside t.1.target) (filter (λ t. truth t.1.presence l.world) (enumerate_from l.transition-index (map transition_view (drop l.transition-index l.system.transitions))))
