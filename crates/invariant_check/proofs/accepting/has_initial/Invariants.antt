use Rattle.std.proofs.Common.{◌≡◌, drop, map}
use Rattle.std.specs.Prelude.{◌||◌, not}
use Rattle.std.specs.List.{list_all, enumerate_from}
use Rattle.meaning.specs.Texts.{numbered, holds_at}
use Rattle.annotated_model.specs.View.{state_view}
use Rattle.invariant_check.proofs.accepting.has_initial.Given as goal

abbrev pub invariant-loop-number : goal.invariant-loop-number
invariant-loop-number l =
    list_all (λ x. not x.1.initial || holds_at l.inside x.0) (numbered (map state_view l.system.states))
    ≡ list_all (λ x. not x.1.initial || holds_at l.inside x.0) (enumerate_from l.number (map state_view (drop l.number l.system.states)))
